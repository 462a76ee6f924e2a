-- What MemFiles and MemSink are seen as: files, or what was taken, and the calls that fail.
use Rattle.std.specs.Prelude.{ℕ, Bool, List, Option, refl}
use Rattle.std.specs.Coded.{Coded, code_by, coded×, coded_ℕ, coded_bool, coded_list, coded_option}
use Rattle.dl_files.specs.Calls.{Numbered, numbered_code}
use Rattle.dl_files.specs.Contents.{Contents, contents_code}

-- the files, their calls, the name of the last fault, whether the last call that was to change a file failed, and the size of the
-- largest piece that was asked for
pub record StagedFiles : Type 0 where
  pub contents : Contents
  pub calls : Numbered
  pub last_fault : Option (List ℕ)
  pub unwritten : Bool
  pub largest : ℕ

-- what was taken, and the calls
pub record StagedSink : Type 0 where
  pub taken : List ℕ
  pub calls : Numbered

-- staged files are stored as their four parts
abbrev pub staged_files_code : Coded StagedFiles
staged_files_code =
    code_by (Contents × (Numbered × (Option (List ℕ) × (Bool × ℕ))))
    (coded× contents_code (coded× numbered_code (coded× (coded_option (coded_list coded_ℕ)) (coded× coded_bool coded_ℕ))))
    (λ s. (s.contents, (s.calls, (s.last_fault, (s.unwritten, s.largest)))))
    (λ p. record { contents = p.0; calls = p.1.0; last_fault = p.1.1.0; unwritten = p.1.1.1.0; largest = p.1.1.1.1 }) (λ _. refl)
