-- `asm SOURCE NAME`: the file of a source under a name.
use Rattle.std.specs.Prelude.{◌≡◌, ℕ, List, [], ◌∷◌, length, Option, Some, Result, Ok}
use Rattle.std.specs.FinMap.{get, insert}
use Rattle.dl_asm.specs.File.{file_of}
use Rattle.dl_asm.specs.Sources.{lines_of, words_in}
use Rattle.dl_files.specs.Contents.{Contents}
use Rattle.spec_program.specs.declared.status.Status.{Status}
use Rattle.spec_program.specs.Ends.{TookAll}
use Rattle.spec_program.specs.Lines.{assembled_line}
use Rattle.spec_program.specs.Operands.{file_at}
use Rattle.spec_program.specs.Outcomes.{Finish, filed}
use Rattle.spec_program.specs.Sources.{assembled}
use Rattle.spec_program.specs.Stages.{Refused, ◌>>◌}

abbrev pub reads : (source : List ℕ) → List (List ℕ)
reads source = source ∷ []

abbrev pub finish : (name : List ℕ) → (file : List ℕ) → Finish
finish name file = filed name file (assembled_line (length file))

-- of a source that is read
abbrev pub outcome_in : (name : List ℕ) → (source : List ℕ) → Result Finish Refused
outcome_in name source = assembled source >> λ file. Ok (finish name file)

abbrev pub outcome : Contents → (source name : List ℕ) → Result Finish Refused
outcome m source name = file_at m source >> outcome_in name

-- no line of that source breaks a rule, and the named file holds the file of its words
pub record IsAssembled (source name : List ℕ) (m : Contents) (known : Option Contents) (old new : Option (List ℕ)) (s : Status) : Type 0 where
  pub bytes : List ℕ
  pub there : get m source ≡ Some bytes
  pub kept : assembled bytes ≡ Ok (file_of (words_in (lines_of bytes)))
  pub files : known ≡ Some (insert m name (file_of (words_in (lines_of bytes))))
  pub output : TookAll (assembled_line (length (file_of (words_in (lines_of bytes))))) old new
  pub status : s ≡ Status.Done
