-- `migrate LOG NAME`: a log in version 2 under a name.
use Rattle.std.specs.Prelude.{◌≡◌, ℕ, List, [], ◌∷◌, length, Option, Some, Result, Ok}
use Rattle.std.specs.FinMap.{insert}
use Rattle.dl_files.specs.Contents.{Contents}
use Rattle.spec_log.specs.declared.LogParts.{LogParts}
use Rattle.spec_log.specs.Bytes.{log_bytes}
use Rattle.spec_log.specs.Migration.{migrated}
use Rattle.spec_program.specs.declared.status.Status.{Status}
use Rattle.spec_program.specs.Ends.{TookAll}
use Rattle.spec_program.specs.Lines.{migrated_line}
use Rattle.spec_program.specs.Operands.{IsLogAt, good_log_at}
use Rattle.spec_program.specs.Outcomes.{Finish, logged}
use Rattle.spec_program.specs.Stages.{Refused, ◌>>◌}

abbrev pub reads : (log : List ℕ) → List (List ℕ)
reads log = log ∷ []

-- the bytes of a log in version 2
abbrev pub bytes_of : LogParts → List ℕ
bytes_of log = log_bytes (migrated log)

-- the whole log is read before its new bytes are written, so that both names may be one
abbrev pub finish : (name : List ℕ) → LogParts → Finish
finish name log = logged name (bytes_of log) (migrated_line (length (bytes_of log)))

abbrev pub outcome : Contents → (log name : List ℕ) → Result Finish Refused
outcome m log name = good_log_at m log >> λ parts. Ok (finish name parts)

-- the named file holds the log of the other, in version 2
pub record IsMigrated (log name : List ℕ) (m : Contents) (known : Option Contents) (old new : Option (List ℕ)) (s : Status) : Type 0 where
  pub parts : LogParts
  pub read : IsLogAt log m parts
  pub files : known ≡ Some (insert m name (bytes_of parts))
  pub output : TookAll (migrated_line (length (bytes_of parts))) old new
  pub status : s ≡ Status.Done
