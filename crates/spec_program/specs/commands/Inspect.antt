-- `inspect LOG`: a log as text.
use Rattle.std.specs.Prelude.{◌≡◌, ℕ, false, List, [], ◌∷◌, Option, Some, Result, Ok}
use Rattle.dl_files.specs.Contents.{Contents}
use Rattle.dl_inspect.specs.Inspection.{inspection_of}
use Rattle.spec_log.specs.declared.LogParts.{LogParts}
use Rattle.spec_program.specs.declared.status.Status.{Status}
use Rattle.spec_program.specs.Ends.{TookAll}
use Rattle.spec_program.specs.Operands.{IsLogAt, good_log_at}
use Rattle.spec_program.specs.Outcomes.{Finish, said}
use Rattle.spec_program.specs.Stages.{Refused, ◌>>◌}

abbrev pub reads : (log : List ℕ) → List (List ℕ)
reads log = log ∷ []

abbrev pub finish : LogParts → Finish
finish log = said (inspection_of log) false

abbrev pub outcome : Contents → (log : List ℕ) → Result Finish Refused
outcome m log = good_log_at m log >> λ parts. Ok (finish parts)

-- the sink took the inspection of the log in that file
pub record IsInspected (log : List ℕ) (m : Contents) (known : Option Contents) (old new : Option (List ℕ)) (s : Status) : Type 0 where
  pub parts : LogParts
  pub read : IsLogAt log m parts
  pub output : TookAll (inspection_of parts) old new
  pub files : known ≡ Some m
  pub status : s ≡ Status.Done
