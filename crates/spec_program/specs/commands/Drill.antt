-- `drill NUMBER`: the generated image of a number, recorded and replayed. No file is read.
use Rattle.std.specs.Prelude.{◌≡◌, ℕ, false, List, Option, Some}
use Rattle.dl_files.specs.Contents.{Contents}
use Rattle.spec_program.specs.declared.status.Status.{Status}
use Rattle.spec_program.specs.Drills.{drill_text, recorded_account, replayed_account}
use Rattle.spec_program.specs.Ends.{TookAll}
use Rattle.spec_program.specs.Outcomes.{Finish, said}

abbrev pub finish : (number : ℕ) → Finish
finish number = said (drill_text number) false

-- the sink took the summaries of the recording and of the replay, and then `equal`: their accounts are
pub record IsDrilled (number : ℕ) (m : Contents) (known : Option Contents) (old new : Option (List ℕ)) (s : Status) : Type 0 where
  pub equal : replayed_account number ≡ recorded_account number
  pub output : TookAll (drill_text number) old new
  pub files : known ≡ Some m
  pub status : s ≡ Status.Done
