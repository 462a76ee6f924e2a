-- `make NUMBER NAME`: the generated image of a number under a name. No file is read.
use Rattle.std.specs.Prelude.{◌≡◌, ℕ, List, length, Option, Some}
use Rattle.std.specs.FinMap.{insert}
use Rattle.dl_files.specs.Contents.{Contents}
use Rattle.dl_make.specs.Generated.{made}
use Rattle.spec_program.specs.declared.status.Status.{Status}
use Rattle.spec_program.specs.Ends.{TookAll}
use Rattle.spec_program.specs.Lines.{made_line}
use Rattle.spec_program.specs.Outcomes.{Finish, filed}

abbrev pub finish : (number : ℕ) → (name : List ℕ) → Finish
finish number name = filed name (made number) (made_line (length (made number)))

-- that file holds the generated image of the number
pub record IsMade (number : ℕ) (name : List ℕ) (m : Contents) (known : Option Contents) (old new : Option (List ℕ)) (s : Status) : Type 0 where
  pub files : known ≡ Some (insert m name (made number))
  pub output : TookAll (made_line (length (made number))) old new
  pub status : s ≡ Status.Done
