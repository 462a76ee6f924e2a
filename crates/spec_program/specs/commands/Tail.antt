-- `tail NAME`: the last part of a recording, played from its base on, as an account. Its commits, their threads' commits and
-- its end are counted from the recording's start.
use Rattle.std.specs.Prelude.{◌≡◌, ℕ, List, [], ◌∷◌, Option, Some, if◌then◌else◌, Result, Ok}
use Rattle.std.specs.FinMap.{get}
use Rattle.dl_account.specs.Account.{account_of}
use Rattle.dl_entry.specs.declared.End.{End}
use Rattle.dl_files.specs.Contents.{Contents}
use Rattle.spec_play.specs.declared.WalkEnd.{WalkEnd}
use Rattle.spec_play.specs.Walks.{Walked}
use Rattle.spec_run.specs.Runs.{has_diverged}
use Rattle.spec_tail.specs.Playing.{walked}
use Rattle.spec_tail.specs.Reading.{read_of}
use Rattle.spec_tail.specs.Tails.{Tail}
use Rattle.spec_program.specs.declared.status.Status.{Status}
use Rattle.spec_program.specs.Built.{bad_log}
use Rattle.spec_program.specs.Ends.{TookAll}
use Rattle.spec_program.specs.Operands.{file_at}
use Rattle.spec_program.specs.Outcomes.{Finish, said}
use Rattle.spec_program.specs.Stages.{Refused, refusing, ◌>>◌}

abbrev pub reads : (name : List ℕ) → List (List ℕ)
reads name = name ∷ []

-- the tail of these bytes; its first bad field is said as that of a log of sphere 0
abbrev pub tail_in : (bytes : List ℕ) → Result Tail Refused
tail_in bytes = refusing (bad_log 0) (read_of bytes)

abbrev pub tail_at : Contents → (name : List ℕ) → Result Tail Refused
tail_at m name = file_at m name >> tail_in

-- the walk of a whole tail has always ended
abbrev pub end_of : WalkEnd → End
end_of (WalkEnd.Ended how) = how
end_of (WalkEnd.Reached i) = End.At i

abbrev pub end : Tail → End
end t = end_of (walked t).end

-- the first commit has the base as its number
abbrev pub account_from : (base : ℕ) → Walked → List ℕ
account_from base v = account_of base v.commits v.threads v.request v.memory (end_of v.end)

abbrev pub account : Tail → List ℕ
account t = account_from t.base (walked t)

abbrev pub finish : Tail → Finish
finish t = said (account t) (has_diverged (end t))

abbrev pub outcome : Contents → (name : List ℕ) → Result Finish Refused
outcome m name = tail_at m name >> λ t. Ok (finish t)

-- the sink took the account of the play of the tail in that file, and the status says whether it diverges
pub record IsPlayed (name : List ℕ) (m : Contents) (known : Option Contents) (old new : Option (List ℕ)) (s : Status) : Type 0 where
  pub bytes : List ℕ
  pub there : get m name ≡ Some bytes
  pub tail : Tail
  pub read : read_of bytes ≡ Ok tail
  pub output : TookAll (account tail) old new
  pub files : known ≡ Some m
  pub status : s ≡ (if has_diverged (end tail) then Status.Diverged else Status.Done)
