-- A slice of a log: the text of its play's commits from number i up to number j, and of the state after them.
use Rattle.std.specs.Prelude.{ℕ, ◌-◌, List, drop}
use Rattle.dl_account.specs.Account.{account_of}
use Rattle.dl_account.specs.Commits.{commit_lines}
use Rattle.dl_account.specs.Lines.{numbered}
use Rattle.dl_entry.specs.declared.Commit.{Commit}
use Rattle.dl_entry.specs.declared.End.{End}
use Rattle.spec_log.specs.declared.LogParts.{LogParts}
use Rattle.spec_play.specs.declared.walk_end.WalkEnd.{WalkEnd}
use Rattle.spec_play.specs.Walks.{Walked, walked}
use Rattle.spec_play.specs.States.{State, walked_from}

-- a slice's text, and how it ended
pub record Slice : Type 0 where
  pub text : List ℕ
  pub end : End

-- it ends at the number that was asked for, or at the count, or the play diverges
abbrev pub slice_end : WalkEnd → End
slice_end (WalkEnd.Reached i) = End.At i
slice_end (WalkEnd.Ended (End.Complete i)) = End.At i
slice_end (WalkEnd.Ended (End.At i)) = End.At i
slice_end (WalkEnd.Ended (End.Diverged i why)) = End.Diverged i why

-- as an account has them, the lines of these commits, the first of which has number i in the log, of the state that the walk
-- leaves, and of the end
abbrev pub slice_of : (i : ℕ) → List Commit → Walked → Slice
slice_of i commits v =
    let end = slice_end v.end in
    record { text = account_of i commits v.threads v.request v.memory end; end = end }

-- of a log on an image
abbrev pub slice : LogParts → (memory : List ℕ) → (entry i j : ℕ) → Slice
slice log memory entry i j = let v = walked log memory entry j in slice_of i (drop i v.commits) v

-- the lines of the commits alone
abbrev pub lines_between : LogParts → (memory : List ℕ) → (entry i j : ℕ) → List ℕ
lines_between log memory entry i j = numbered commit_lines i (drop i (walked log memory entry j).commits)

-- the slice that is played from a state
abbrev pub slice_from : LogParts → State → (i j : ℕ) → Slice
slice_from log s i j = let v = walked_from log s j in slice_of i (drop (i - s.commits) v.commits) v
