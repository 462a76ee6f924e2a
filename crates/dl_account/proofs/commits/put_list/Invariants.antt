use Rattle.std.proofs.Common.{◌≡◌, ◌++◌, take}
use Rattle.dl_account.specs.Commits.{commit_lines}
use Rattle.dl_account.specs.Lines.{numbered}
use Rattle.dl_account.proofs.commits.put_list.Given as goal

abbrev pub invariant-loop-index : goal.invariant-loop-index
invariant-loop-index l = l.text ≡ l.initial.text ++ numbered commit_lines l.number (take l.index l.commits)
