use Rattle.std.proofs.Common.{◌≡◌, ◌++◌, take}
use Rattle.dl_account.specs.Lines.{numbered}
use Rattle.dl_account.specs.States.{thread_lines}
use Rattle.dl_account.proofs.threads.put_threads.Given as goal

abbrev pub invariant-loop-number : goal.invariant-loop-number
invariant-loop-number l = l.text ≡ l.initial.text ++ numbered thread_lines 0 (take l.number l.threads)
