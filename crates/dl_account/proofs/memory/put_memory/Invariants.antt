use Rattle.std.proofs.Common.{◌≡◌, ◌++◌, take}
use Rattle.dl_account.specs.Lines.{numbered}
use Rattle.dl_account.specs.States.{row_line, rows}
use Rattle.dl_account.proofs.memory.put_memory.Given as goal

abbrev pub invariant-loop-number : goal.invariant-loop-number
invariant-loop-number l = l.text ≡ l.initial.text ++ numbered row_line 0 (take l.number (rows l.memory))
