use Rattle.std.proofs.Common.{◌≡◌, ◌++◌, take}
use Rattle.dl_account.specs.Lines.{numbered}
use Rattle.dl_inspect.specs.Inspection.{unsized_line}
use Rattle.dl_inspect.proofs.order.put_unsized.Given as goal

abbrev pub invariant-loop-position : goal.invariant-loop-position
invariant-loop-position l = l.text ≡ l.initial.text ++ numbered unsized_line 0 (take l.position l.order)
