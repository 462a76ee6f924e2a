use Rattle.std.proofs.Common.{◌≡◌, ◌++◌, take}
use Rattle.std.specs.List.{zip}
use Rattle.dl_account.specs.Lines.{numbered}
use Rattle.dl_inspect.specs.Inspection.{sized_line}
use Rattle.dl_inspect.proofs.order.put_sized.Given as goal

abbrev pub invariant-loop-position : goal.invariant-loop-position
invariant-loop-position l =
    l.text ≡ l.initial.text ++ numbered sized_line 0 (take l.position (zip l.order l.sizes))
