use Rattle.std.proofs.Common.{◌≡◌, drop}
use Rattle.std.specs.List.{list_all}
use Rattle.dl_input.proofs.interrupts.all_taken.Given as goal

abbrev pub invariant-loop-mark : goal.invariant-loop-mark
invariant-loop-mark l = list_all (λ m. m.value.taken) l.lane ≡ list_all (λ m. m.value.taken) (drop l.mark-index l.lane)
