use Rattle.std.proofs.Common.{◌≡◌, nat_lt, drop}
use Rattle.std.specs.List.{list_all}
use Rattle.dl_mode.proofs.thread_sizes.all_below.Given as goal

abbrev pub invariant-loop-mark : goal.invariant-loop-mark
invariant-loop-mark l =
    list_all (λ mark. nat_lt mark.index l.done) l.lane ≡ list_all (λ mark. nat_lt mark.index l.done) (drop l.mark-index l.lane)
