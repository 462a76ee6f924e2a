use Rattle.std.proofs.Common.{◌≡◌, drop}
use Rattle.std.specs.List.{list_all}
use Rattle.dl_input.proofs.dmas.Dmas.used.Given as goal

abbrev pub invariant-loop-taken : goal.invariant-loop-taken
invariant-loop-taken l = list_all (λ t. t) l.self.taken ≡ list_all (λ t. t) (drop l.taken-index l.taken-items)
