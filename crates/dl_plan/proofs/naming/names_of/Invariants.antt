use Rattle.std.proofs.Common.{◌≡◌, ◌++◌, map, drop}
use Rattle.dl_plan.specs.Files.{OutputValues}
use Rattle.dl_plan.specs.Views.{texts, output_view}
use Rattle.dl_plan.proofs.naming.names_of.Given as goal

-- with the names to come, all are there
abbrev pub invariant-loop-output : goal.invariant-loop-output
invariant-loop-output l = texts l.names.items ++ map (λ (o : OutputValues). o.name) (map output_view (drop l.output-index l.outputs)) ≡ map (λ (o : OutputValues). o.name) (map output_view l.outputs)
