use Rattle.std.proofs.Common.{◌≡◌, ◌++◌, map, drop}
use Rattle.dl_plan.specs.Files.{InputValues}
use Rattle.dl_plan.specs.Views.{texts, input_view}
use Rattle.dl_plan.proofs.naming.add_inputs.Given as goal

-- with the names to come, all are there
abbrev pub invariant-loop-input : goal.invariant-loop-input
invariant-loop-input l = texts l.names.items ++ map (λ (i : InputValues). i.name) (map input_view (drop l.input-index l.inputs)) ≡ texts l.fn.names.items ++ map (λ (i : InputValues). i.name) (map input_view l.inputs)
