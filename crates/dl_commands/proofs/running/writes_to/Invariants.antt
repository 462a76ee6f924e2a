use Rattle.std.proofs.Common.{◌≡◌, ◌++◌, List, map, take, drop}
use Rattle.dl_plan.specs.Views.{output_view}
use Rattle.dl_run.specs.Ran.{IsOver}
use Rattle.spec_protocol.specs.declared.event.Event.{Event}
use Rattle.spec_program.specs.Runs.{is_log, product_for}
use Rattle.spec_program.specs.Writes.{filled}
use Rattle.dl_commands.specs.Jobs.{writes_of}
use Rattle.dl_commands.specs.Products.{AreReadOf}
use Rattle.dl_commands.proofs.running.writes_to.Given as goal

-- with the files to come, all are there, and the tails so far are read again
abbrev pub invariant-loop-output : goal.invariant-loop-output
invariant-loop-output l =
    (es : List Event) → IsOver es l.run
    → (writes_of l.writes.items ++ map (filled (product_for l.run.setup es) (is_log l.run.setup)) (map output_view (drop l.output-index l.outputs)) ≡ map (filled (product_for l.run.setup es) (is_log l.run.setup)) (map output_view l.outputs))
    × AreReadOf l.run.setup es (map output_view (take l.output-index l.outputs))
