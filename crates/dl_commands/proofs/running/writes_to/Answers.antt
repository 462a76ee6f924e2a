use Rattle.std.proofs.Common.{[], length}
use Rattle.dl_plan.specs.declared.Output.{Output}
use Rattle.dl_plan.specs.declared.Product.{Product}
use Rattle.dl_plan.specs.Files.{OutputValues}
use Rattle.dl_plan.specs.Views.{output_view}
use Rattle.spec_program.specs.Accepted.{IsReadAgain}
use Rattle.spec_program.specs.Runs.{is_log, product_for}
use Rattle.spec_program.specs.Writes.{filled}
use Rattle.dl_commands.proofs.Planned.{all_next, one_written, product_at}
use Rattle.dl_commands.proofs.running.writes_to.Goals as goal

pub write_to-requires : goal.write_to-requires
write_to-requires c =
    product_at (length c.args.run.now.setup.spheres) c.args.outputs.now c.loop-output.output-index (record { name = record { ref_ptr = (0, 0); now = [] }; product = Product.Log 0 }) c.requires
    c.loop-output-test.true

pub loop-output-preserved : goal.loop-output-preserved
loop-output-preserved c es over =
    let before = c.loop-output.invariant es over in
    let d : Output = record { name = record { ref_ptr = (0, 0); now = [] }; product = Product.Log 0 } in (
      one_written c.loop-output.writes.items c.in_ok-write.write c.push.new.self.items (filled (product_for c.args.run.now.setup es) (is_log c.args.run.now.setup)) c.args.outputs.now c.loop-output.output-index
          d _ c.loop-output-test.true c.in-Ok.ensures.items (c.in_ok-write.ensures.write es over) before.0,
      all_next (λ (o : OutputValues). IsReadAgain c.args.run.now.setup es o.product) output_view c.args.outputs.now c.loop-output.output-index d c.loop-output-test.true before.1 (c.in_ok-write.ensures.tail es over),
    )
