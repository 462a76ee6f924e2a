use Rattle.dl_inspect.specs.Inspection.{unsized_line}
use Rattle.dl_account.proofs.Numbered.{numbered_more}
use Rattle.dl_inspect.proofs.order.put_unsized.Goals as goal

pub loop-position-preserved : goal.loop-position-preserved
loop-position-preserved c =
    rw (c.in_ok-put_unsized_entry.ensures, c.loop-position.invariant) (numbered_more unsized_line _ c.args.order.now c.loop-position.position _ c.loop-position-test.true)
