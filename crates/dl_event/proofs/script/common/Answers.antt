use Rattle.dl_event.proofs.Alike.{eight_more}
use Rattle.dl_event.proofs.script.common.Goals as goal

pub loop-x-preserved : goal.loop-x-preserved
loop-x-preserved c =
    let x = c.in-Some-Some.ensures in
    let y = c.in-Some-Some.ensures' in
    record {
      same = eight_more c.args.a.now c.args.b.now c.loop-x.n c.in-Some-Some.x c.in-Some-Some.y c.loop-x.invariant.same x.1 y.1 c.if-x-y.true;
      within = x.0;
      within_other = y.0;
    }
