use Rattle.dl_account.specs.Summary.{sphere_line}
use Rattle.dl_account.proofs.Numbered.{numbered_more}
use Rattle.dl_account.proofs.summary.put_spheres.Goals as goal

pub loop-number-preserved : goal.loop-number-preserved
loop-number-preserved c =
    rw (c.in_ok-put_sphere.ensures, c.loop-number.invariant) (numbered_more sphere_line _ c.args.spheres.now c.loop-number.number _ c.loop-number-test.true)
