use Rattle.std.proofs.Common.{subst, sym}
use Rattle.std.specs.Prelude.{All}
use Rattle.std.proofs.lemmas.List.Elements.{All-push}
use Rattle.dl_sphere.specs.Setups.{HasBegun}
use Rattle.test_machines.proofs.tests.setup_of.Goals as goal

pub loop-life-preserved : goal.loop-life-preserved
loop-life-preserved c =
    subst (All HasBegun) (sym c.in_ok-push.ensures.ok) (All-push HasBegun c.loop-life.spheres _ c.in_ok-sphere_of.ensures c.loop-life.invariant)
