use Rattle.std.proofs.Common.{All}
use Rattle.dl_sphere.specs.Setups.{HasBegun}
use Rattle.test_machines.proofs.tests.setup_of.Given as goal

abbrev pub invariant-loop-life : goal.invariant-loop-life
invariant-loop-life l = All HasBegun l.spheres
