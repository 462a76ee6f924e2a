use Rattle.std.proofs.Common.{refl, arith}
use Rattle.test_spheres.proofs.tests.recording.kind_of.Goals as goal

pub returns-in-16 : goal.returns-in-16
returns-in-16 c = (4, omega arith, refl)
