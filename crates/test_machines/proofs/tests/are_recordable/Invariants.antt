use Rattle.std.proofs.Common.{All, take}
use Rattle.dl_sphere.specs.Setups.{IsRecordableIf, role_setup}
use Rattle.test_machines.proofs.tests.are_recordable.Given as goal

abbrev pub invariant-loop-sphere : goal.invariant-loop-sphere
invariant-loop-sphere l = All (λ sphere. IsRecordableIf l.s (role_setup sphere.role)) (take l.sphere-index l.spheres)
