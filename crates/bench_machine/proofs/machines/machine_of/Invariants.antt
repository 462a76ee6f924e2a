use Rattle.std.proofs.Common.{All, map}
use Rattle.dl_sphere.specs.Setups.{HasBegun, IsRecordableIf, setup_of}
use Rattle.bench_machine.proofs.machines.machine_of.Given as goal

abbrev pub invariant-loop : goal.invariant-loop
invariant-loop l = record {
  recorded : All (λ image. IsRecordableIf 101 image.role) (map setup_of l.spheres);
  begun : All HasBegun l.spheres;
}
