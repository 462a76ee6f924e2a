use Rattle.std.proofs.Common.{◌≡◌, ◌≤◌, All, length, map, take, vec_len, vec_capacity}
use Rattle.spec_sphere.specs.sphere.Setups.{sphere_of}
use Rattle.spec_sphere.specs.promises.Sound.{IsChunkSize, IsImage}
use Rattle.dl_sphere.specs.Setups.{setup_of}
use Rattle.dl_machine.specs.Rows.{IsOfStandard, sphere_in}
use Rattle.dl_machine.specs.Setups.{greatest}
use Rattle.dl_machine.proofs.spheres.Spheres.new.Given as goal

abbrev pub invariant-loop-setup : goal.invariant-loop-setup
invariant-loop-setup l = record {
  spheres : map sphere_in l.row.items ≡ map (λ x. sphere_of l.s (setup_of x)) (take l.setup-index l.setups);
  each : All (IsOfStandard l.s l.most) l.row.items;
  most : l.most ≡ greatest l.s (take l.setup-index l.setups);
  size : IsChunkSize l.most;
  images : All (λ x. IsImage l.s (setup_of x)) (take l.setup-index l.setups);
  len : vec_len l.row ≡ l.setup-index;
  room : length l.setups ≤ vec_capacity l.row;
}
