use Rattle.std.proofs.Common.{◌≡◌, ◌≤◌, All, map, vec_len, vec_capacity}
use Rattle.spec_protocol.specs.machine.Machine.{first_cores}
use Rattle.dl_machine.specs.Setups.{numbers_with}
use Rattle.dl_machine.specs.Rows.{IsAlike, held_by}
use Rattle.dl_machine.proofs.cores.Cores.new.Given as goal

abbrev pub invariant-loop-core : goal.invariant-loop-core
invariant-loop-core g l = record {
  held : map held_by l.row.items ≡ first_cores (numbers_with l.setup l.spheres) 0 l.core l.spheres.spheres;
  each : All (IsAlike l.spheres.most l.setup.capacity l.setup.bits l.setup.depth) l.row.items;
  len : vec_len l.row ≡ l.core;
  room : l.setup.cores ≤ vec_capacity l.row;
}
