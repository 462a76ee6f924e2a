use Rattle.std.proofs.Common.{◌≡◌, length}
use Rattle.std.specs.Prelude.{drop}
use Rattle.spec_isa.specs.Words.{lays}
use Rattle.spec_isa.specs.Inside.{AreInside}
use Rattle.spec_engine.specs.Flying.{flying}
use Rattle.dl_sphere.proofs.epochs.current_memory.Given as goal

abbrev pub invariant-loop-slot : goal.invariant-loop-slot
invariant-loop-slot g l = record {
  laid : lays l.bytes (flying l.number (drop l.slot-index l.slot-items)) ≡ lays l.memory (flying l.number l.flights.slots);
  inside : AreInside (length l.bytes) (flying l.number (drop l.slot-index l.slot-items));
}
