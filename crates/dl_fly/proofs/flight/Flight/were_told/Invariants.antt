use Rattle.std.proofs.Common.{◌≡◌, true}
use Rattle.spec_engine.specs.Flights.{all_told}
use Rattle.dl_fly.proofs.flight.Flight.were_told.Given as goal

abbrev pub invariant-loop-core : goal.invariant-loop-core
invariant-loop-core g l = all_told l.core l.self.told ≡ true
