use Rattle.std.proofs.Common.{◌≡◌, ◌<◌, ℕ, false}
use Rattle.spec_engine.specs.Flights.{at, passes, meets_chunk}
use Rattle.dl_arbiter.proofs.arbiter.first_hit.Given as goal

abbrev pub invariant-loop-k : goal.invariant-loop-k
invariant-loop-k g l = (j : ℕ) → j < l.k → passes (meets_chunk (g.G.Sig.marks l.reads) (g.G.Sig.marks l.writes)) (at l.slots j) ≡ false
