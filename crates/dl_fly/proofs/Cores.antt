-- No flight was told to a core past the eighth.
use Rattle.std.proofs.Common.{◌≡◌, ℕ, ◌^◌, ◌<◌, ◌≤◌, false, sym, ap, eqb}
use Rattle.std.proofs.lemmas.Nat.Bits.{bit_at_above}
use Rattle.spec_engine.specs.Flights.{told_at}

-- a flight told to no core but those below 8 was told to none from 8 on
pub told_past : (told core : ℕ) → told < 2 ^ 8 → 8 ≤ core → false ≡ told_at told core
told_past told core small past = sym (ap (λ (b : ℕ). eqb b 1) (bit_at_above told 8 core small past))
