-- Whatever the event, flights have no more left than before, except for the flight of its move.
use Rattle.std.proofs.Common.{◌≡◌, ℕ, ◌+◌, ◌≤◌, Option, Some, None, refl, ap, arith}
use Rattle.spec_isa.specs.declared.thread.Parts.{Parts}
use Rattle.spec_protocol.specs.declared.reply.Reply.{Reply}
use Rattle.spec_protocol.specs.machine.World.{World, Move, EventOutcome, sphere_at, with_sphere, core_of, answered}
use Rattle.spec_protocol.specs.machine.Serial.{SerialState}
use Rattle.spec_protocol.specs.machine.Shown.{shown_of}
use Rattle.spec_sphere.specs.sphere.Commits.{raised}
use Rattle.spec_protocol.specs.machine.Stepping.{stepping, cutting}
use Rattle.spec_protocol.specs.machine.Flying.{draining, delivering, retiring}
use Rattle.spec_protocol.specs.machine.Placing.{placing, with_renewed, raise_in, raising}
use Rattle.spec_protocol.proofs.Moves.AnyEvent.{any-step, any-cut, any-place, any-raise}
use Rattle.spec_finishing.specs.Rank.{flights_rank}
use Rattle.spec_finishing.proofs.Left.Flying.{drain-most, deliver-most, retire-most}
use Rattle.spec_finishing.proofs.Paying.Moves.{move_most}

-- the most that the flight of a move has left, if there is a move
abbrev pub if_most : (c : ℕ) → SerialState → Option Move → ℕ
if_most c x None = 0
if_most c x (Some m) = move_most c x m

-- the flights may have more left than before, by the flight of the move
abbrev pub Flies : (c : ℕ) → World → EventOutcome → Type 0
Flies c w a = flights_rank c a.world.slots ≤ flights_rank c w.slots + if_most c (shown_of w) a.move

-- an event that only answers leaves the flights as they are
pub still_flies : (c : ℕ) (w : World) (r : Reply) → Flies c w (answered w r)
still_flies c w r = omega arith

-- ---- running chunks

-- a step adds nothing to what is left of the flights
pub step-flies : (c : ℕ) (w : World) (d : ℕ) → Flies c w (stepping w d)
step-flies c w d = any-step w (Flies c w) (λ r none. still_flies c w r) d (λ h is opened. omega arith) (λ h y is e opened. omega arith)

-- a cut adds nothing to what is left of the flights
pub cut-flies : (c : ℕ) (w : World) (d : ℕ) → Flies c w (cutting w d)
cut-flies c w d = any-cut w (Flies c w) (λ r none. still_flies c w r) d (λ h is none. omega arith) (λ h y is e. omega arith)

-- ---- flights

flies_from : (c : ℕ) (w : World) (a : EventOutcome) → flights_rank c a.world.slots ≤ flights_rank c w.slots → Flies c w a
flies_from c w a l = omega (arith, l)

-- a drain adds nothing to what is left of the flights
pub drain-flies : (c : ℕ) (w : World) (k : ℕ) → Flies c w (draining w k)
drain-flies c w k = flies_from c w (draining w k) (drain-most c w k)

-- a delivery adds nothing to what is left of the flights
pub deliver-flies : (c : ℕ) (w : World) (d k : ℕ) → Flies c w (delivering w d k)
deliver-flies c w d k = flies_from c w (delivering w d k) (deliver-most c w d k)

-- a retiring adds nothing to what is left of the flights
pub retire-flies : (c : ℕ) (w : World) (k : ℕ) → Flies c w (retiring w k)
retire-flies c w k = flies_from c w (retiring w k) (retire-most c w k)

-- ---- threads

-- placing a thread adds nothing to what is left of the flights
pub place-flies : (c : ℕ) (w : World) (d i k : ℕ) → Flies c w (placing w d i k)
place-flies c w d i k = any-place w (Flies c w) (λ r none. still_flies c w r) d i k (λ t is live none. omega arith)

renewed_slots : (v : World) (i k : ℕ) (o : Option ℕ) → (with_renewed v i k o).slots ≡ v.slots
renewed_slots v i k None = refl
renewed_slots v i k (Some c) = refl

raise_in_flies : (c : ℕ) (w : World) (i k value : ℕ) (t : Parts) → Flies c w (raise_in w i k value t)
raise_in_flies c w i k value t =
    let e = ap (flights_rank c) (renewed_slots (with_sphere w i (raised k value t (sphere_at w i))) i k (core_of w i k)) in omega (arith, e)

-- an interrupt adds nothing to what is left of the flights
pub raise-flies : (c : ℕ) (w : World) (i k value : ℕ) → Flies c w (raising w i k value)
raise-flies c w i k value = any-raise w (Flies c w) (λ r none. still_flies c w r) i k value (λ t r. raise_in_flies c w i k value t)
