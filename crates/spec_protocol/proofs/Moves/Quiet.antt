-- Only asks, interrupts and DMAs make points.
use Rattle.std.proofs.Common.{◌≡◌, ℕ, Bool, true, false, cond, Option, Some, None, refl}
use Rattle.std.specs.Prelude.{slice_get}
use Rattle.spec_isa.specs.declared.thread.Parts.{Parts}
use Rattle.spec_isa.specs.Words.{lays}
use Rattle.spec_kernel.specs.Interrupts.{is_live}
use Rattle.spec_engine.specs.declared.answers.Deliver.{Deliver}
use Rattle.spec_engine.specs.Flights.{Flight, at, deliver}
use Rattle.spec_engine.specs.Chunks.{Chunk, step, is_open}
use Rattle.spec_protocol.specs.declared.event.Event.{Event}
use Rattle.spec_sphere.specs.sphere.Spheres.{is_stopped}
use Rattle.spec_protocol.specs.machine.World.{Occupant, World, EventOutcome, sphere_at, core_of, with_slot}
use Rattle.spec_protocol.specs.machine.Stepping.{stepped, step_held, stepping, cut_held, cutting, stepped_younger, younger_for, step_younger, cut_in}
use Rattle.spec_protocol.specs.machine.Flying.{drain_slot, draining, told, deliver_to, delivering, hits_younger, reads_of, retiring, writes_of, younger_of}
use Rattle.spec_protocol.specs.machine.Placing.{unless_elsewhere, place_thread, placing}
use Rattle.spec_protocol.specs.machine.Machine.{core_no, sphere_no, slot_no, act, happens}

-- it makes no point
abbrev IsQuiet : EventOutcome → Type 0
IsQuiet a = a.point ≡ None

either : (b : Bool) (x y : EventOutcome) → IsQuiet x → IsQuiet y → IsQuiet (cond b x y)
either true x y p q = p
either false x y p q = q

younger_quiet : (w : World) (c : ℕ) (h : Occupant) (o : Option Chunk) → IsQuiet (step_younger w c h o)
younger_quiet w c h None = refl
younger_quiet w c h (Some y) = either (is_open y) _ _ refl refl

step_quiet : (w : World) (c : ℕ) (o : Option Occupant) → IsQuiet (step_held w c o)
step_quiet w c None = refl
step_quiet w c (Some h) =
    let p = sphere_at w h.chunk.sphere in
    either (is_stopped p.role) _ _ refl (either (is_open h.chunk) _ _ refl (younger_quiet w c h (younger_for w.numbers p.role h h.younger)))

cut_quiet_in : (w : World) (c : ℕ) (h : Occupant) (o : Option Chunk) → IsQuiet (cut_in w c h o)
cut_quiet_in w c h None = refl
cut_quiet_in w c h (Some y) = refl

cut_quiet : (w : World) (c : ℕ) (o : Option Occupant) → IsQuiet (cut_held w c o)
cut_quiet w c None = refl
cut_quiet w c (Some h) = either (is_stopped (sphere_at w h.chunk.sphere).role) _ _ refl (cut_quiet_in w c h h.younger)

drain_quiet : (w : World) (k : ℕ) (o : Option Flight) → IsQuiet (drain_slot w k o)
drain_quiet w k None = refl
drain_quiet w k (Some f) = refl

told_quiet : (w : World) (c : ℕ) (o : Option Occupant) (d : Deliver) (hit : Bool) → IsQuiet (told w c o d hit)
told_quiet w c o Deliver.NoCommit hit = refl
told_quiet w c o Deliver.Already hit = refl
told_quiet w c o Deliver.Squashed hit = refl
told_quiet w c o Deliver.Delivered hit = either hit _ _ refl refl

elsewhere_quiet : (w : World) (o : Option ℕ) (a : EventOutcome) → IsQuiet a → IsQuiet (unless_elsewhere o w a)
elsewhere_quiet w None a q = q
elsewhere_quiet w (Some d) a q = refl

place_quiet : (w : World) (c i k : ℕ) (o : Option Parts) → IsQuiet (place_thread w c i k o)
place_quiet w c i k None = refl
place_quiet w c i k (Some t) = either (is_live t) _ _ (elsewhere_quiet w (core_of w i k) _ refl) refl

-- the event commits and interrupts nothing
abbrev pub is_quiet : Event → Bool
is_quiet (Event.Step c) = true
is_quiet (Event.Cut c) = true
is_quiet (Event.Ask c) = false
is_quiet (Event.Drain k) = true
is_quiet (Event.Deliver c k) = true
is_quiet (Event.Retire k) = true
is_quiet (Event.Place c i k) = true
is_quiet (Event.Raise i k value) = false
is_quiet (Event.Dma i) = false

-- an event that is no ask, raise or DMA makes no point
pub quiet-act : (w : World) (e : Event) → is_quiet e ≡ true → (act w e).point ≡ None
unfolding act stepping cutting draining delivering retiring placing
quiet-act w (Event.Step c) q = step_quiet w (core_no w c) (at w.cores (core_no w c))
quiet-act w (Event.Cut c) q = cut_quiet w (core_no w c) (at w.cores (core_no w c))
quiet-act w (Event.Ask c) q = cc
quiet-act w (Event.Drain k) q = drain_quiet w (slot_no w k) (at w.slots (slot_no w k))
quiet-act w (Event.Deliver c k) q =
    let o = at w.cores (core_no w c) in
    let f = at w.slots (slot_no w k) in
    let d = deliver (core_no w c) (reads_of w o) (writes_of w o) f in
    told_quiet (with_slot w (slot_no w k) d.slot) (core_no w c) o d.reply (hits_younger f (younger_of o))
quiet-act w (Event.Retire k) q = refl
quiet-act w (Event.Place c i k) q = place_quiet w (core_no w c) (sphere_no w i) k (slice_get (sphere_at w (sphere_no w i)).threads k)
quiet-act w (Event.Raise i k value) q = cc
quiet-act w (Event.Dma i) q = cc

-- such an event makes no point
pub quiet-happens : (w : World) (e : Event) → is_quiet e ≡ true → (happens w e).point ≡ None
unfolding happens
quiet-happens w e q = quiet-act w e q
