-- No event increases what is left, except by its own work, and a move of a replay reduces it.
use Rattle.std.proofs.Common.{◌≡◌, ℕ, ◌+◌, ◌<◌, ◌≤◌, Option, Some, None, refl, ap, ◌∙◌, subst, arith}
use Rattle.std.specs.Prelude.{slice_get}
use Rattle.std.proofs.lemmas.Option.{none-some}
use Rattle.spec_protocol.specs.declared.event.Event.{Event}
use Rattle.spec_sphere.specs.sphere.Spheres.{Cursor, Replay, Sphere}
use Rattle.spec_protocol.specs.machine.World.{Numbers, World, Move, EventOutcome}
use Rattle.spec_protocol.specs.machine.Machine.{Setup, core_no, sphere_no, slot_no, act, happens}
use Rattle.spec_protocol.specs.machine.Serial.{SerialState}
use Rattle.spec_protocol.specs.machine.Shown.{shown_of}
use Rattle.spec_protocol.specs.machine.Moves.{do_if, FitsIf, Fits}
use Rattle.spec_protocol.specs.promises.Invariants.{IsGood}
use Rattle.spec_protocol.proofs.Invariants.Preserved.{Preserved}
use Rattle.spec_protocol.proofs.Invariants.Schedules.{happens-preserved}
use Rattle.spec_finishing.specs.Work.{move_work}
use Rattle.spec_finishing.specs.Rank.{spheres_rank, price, potential}
use Rattle.spec_finishing.proofs.Left.Rows.{spheres-shown}
use Rattle.spec_finishing.proofs.Paying.Moves.{what_more}
use Rattle.spec_finishing.proofs.Paying.Standing.{AllGoOn, move-pays, move-pays_more}
use Rattle.spec_finishing.proofs.Ending.Knowing.{Known}
use Rattle.spec_finishing.proofs.Left.AnyEvent.{if_most, Flies, step-flies, cut-flies, drain-flies, deliver-flies, retire-flies, place-flies, raise-flies}
use Rattle.spec_finishing.proofs.Left.AnyAsk.{ask-flies, dma-flies}

-- ---- flights

act_flies : (c : ℕ) (w : World) (e : Event) → IsGood w → Flies c w (act w e)
unfolding act
act_flies c w (Event.Step d) good = step-flies c w (core_no w d)
act_flies c w (Event.Cut d) good = cut-flies c w (core_no w d)
act_flies c w (Event.Ask d) good = ask-flies c w (core_no w d) good
act_flies c w (Event.Drain k) good = drain-flies c w (slot_no w k)
act_flies c w (Event.Deliver d k) good = deliver-flies c w (core_no w d) (slot_no w k)
act_flies c w (Event.Retire k) good = retire-flies c w (slot_no w k)
act_flies c w (Event.Place d i k) good = place-flies c w (core_no w d) (sphere_no w i) k
act_flies c w (Event.Raise i k value) good = raise-flies c w (sphere_no w i) k value
act_flies c w (Event.Dma i) good = dma-flies c w (sphere_no w i)

-- no event leaves flights with more left than before, except for the flight of its move
pub happens-flies : (c : ℕ) (w : World) (e : Event) → IsGood w → Flies c w (happens w e)
unfolding happens
happens-flies c w e good = act_flies c w e good

-- ---- both

-- the work of a move, if there is one
abbrev pub if_work : SerialState → Option Move → ℕ
if_work x None = 0
if_work x (Some m) = move_work x m

if_pays : (s : Setup) (z : Numbers) (x : SerialState) (o : Option Move) → 0 < z.capacity → AllGoOn s x → FitsIf z x o
    → spheres_rank s.cores s.spheres (do_if z x o).spheres + if_most s.cores x o ≤ spheres_rank s.cores s.spheres x.spheres + price s.cores (if_work x o)
if_pays s z x None positive stands fits = omega arith
if_pays s z x (Some m) positive stands fits = move-pays s.cores s z x m positive stands fits

-- what is left of the spheres is that of what is shown of them
shown_rank : (s : Setup) (w : World) → spheres_rank s.cores s.spheres (shown_of w).spheres ≡ spheres_rank s.cores s.spheres w.spheres
shown_rank s w = spheres-shown s.cores s.spheres w.slots 0 w.spheres

-- an event increases what is left by no more than the price of its move's work
pub happens-spends : (s : Setup) (w : World) (e : Event) → Known s w → potential s (happens w e).world ≤ potential s w + price s.cores (if_work (shown_of w) (happens w e).move)
happens-spends s w e known =
    let a = happens w e in
    let kept = happens-preserved w e known.good in
    let flies = happens-flies s.cores w e known.good in
    let pays = if_pays s w.numbers (shown_of w) a.move known.good.buffer known.stands kept.fits in
    let now = shown_rank s a.world in
    let was = shown_rank s w in
    let same = ap (λ (x : SerialState). spheres_rank s.cores s.spheres x.spheres) kept.whole in
    omega (arith, flies, pays, now, was, same)

moves_more : (s : Setup) (w : World) (a : EventOutcome) (m : Move) (o : Option Move) (p : Sphere) (b : Cursor) → o ≡ Some m → a.move ≡ o → Known s w → Preserved w a → Flies s.cores w a → slice_get (shown_of w).spheres m.sphere ≡ Some p → p.role ≡ Replay b
    → potential s a.world + what_more m.what ≤ potential s w
moves_more s w a m None p b e move known kept flies is role = absurd (none-some m e)
moves_more s w a m (Some n) p b e move known kept flies is role =
    let fits : Fits w.numbers (shown_of w) m = subst (λ (x : Option Move). FitsIf w.numbers (shown_of w) x) (move ∙ e) kept.fits in
    let pays = move-pays_more s.cores s w.numbers (shown_of w) m p b known.good.buffer known.stands is role fits in
    let most = ap (if_most s.cores (shown_of w)) (move ∙ e) in
    let now = shown_rank s a.world in
    let was = shown_rank s w in
    let same = ap (λ (x : SerialState). spheres_rank s.cores s.spheres x.spheres) (kept.whole ∙ ap (do_if w.numbers (shown_of w)) (move ∙ e)) in
    omega (arith, flies, pays, now, was, same, most)

-- a move of a replay reduces it, by that move's events
pub happens-less : (s : Setup) (w : World) (e : Event) (m : Move) (p : Sphere) (b : Cursor) → Known s w → (happens w e).move ≡ Some m → slice_get (shown_of w).spheres m.sphere ≡ Some p → p.role ≡ Replay b
    → potential s (happens w e).world + what_more m.what ≤ potential s w
happens-less s w e m p b known move is role =
    moves_more s w (happens w e) m (Some m) p b refl move known (happens-preserved w e known.good) (happens-flies s.cores w e known.good) is role
