-- Each move of a run pays, if every replay that goes on is beside its play.
use Rattle.std.proofs.Common.{◌≡◌, ℕ, ◌+◌, ◌<◌, ◌≤◌, Bool, true, false, List, Option, Some, None, refl, sym, ap, ◌∙◌, arith}
use Rattle.std.specs.Prelude.{slice_get, IsSome}
use Rattle.std.proofs.lemmas.Bool.{true≢false}
use Rattle.std.proofs.lemmas.Option.{none-some}
use Rattle.spec_kernel.specs.Devices.{Devices}
use Rattle.spec_sphere.specs.sphere.Spheres.{Cursor, Role, Plain, Record, Replay, Sphere, is_over, is_stopped}
use Rattle.spec_sphere.specs.sphere.Commits.{dma_moved}
use Rattle.spec_sphere.specs.sphere.Spheres.{replays}
use Rattle.spec_protocol.specs.machine.World.{Numbers, MoveKind, OfChunk, OfSerial, OfDma, OfRaise, Move}
use Rattle.spec_sphere.specs.sphere.Setups.{SphereSetup}
use Rattle.spec_protocol.specs.machine.Machine.{Setup}
use Rattle.spec_protocol.specs.machine.Serial.{SerialState}
use Rattle.spec_protocol.specs.machine.Moves.{do_by_kind, do_at, do_move, FitsWhat, FitsAt, Fits}
use Rattle.spec_replay.proofs.Replays.Moved.{turn_of_dma}
use Rattle.spec_finishing.specs.Work.{kind_work, role_work, sphere_work, move_work}
use Rattle.spec_finishing.specs.Rank.{price, spheres_rank}
use Rattle.spec_finishing.proofs.Paying.GoingOn.{GoesOn, dma-next}
use Rattle.spec_finishing.proofs.Paying.Serial.{dma-pays}
use Rattle.spec_finishing.proofs.Paying.Moves.{what_most, sphere_most, move_most, what_more, what_own, chunk_paid, serial_paid, dma_paid}
use Rattle.spec_sphere.proofs.Replays.Turns.{no_raise}

-- every sphere has its image, and every replay that goes on is beside its play
pub record AllGoOn (s : Setup) (x : SerialState) : Type 0 where
  pub images : (i : ℕ) (p : Sphere) → slice_get x.spheres i ≡ Some p → (image : SphereSetup) × (slice_get s.spheres i ≡ Some image)
  pub goes : (i : ℕ) (image : SphereSetup) (p : Sphere) (b : Cursor) → slice_get s.spheres i ≡ Some image → slice_get x.spheres i ≡ Some p → p.role ≡ Replay b → is_over b.now ≡ false → GoesOn image p b

-- ---- in a replay

not_none : {A : Type 0} (o : Option A) → IsSome o → o ≡ None → ⊥
not_none None some e = true≢false (sym some)
not_none (Some x) some e = none-some x (sym e)

what_paid : (c : ℕ) (images : List SphereSetup) (z : Numbers) (x : SerialState) (moment i : ℕ) (image : SphereSetup) (p : Sphere) (b : Cursor) (a : MoveKind) → 0 < z.capacity → slice_get images i ≡ Some image → slice_get x.spheres i ≡ Some p → p.role ≡ Replay b
    → (is_over b.now ≡ false → GoesOn image p b) → FitsWhat z x.devices p a → spheres_rank c images (do_by_kind z x moment i p a).spheres + (what_most c p x.devices moment a + what_more a) ≤ spheres_rank c images x.spheres + 0
what_paid c images z x moment i image p b (OfChunk k how n limit) positive there is role goes fits = chunk_paid c images x i image p there is b role goes z k how n limit (slice_get p.threads k) positive refl fits
what_paid c images z x moment i image p b (OfSerial k) positive there is role goes fits = serial_paid c images x i image p there is b role goes k moment (slice_get p.threads k) refl fits
what_paid c images z x moment i image p b OfDma positive there is role goes fits =
    let going : is_over b.now ≡ false = sym (ap is_stopped role) ∙ fits.going in
    dma_paid c images x i image p there is (dma_moved x.devices p) (dma-pays c image p b x.devices role (dma-next image p b (goes going) (turn_of_dma p b role fits.going fits.turn))) (not_none (dma_moved x.devices p) fits.moves)
what_paid c images z x moment i image p b (OfRaise k value) positive there is role goes fits = absurd (no_raise p b (slice_get p.threads k) role fits)

-- ---- in any sphere

-- a role that is replayed has a cursor
pub replay-role : (role : Role) → replays role ≡ true → (b : Cursor) × (role ≡ Replay b)
replay-role Plain e = absurd (true≢false (sym e))
replay-role (Record recording) e = absurd (true≢false (sym e))
replay-role (Replay b) e = (b, refl)

live_work : (p : Sphere) (devices : Devices) (m : Move) (role : Role) → replays role ≡ false → role_work p devices m role ≡ kind_work p devices m.moment m.what
live_work p devices m Plain e = refl
live_work p devices m (Record recording) e = refl
live_work p devices m (Replay b) e = absurd (true≢false e)

role_pays : (c : ℕ) (s : Setup) (z : Numbers) (x : SerialState) (m : Move) (p : Sphere) (b : Bool) → 0 < z.capacity → AllGoOn s x → slice_get x.spheres m.sphere ≡ Some p → replays p.role ≡ b → FitsWhat z x.devices p m.what
    → spheres_rank c s.spheres (do_by_kind z x m.moment m.sphere p m.what).spheres + what_most c p x.devices m.moment m.what ≤ spheres_rank c s.spheres x.spheres + price c (role_work p x.devices m p.role)
role_pays c s z x m p true positive stands is kind fits =
    let image = stands.images m.sphere p is in
    let cursor = replay-role p.role kind in
    let r = what_paid c s.spheres z x m.moment m.sphere image.0 p cursor.0 m.what positive image.1 is cursor.1 (λ going. stands.goes m.sphere image.0 p cursor.0 image.1 is cursor.1 going) fits in
    omega (arith, r)
role_pays c s z x m p false positive stands is kind fits =
    let image = stands.images m.sphere p is in
    let r = what_own c s.spheres x m.sphere image.0 p image.1 is kind z m.moment m.what in
    let e = ap (price c) (live_work p x.devices m p.role kind) in
    omega (arith, r, e)

at_pays : (c : ℕ) (s : Setup) (z : Numbers) (x : SerialState) (m : Move) (o : Option Sphere) → 0 < z.capacity → AllGoOn s x → slice_get x.spheres m.sphere ≡ o → FitsAt z x.devices m o
    → spheres_rank c s.spheres (do_at z x m o).spheres + sphere_most c x.devices m o ≤ spheres_rank c s.spheres x.spheres + price c (sphere_work x.devices m o)
at_pays c s z x m None positive stands is fits = absurd fits
at_pays c s z x m (Some p) positive stands is fits = role_pays c s z x m p (replays p.role) positive stands is refl fits

-- a move pays for its flight, with its own work at most
pub move-pays : (c : ℕ) (s : Setup) (z : Numbers) (x : SerialState) (m : Move) → 0 < z.capacity → AllGoOn s x → Fits z x m
    → spheres_rank c s.spheres (do_move z x m).spheres + move_most c x m ≤ spheres_rank c s.spheres x.spheres + price c (move_work x m)
unfolding do_move
move-pays c s z x m positive stands fits = at_pays c s z x m (slice_get x.spheres m.sphere) positive stands refl fits

-- and in a replay it pays for its flight and for more
at_more : (c : ℕ) (s : Setup) (z : Numbers) (x : SerialState) (m : Move) (p : Sphere) (b : Cursor) (o : Option Sphere) → o ≡ Some p → 0 < z.capacity → AllGoOn s x → slice_get x.spheres m.sphere ≡ o → p.role ≡ Replay b → FitsAt z x.devices m o
    → spheres_rank c s.spheres (do_at z x m o).spheres + (sphere_most c x.devices m o + what_more m.what) ≤ spheres_rank c s.spheres x.spheres + 0
at_more c s z x m p b None e positive stands is role fits = absurd fits
at_more c s z x m p b (Some q) e positive stands is role fits =
    let image = stands.images m.sphere q is in
    let same : q ≡ p = cc in
    let of_q : q.role ≡ Replay b = ap (λ (y : Sphere). y.role) same ∙ role in
    what_paid c s.spheres z x m.moment m.sphere image.0 q b m.what positive image.1 is of_q (λ going. stands.goes m.sphere image.0 q b image.1 is of_q going) fits

-- a move of a replay pays for its flight and for what it does beside that
pub move-pays_more : (c : ℕ) (s : Setup) (z : Numbers) (x : SerialState) (m : Move) (p : Sphere) (b : Cursor) → 0 < z.capacity → AllGoOn s x → slice_get x.spheres m.sphere ≡ Some p → p.role ≡ Replay b → Fits z x m
    → spheres_rank c s.spheres (do_move z x m).spheres + (move_most c x m + what_more m.what) ≤ spheres_rank c s.spheres x.spheres
unfolding do_move
move-pays_more c s z x m p b positive stands is role fits =
    let r = at_more c s z x m p b (slice_get x.spheres m.sphere) is positive stands refl role fits in omega (arith, r)
