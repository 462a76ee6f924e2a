-- Every move pays for its flight: in a replay with the work that its play then no longer has left, else with its own work.
use Rattle.std.proofs.Common.{◌≡◌, ℕ, suc, ◌+◌, ◌<◌, ◌≤◌, false, List, length, Option, Some, None, refl, sym, ap, ◌∙◌, arith, set}
use Rattle.std.specs.Prelude.{slice_get}
use Rattle.spec_isa.specs.declared.thread.Parts.{Parts}
use Rattle.spec_isa.specs.Runs.{run}
use Rattle.spec_kernel.specs.Devices.{Devices}
use Rattle.spec_engine.specs.declared.answers.How.{How}
use Rattle.spec_sphere.specs.sphere.Spheres.{Cursor, Replay, Sphere, is_over, is_stopped, replays}
use Rattle.spec_sphere.specs.sphere.Commits.{MovedSphere, chunk_moved, serial_moved, dma_moved, raised, laid}
use Rattle.spec_engine.specs.Closing.{is_piece, is_short}
use Rattle.spec_protocol.specs.machine.World.{Numbers, MoveKind, OfChunk, OfSerial, OfDma, OfRaise, Move}
use Rattle.spec_sphere.specs.sphere.Setups.{SphereSetup}
use Rattle.spec_protocol.specs.machine.Serial.{SerialState, do_serial, do_dma, do_raise}
use Rattle.spec_protocol.specs.machine.Moves.{move_chunk, do_by_kind, FitsChunk, FitsSerial}
use Rattle.spec_replay.proofs.Replays.Moved.{may-go}
use Rattle.spec_finishing.specs.Work.{serial_work, dma_work, kind_work}
use Rattle.spec_finishing.specs.Rank.{price, spheres_rank}
use Rattle.spec_finishing.proofs.Paying.Plays.{paid, words-paid}
use Rattle.spec_finishing.proofs.Paying.GoingOn.{GoesOn, thread-next}
use Rattle.spec_finishing.proofs.Ending.KindsKept.{chunk-kind, serial-kind, DmaKind, dma-kind, raised-kind}
use Rattle.spec_finishing.proofs.Left.Rows.{spheres-pay, sphere-live}
use Rattle.spec_finishing.proofs.Paying.Commits.{chunk-pays}
use Rattle.spec_finishing.proofs.Paying.Serial.{serial-pays, DmaPays}

-- ---- the most that a move's flight has left, with c cores

-- the most that the flight of a serial step has left
abbrev pub serial_most : (c : ℕ) → Sphere → Devices → (moment thread : ℕ) → Option Parts → ℕ
serial_most c p devices moment k None = 0
serial_most c p devices moment k (Some t) = length (serial_moved k moment t devices p).words + c + 1

-- the most that the flight of a DMA has left
abbrev pub dma_most : (c : ℕ) → Option MovedSphere → ℕ
dma_most c None = 0
dma_most c (Some v) = length v.words + c + 1

-- the most that the flight of a move has left, by what it does
abbrev pub what_most : (c : ℕ) → Sphere → Devices → (moment : ℕ) → MoveKind → ℕ
what_most c p devices moment (OfChunk k how n limit) = n + c + 1
what_most c p devices moment (OfSerial k) = serial_most c p devices moment k (slice_get p.threads k)
what_most c p devices moment OfDma = dma_most c (dma_moved devices p)
what_most c p devices moment (OfRaise k value) = 0

-- the most that the flight of a move has left in its sphere, if there is one
abbrev pub sphere_most : (c : ℕ) → Devices → Move → Option Sphere → ℕ
sphere_most c devices m None = 0
sphere_most c devices m (Some p) = what_most c p devices m.moment m.what

-- the most that the flight of a move has left
abbrev pub move_most : (c : ℕ) → SerialState → Move → ℕ
move_most c x m = sphere_most c x.devices m (slice_get x.spheres m.sphere)

-- what a replay pays beyond that: for a chunk's instructions, and three more
abbrev pub what_more : MoveKind → ℕ
what_more (OfChunk k how n limit) = n + 3
what_more (OfSerial k) = 3
what_more OfDma = 3
what_more (OfRaise k value) = 0

-- ---- a move of one sphere

-- with c cores, sphere i is p and has that image
module _ (c : ℕ) (images : List SphereSetup) (x : SerialState) (i : ℕ) (image : SphereSetup) (p : Sphere) (there : slice_get images i ≡ Some image) (is : slice_get x.spheres i ≡ Some p) where
  -- it is plain or recorded
  module _ (live : replays p.role ≡ false) where
    own_pays : (q : Sphere) (l n : ℕ) → replays q.role ≡ false → l ≤ n → spheres_rank c images (set x.spheres i q) + l ≤ spheres_rank c images x.spheres + n
    own_pays q l n still enough =
        spheres-pay c images x.spheres i image p q l n there is (let e = sphere-live c image q still in omega (arith, e, enough))

    chunk_own : (z : Numbers) (k : ℕ) (how : How) (n limit : ℕ) (o : Option Parts)
        → spheres_rank c images (move_chunk z x i k how n limit p o).spheres + (n + c + 1) ≤ spheres_rank c images x.spheres + price c (suc n)
    chunk_own z k how n limit None = let h = words-paid c n in omega (arith, h)
    chunk_own z k how n limit (Some t) =
        own_pays (laid (chunk_moved k (is_piece how) (is_short z.s how limit) (run p.memory t n) x.devices p)) (n + c + 1) (price c (suc n))
        (chunk-kind k (is_piece how) (is_short z.s how limit) (run p.memory t n) x.devices p ∙ live) (let h = words-paid c n in omega (arith, h))

    serial_own : (k moment : ℕ) (o : Option Parts)
        → spheres_rank c images (do_serial x i k moment p o).spheres + serial_most c p x.devices moment k o ≤ spheres_rank c images x.spheres + price c (serial_work p x.devices moment k o)
    serial_own k moment None = omega arith
    serial_own k moment (Some t) =
        let v = serial_moved k moment t x.devices p in
        own_pays (laid v) (length v.words + c + 1) (price c (suc (length v.words)))
        (serial-kind k moment t x.devices p ∙ live) (let h = words-paid c (length v.words) in omega (arith, h))

    dma_own : (o : Option MovedSphere) → DmaKind p.role o
        → spheres_rank c images (do_dma x i o).spheres + dma_most c o ≤ spheres_rank c images x.spheres + price c (dma_work o)
    dma_own None kind = omega arith
    dma_own (Some v) kind =
        own_pays (laid v) (length v.words + c + 1) (price c (suc (length v.words))) (kind ∙ live)
        (let h = words-paid c (length v.words) in omega (arith, h))

    raise_own : (k value : ℕ) (o : Option Parts)
        → spheres_rank c images (do_raise x i k value p o).spheres + 0 ≤ spheres_rank c images x.spheres + price c 0
    raise_own k value None = omega arith
    raise_own k value (Some t) =
        own_pays (raised k value t p) 0 (price c 0) (raised-kind k value t p ∙ live) (omega arith)

    -- a move of a sphere that isn't replayed pays for its flight with its own work
    pub what_own : (z : Numbers) (moment : ℕ) (a : MoveKind)
        → spheres_rank c images (do_by_kind z x moment i p a).spheres + what_most c p x.devices moment a ≤ spheres_rank c images x.spheres + price c (kind_work p x.devices moment a)
    what_own z moment (OfChunk k how n limit) = chunk_own z k how n limit (slice_get p.threads k)
    what_own z moment (OfSerial k) = serial_own k moment (slice_get p.threads k)
    what_own z moment OfDma = dma_own (dma_moved x.devices p) (dma-kind x.devices p)
    what_own z moment (OfRaise k value) = raise_own k value (slice_get p.threads k)

  -- it is a replay, with cursor b, and goes on beside its play unless it is over
  module _ (b : Cursor) (role : p.role ≡ Replay b) (goes : is_over b.now ≡ false → GoesOn image p b) where
    -- a chunk of a replay pays for its flight with the work that the play then no longer has left
    pub chunk_paid : (z : Numbers) (k : ℕ) (how : How) (n limit : ℕ) (o : Option Parts) → 0 < z.capacity → slice_get p.threads k ≡ o → FitsChunk z p k how n limit o
        → spheres_rank c images (move_chunk z x i k how n limit p o).spheres + paid c n ≤ spheres_rank c images x.spheres + 0
    chunk_paid z k how n limit None positive thread fits = absurd fits
    chunk_paid z k how n limit (Some t) positive thread fits =
        let going : is_over b.now ≡ false = sym (ap is_stopped role) ∙ fits.going in
        let h = thread-next image p b k (goes going) (may-go p b k role fits.going fits.turn) in
        let pays = chunk-pays c image p b k role h z t how n limit (is_short z.s how limit) x.devices positive thread fits in
        spheres-pay c images x.spheres i image p (laid (chunk_moved k (is_piece how) (is_short z.s how limit) (run p.memory t n) x.devices p)) (paid c n) 0 there is (omega (arith, pays))

    -- a serial step of a replay pays for its flight with the work that the play then no longer has left
    pub serial_paid : (k moment : ℕ) (o : Option Parts) → slice_get p.threads k ≡ o → FitsSerial p k o
        → spheres_rank c images (do_serial x i k moment p o).spheres + (serial_most c p x.devices moment k o + 3) ≤ spheres_rank c images x.spheres + 0
    serial_paid k moment None thread fits = absurd fits
    serial_paid k moment (Some t) thread fits =
        let going : is_over b.now ≡ false = sym (ap is_stopped role) ∙ fits.going in
        let v = serial_moved k moment t x.devices p in
        let h = thread-next image p b k (goes going) (may-go p b k role fits.going fits.turn) in
        let pays = serial-pays c image p b k moment t x.devices role h thread fits in
        spheres-pay c images x.spheres i image p (laid v) ((length v.words + c + 1) + 3) 0 there is (omega (arith, pays))

  -- a DMA of a sphere pays for its flight, in a replay with the work that the play then no longer has left
  pub dma_paid : (o : Option MovedSphere) → DmaPays c image p o → (o ≡ None → ⊥)
      → spheres_rank c images (do_dma x i o).spheres + (dma_most c o + 3) ≤ spheres_rank c images x.spheres + 0
  dma_paid None pays some = absurd (some refl)
  dma_paid (Some v) pays some =
      spheres-pay c images x.spheres i image p (laid v) ((length v.words + c + 1) + 3) 0 there is (omega (arith, pays))
