-- The flight of a granted request or of a DMA has no more left than its move says.
use Rattle.std.proofs.Common.{◌≡◌, ◌≢◌, ℕ, suc, ◌+◌, ◌^◌, ◌<◌, ◌≤◌, List, [], ◌∷◌, ◌++◌, length, Option, Some, None, refl, ap, ◌∙◌, arith}
use Rattle.std.specs.Prelude.{slice_get, option_map}
use Rattle.std.proofs.lemmas.Bool.{eqb-false}
use Rattle.spec_isa.specs.Words.{Stored, lays}
use Rattle.spec_engine.specs.declared.answers.How.{How}
use Rattle.spec_engine.specs.Signatures.{Signature, nothing, signed}
use Rattle.spec_engine.specs.Flights.{Flight, at, first_slot, is_of_sphere}
use Rattle.spec_engine.proofs.Searches.{first_none}
use Rattle.spec_sphere.specs.sphere.Spheres.{Sphere}
use Rattle.spec_sphere.specs.sphere.Commits.{CommitOutcome, Granted, Piece, Diverged, MovedSphere, chunk_moved, serial_moved, dma_moved}
use Rattle.spec_engine.specs.Closing.{is_piece}
use Rattle.spec_protocol.specs.machine.World.{World, Occupant, Move, moment, sphere_at}
use Rattle.spec_protocol.specs.machine.Asking.{CommitRequest, move_at, granted, chunk_request, grant_chunk, serial_request, grant_serial, asking}
use Rattle.spec_protocol.specs.machine.Transferring.{dma_move, transferring}
use Rattle.spec_engine.specs.Flying.{flying}
use Rattle.spec_protocol.specs.machine.Shown.{shown_of}
use Rattle.spec_protocol.specs.promises.Invariants.{IsGoodHeld, IsGood, current}
use Rattle.spec_protocol.proofs.Memory.Slots.{words-other}
use Rattle.spec_sphere.proofs.Moves.Granted.{chunk-stores}
use Rattle.spec_sphere.proofs.Moves.AnyMemory.{over, relaid, dma-relaid}
use Rattle.spec_protocol.proofs.Invariants.Asks.{shown_at, shown_over}
use Rattle.spec_protocol.proofs.Moves.AnyEvent.{any-ask, any-transfer}
use Rattle.spec_finishing.proofs.Left.Slots.{flown-most}
use Rattle.spec_finishing.proofs.Paying.Moves.{serial_most, dma_most, what_most, sphere_most, move_most}
use Rattle.spec_finishing.proofs.Left.AnyEvent.{Flies, still_flies}

-- ---- the move's most, if the sphere is known

most_at : (c : ℕ) (w : World) (m : Move) → m.sphere < length w.spheres → move_most c (shown_of w) m ≡ what_most c (over (current w m.sphere) (sphere_at w m.sphere)) w.devices m.moment m.what
most_at c w m within = ap (sphere_most c w.devices m) (shown_at w m.sphere within ∙ ap Some (shown_over w m.sphere))

-- ---- granted

granted_flies : (c : ℕ) (w : World) (d : ℕ) (q : CommitRequest) (writes : Signature) (v : MovedSphere) (o : CommitOutcome) → length v.words + c + 1 ≤ move_most c (shown_of w) (move_at (moment w) q) → Flies c w (granted w d q writes v o)
granted_flies c w d q writes v Granted l = let r = flown-most c q.sphere v.words writes (2 ^ d) w.slots in omega (arith, r, l)
granted_flies c w d q writes v Piece l = let r = flown-most c q.sphere v.words writes (2 ^ d) w.slots in omega (arith, r, l)
granted_flies c w d q writes v (Diverged i why) l = omega arith

chunk_flies : (c : ℕ) (w : World) (d : ℕ) (h : Occupant) (how : How) → IsGoodHeld w d h → Flies c w (grant_chunk w d h how)
unfolding grant_chunk
chunk_flies c w d h how held =
    let q = chunk_request w h how in
    let p = sphere_at w h.chunk.sphere in
    let v = chunk_moved h.thread (is_piece how) q.short h.chunk.done w.devices p in
    let few : length v.words ≤ h.chunk.done.n =
    chunk-stores (λ (ws : List Stored). length ws ≤ h.chunk.done.n) h.thread (is_piece how) q.short h.chunk.done w.devices p (omega arith) held.chunk.closes.few
    in
    let most = most_at c w (move_at (moment w) q) held.sphere in
    granted_flies c w d q h.chunk.writes v v.outcome (omega (arith, few, most))

-- ---- a serial step

-- no word of a sphere is in flight if no flight is of that sphere
pub nothing_flies : (i : ℕ) (xs : List (Option Flight)) → ((k : ℕ) (f : Flight) → at xs k ≡ Some f → f.sphere ≢ i) → flying i xs ≡ []
nothing_flies i [] others = refl
nothing_flies i (None ∷ xs) others = nothing_flies i xs (λ k f e. others (suc k) f e)
nothing_flies i (Some f ∷ xs) others =
    (λ j. words-other i f (others 0 f refl) j ++ nothing_flies i xs (λ k g e. others (suc k) g e) j)

-- if no flight of the sphere is left, it is shown as it is
shown_same : (w : World) (i : ℕ) → flying i w.slots ≡ [] → over (current w i) (sphere_at w i) ≡ sphere_at w i
shown_same w i e = (λ j. over (lays (sphere_at w i).memory (e j)) (sphere_at w i))

serial_flies : (c : ℕ) (w : World) (d : ℕ) (h : Occupant) → IsGoodHeld w d h → first_slot (is_of_sphere h.chunk.sphere) w.slots ≡ None → Flies c w (grant_serial w d h)
unfolding grant_serial
serial_flies c w d h held none =
    let i = h.chunk.sphere in
    let p = sphere_at w i in
    let v = serial_moved h.thread (moment w) h.chunk.start w.devices p in
    let empty = nothing_flies i w.slots (λ k f e. eqb-false f.sphere i (first_none (is_of_sphere i) w.slots none k f e)) in
    let most : move_most c (shown_of w) (move_at (moment w) (serial_request h)) ≡ length v.words + c + 1 =
    most_at c w (move_at (moment w) (serial_request h)) held.sphere
    ∙ ap (λ (x : Sphere). serial_most c x w.devices (moment w) h.thread (slice_get x.threads h.thread)) (shown_same w i empty)
    ∙ ap (serial_most c p w.devices (moment w) h.thread) held.thread.start
    in
    granted_flies c w d (serial_request h) (signed i v.words (nothing w.numbers.bits)) v v.outcome (omega (arith, most))

-- ---- the event

-- an ask leaves flights with no more left than before, except for its move's
pub ask-flies : (c : ℕ) (w : World) (d : ℕ) → IsGood w → Flies c w (asking w d)
ask-flies c w d good =
    any-ask w (Flies c w) (λ r none. still_flies c w r) d (λ h how may chunk none. chunk_flies c w d h how (good.held d h may.is)) (λ h how may serial none. serial_flies c w d h (good.held d h may.is) none)

-- ---- DMAs

dma_most_relaid : (c : ℕ) (m : List ℕ) (o : Option MovedSphere) → dma_most c (option_map (relaid m) o) ≡ dma_most c o
dma_most_relaid c m None = refl
dma_most_relaid c m (Some v) = refl

-- the move's most is that of the DMA on the sphere as it is
dma_most_is : (c : ℕ) (w : World) (i : ℕ) → i < length w.spheres → move_most c (shown_of w) (dma_move w i) ≡ dma_most c (dma_moved w.devices (sphere_at w i))
dma_most_is c w i within =
    most_at c w (dma_move w i) within
    ∙ ap (dma_most c) (dma-relaid w.devices (sphere_at w i) (current w i))
    ∙ dma_most_relaid c (current w i) (dma_moved w.devices (sphere_at w i))

-- a DMA leaves flights with no more left than before, except for its move's
pub dma-flies : (c : ℕ) (w : World) (i : ℕ) → Flies c w (transferring w i)
dma-flies c w i =
    any-transfer w (Flies c w) (λ r none. still_flies c w r) i
    (λ v t free none.
    let r = flown-most c i v.words (signed i v.words (nothing w.numbers.bits)) 0 w.slots in
    let l = dma_most_is c w i t.within ∙ ap (dma_most c) t.is in
    omega (arith, r, l))
    (λ v j why t is. omega arith)
