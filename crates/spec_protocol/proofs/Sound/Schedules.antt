-- Every event keeps what is sound, and the start is sound: so is every world after a schedule.
use Rattle.std.proofs.Common.{◌≡◌, ◌≢◌, ℕ, zero, suc, ◌+◌, ◌-◌, ◌%◌, ◌<◌, ◌≤◌, Bool, true, false, cond, List, [], ◌∷◌, length, Some, None, refl, sym, ap, ◌∙◌, subst, arith, get_or, map, inl, inr, set, replicate, get_or-set_same, get_or-set_other}
use Rattle.std.specs.Prelude.{slice_get, slice_index, max}
use Rattle.std.proofs.lemmas.Bool.{true≢false, eq-eqb, cases_eq, cases_lt}
use Rattle.std.proofs.Math.ListN.{length-set}
use Rattle.std.proofs.lemmas.List.{length-map, get_or_past}
use Rattle.dl_entry.specs.declared.Actor.{Actor}
use Rattle.dl_entry.specs.declared.Counts.{Counts}
use Rattle.dl_entry.specs.declared.ReplyName.{ReplyName}
use Rattle.dl_entry.specs.ReplyName.{place}
use Rattle.dl_entry.specs.Counts.{count_of, counted}
use Rattle.spec_isa.specs.declared.thread.Parts.{Parts}
use Rattle.spec_isa.specs.Words.{Stored, lay, lays}
use Rattle.spec_isa.proofs.MemoryLaws.{length_lay, length_lays}
use Rattle.spec_log.specs.Versions.{new_threads}
use Rattle.spec_kernel.specs.Devices.{HaveByteInput}
use Rattle.spec_play.specs.Progress.{position}
use Rattle.spec_play.specs.Turns.{TurnOrEnd, Turn, TurnOfDma}
use Rattle.spec_engine.specs.declared.answers.How.{How}
use Rattle.spec_engine.specs.Flights.{Flight, at}
use Rattle.spec_engine.specs.Chunks.{Chunk, step, cut}
use Rattle.spec_protocol.specs.declared.event.Event.{Event}
use Rattle.spec_sphere.specs.sphere.Spheres.{turn_in, turn_against, Cursor, Role, Plain, Record, Replay, Sphere, no_sphere, is_over, is_stopped, whole_limit, pieces_of, limit_of, halves, most_in}
use Rattle.spec_sphere.specs.sphere.Commits.{MovedSphere, chunk_moved, serial_moved}
use Rattle.spec_engine.specs.Closing.{is_piece, is_short}
use Rattle.spec_protocol.specs.machine.World.{Numbers, Occupant, World, EventOutcome, moment, sphere_at}
use Rattle.spec_sphere.specs.sphere.Spheres.{replays}
use Rattle.spec_sphere.specs.sphere.Setups.{first_threads, RoleSetup, IsPlain, IsRecorded, IsReplayed, new_recording, SphereSetup, live_sphere, sphere_as, sphere_of}
use Rattle.spec_protocol.specs.machine.Machine.{Setup, world_of, act, name_of, with_event, happens, world_after}
use Rattle.spec_protocol.specs.promises.Invariants.{IsGood}
use Rattle.spec_protocol.specs.promises.Promises.{IsSetup, AreSizesKept}
use Rattle.spec_sphere.specs.promises.Sound.{IsRole, IsImage, AreSoundWords, no_image, IsSoundCursor, IsSoundRole, IsSoundSphere}
use Rattle.spec_protocol.specs.promises.Sound.{IsWithinLimits, image_at, size_of, IsSoundChunk, IsSound, WorldsAreSound, EventsKeepSound}
use Rattle.spec_protocol.proofs.Invariants.Preserved.{SameSizes}
use Rattle.spec_sphere.proofs.Moves.Joining.{MayGo, may_go, own_pieces, joins-whole}
use Rattle.spec_sphere.proofs.Moves.Transfers.{dma-turn_is}
use Rattle.spec_protocol.proofs.Points.Counts.{act-untold}
use Rattle.spec_protocol.proofs.Invariants.Schedules.{happens-preserved, free_slots, first_held, start-good, sizes_kept}
use Rattle.spec_protocol.proofs.Sound.Changes.{Properties, Holds, Lands, Asks, Keeps, afresh-property, act-holds}
use Rattle.spec_sphere.proofs.Sound.Words.{lay-bytes}
use Rattle.spec_sphere.proofs.Sound.Devices.{start-bytes}
use Rattle.spec_protocol.proofs.Sound.Chunks.{IsSoundIn, step-sound, cut-sound, squash-sound, fresh-sound}
use Rattle.spec_sphere.proofs.Sound.Limits.{limit-most, version-least, whole-positive}
use Rattle.spec_sphere.proofs.Logs.Fresh.{fresh-none}
use Rattle.spec_sphere.proofs.Sound.Commits.{IsSoundMoved}
use Rattle.spec_sphere.proofs.Replays.Verdicts.{as-role}
use Rattle.spec_sphere.proofs.Sound.Moves.{chunk-sound, serial-sound}
use Rattle.spec_sphere.proofs.Sound.Plays.{first-thread, replay-sound}
use Rattle.spec_sphere.proofs.Sound.Transfers.{dma-moved-sound, raised-sound}
use Rattle.spec_protocol.proofs.Sound.Held.{IsSoundHeld, older-only, older-alone, with-younger, squashed-sound, younger-sound}

-- ---- the properties

abbrev sound : Setup → Properties
sound s =
    record {
      sphere = λ now i p. IsSoundSphere s.numbers.s (image_at s i) now p;
      flight = λ f. AreSoundWords (size_of s f.sphere) f.words;
      held = IsSoundHeld s;
      devices = HaveByteInput;
    }

images-whole : (s : ℕ) (ds : List SphereSetup) (i : ℕ) → ((d : SphereSetup) → slice_get ds i ≡ Some d → IsImage s d) → length (get_or ds i no_image).memory % 4 ≡ 0
images-whole s [] i each = refl
images-whole s (d ∷ ds) zero each = let e = (each d refl).pages in omega (arith, e)
images-whole s (d ∷ ds) (suc i) each = images-whole s ds i each

-- a memory's length is a whole number of words
whole : (s : Setup) (i : ℕ) → IsWithinLimits s → length (image_at s i).memory % 4 ≡ 0
whole s i limits = images-whole s.numbers.s s.spheres i (limits.images i)

landed : (s : Setup) (now i : ℕ) (v : MovedSphere) → IsSoundMoved s.numbers.s (image_at s i) now v → Lands (sound s) now i v
landed s now i v m = record { sphere = m.sphere; flight = λ writes told. m.words; devices = m.devices }

-- ---- a word more in memory

drained-sphere : (s : Setup) (now i : ℕ) (w : Stored) (ws : List Stored) (p : Sphere) → AreSoundWords (size_of s i) (w ∷ ws) → IsSoundSphere s.numbers.s (image_at s i) now p → IsSoundSphere s.numbers.s (image_at s i) now (record p { memory = lay p.memory w })
drained-sphere s now i w ws p words k =
    record {
      size = length_lay p.memory w ∙ k.size;
      bytes = lay-bytes p.memory w words.bytes.0 k.bytes;
      request = k.request;
      some = k.some;
      few = k.few;
      threads = k.threads;
      commits = k.commits;
      role = k.role;
    }

drained-both : (s : Setup) (now : ℕ) (f : Flight) (w : Stored) (ws : List Stored) (p : Sphere) → f.words ≡ w ∷ ws → AreSoundWords (size_of s f.sphere) f.words → IsSoundSphere s.numbers.s (image_at s f.sphere) now p
    → AreSoundWords (size_of s f.sphere) ws × IsSoundSphere s.numbers.s (image_at s f.sphere) now (record p { memory = lay p.memory w })
drained-both s now f w ws p e words k =
    let all : AreSoundWords (size_of s f.sphere) (w ∷ ws) = subst (AreSoundWords (size_of s f.sphere)) e words in
    (record { inside = all.inside.1; bytes = all.bytes.1 }, drained-sphere s now f.sphere w ws p all k)

-- ---- a chunk

going-on : (p : Sphere) → is_stopped p.role ≡ false → (b : Cursor) → p.role ≡ Replay b → is_over b.now ≡ false
going-on p going b e = ap is_stopped (sym e) ∙ going

has-turn : (p : Sphere) (k : ℕ) → is_stopped p.role ≡ false → turn_against p (Actor.Thread k) ≡ None → (b : Cursor) → p.role ≡ Replay b → MayGo b k
unfolding turn_against
has-turn p k going turn b e =
    may_go b k p (going-on p going b e) (ap (λ (r : Role). turn_in r p (Actor.Thread k)) (sym e) ∙ turn)

dma-has-turn : (p : Sphere) → is_stopped p.role ≡ false → turn_against p Actor.Dma ≡ None → (b : Cursor) → p.role ≡ Replay b → b.now ≡ TurnOfDma
unfolding turn_against
dma-has-turn p going turn b e = dma-turn_is b.now (going-on p going b e) (ap (λ (r : Role). turn_in r p Actor.Dma) (sym e) ∙ turn)

-- before its limit a chunk is a piece that leaves room for an instruction
piece-how : (how : How) → is_piece how ≡ true → how ≢ How.Limit
piece-how How.Limit e h = true≢false (sym e)
piece-how How.Serial e h = true≢false (sym e)
piece-how How.Overflow e h = cc
piece-how How.Cut e h = cc

limit-is : (s k : ℕ) (b : Cursor) (t : Parts) → MayGo b k → limit_of s (Replay b) k t ≡ max 1 (whole_limit b.log k t.commits - b.total)
unfolding limit_of
limit-is s k b t may = ap (λ (n : ℕ). max 1 (whole_limit b.log k t.commits - n)) (own_pieces b k may)

-- what the cursor says of thread k's turn, which is t
turn-room : (n k : ℕ) (p : Sphere) (b : Cursor) (t : Parts) → IsSoundCursor n p.threads b → MayGo b k → slice_get p.threads k ≡ Some t → b.total < whole_limit b.log k t.commits
turn-room n k p b t cursor may is = elim may.turn [
  | inl turn ↦ (
      let h = cursor.turn k turn in
      let q : h.thread ≡ t = (let o : Some h.thread ≡ Some t = sym h.there ∙ is in cc) in
      subst (λ (x : Parts). b.total < whole_limit b.log k x.commits) q h.room
      )
  | inr joins ↦ subst (λ (m : ℕ). m < whole_limit b.log k t.commits) (sym (joins-whole b.strata k b.total joins)) (whole-positive b.log k t.commits cursor.log)
]

room-left : (n total whole limit : ℕ) → total < whole → limit ≡ max 1 (whole - total) → n < limit → total + n < whole
room-left n total whole limit a e l = omega (arith, a, e, l)

cursor-is : (s n : ℕ) (p : Sphere) (b : Cursor) → p.role ≡ Replay b → IsSoundRole s n p.threads p.role → IsSoundCursor n p.threads b
cursor-is s n p b e h = subst (IsSoundRole s n p.threads) e h

piece-room : (s : Setup) (w : World) (c : ℕ) (h : Occupant) (how : How) → Asks w c h how → IsSoundSphere s.numbers.s (image_at s h.chunk.sphere) (moment w) (sphere_at w h.chunk.sphere)
    → (b : Cursor) → (sphere_at w h.chunk.sphere).role ≡ Replay b → is_piece how ≡ true → b.total + h.chunk.done.n < whole_limit b.log h.thread h.chunk.start.commits
piece-room s w c h how asks k b e piece =
    let p = sphere_at w h.chunk.sphere in
    let held = asks.good.held c h asks.is in
    let turn = has-turn p h.thread asks.going asks.turn b e in
    let cursor = cursor-is s.numbers.s (position p.progress) p b e k.role in
    let limit : h.chunk.limit ≡ max 1 (whole_limit b.log h.thread h.chunk.start.commits - b.total) =
    (held.thread.limit asks.going).replayed (ap replays e) ∙ ap (λ (r : Role). limit_of w.numbers.s r h.thread h.chunk.start) e ∙ limit-is w.numbers.s h.thread b h.chunk.start turn
    in
    room-left h.chunk.done.n b.total (whole_limit b.log h.thread h.chunk.start.commits) h.chunk.limit
    (turn-room (position p.progress) h.thread p b h.chunk.start cursor turn held.thread.start) limit
    (held.chunk.closes.early how asks.closed (piece-how how piece))

sound-chunk : (s : Setup) (w : World) (c : ℕ) (h : Occupant) (how : How) → Asks w c h how → Holds (sound s) (moment w) w
    → Lands (sound s) (suc (moment w)) h.chunk.sphere (chunk_moved h.thread (is_piece how) (is_short w.numbers.s how h.chunk.limit) h.chunk.done w.devices (sphere_at w h.chunk.sphere))
sound-chunk s w c h how asks k =
    let i = h.chunk.sphere in
    let p = sphere_at w i in
    let held = asks.good.held c h asks.is in
    let ch = (k.held c h asks.is).older in
    let sphere = k.spheres i held.sphere in
    landed s (suc (moment w)) i _
    (chunk-sound s.numbers.s (image_at s i) (moment w) h.thread h.chunk.start w.devices p sphere held.thread.start k.devices
    (is_piece how) (is_short w.numbers.s how h.chunk.limit) h.chunk.done
    (record { live = held.thread.lives; turn = has-turn p h.thread asks.going asks.turn; room = piece-room s w c h how asks sphere })
    (record { thread = ch.thread; commits = ch.commits; status = ch.status; words = ch.words; loads = held.chunk.closes.few_loads }))

sound-serial : (s : Setup) (w : World) (c : ℕ) (h : Occupant) (how : How) → IsWithinLimits s → Asks w c h how → Holds (sound s) (moment w) w
    → Lands (sound s) (suc (moment w)) h.chunk.sphere (serial_moved h.thread (moment w) h.chunk.start w.devices (sphere_at w h.chunk.sphere))
sound-serial s w c h how limits asks k =
    let i = h.chunk.sphere in
    let p = sphere_at w i in
    let held = asks.good.held c h asks.is in
    landed s (suc (moment w)) i _
    (serial-sound s.numbers.s (image_at s i) (moment w) h.thread (moment w) h.chunk.start w.devices p (whole s i limits) (has-turn p h.thread asks.going asks.turn) (k.spheres i held.sphere) held.thread.start k.devices)

-- ---- every change

-- a chunk that is sound in its sphere's memory
in-own : (s : Setup) (ch : Chunk) (i : ℕ) → IsSoundIn s.numbers.capacity (size_of s i) i ch → IsSoundChunk s.numbers.capacity (size_of s ch.sphere) ch
in-own s ch i k = subst (λ (n : ℕ). IsSoundChunk s.numbers.capacity (size_of s n) ch) (sym k.sphere) k.sound

sound-keeps : (s : Setup) → IsWithinLimits s → Keeps s.numbers (sound s)
sound-keeps s limits =
    record {
      later = λ now i p k. as-role s.numbers.s (image_at s i) now p.role p k.role k.few k;
      stepped = λ now c p slots h sphere opened none k. older-alone s h _ none
          (in-own s (step s.numbers.capacity p.memory slots c h.chunk).chunk h.chunk.sphere
          (step-sound s.numbers.capacity (size_of s h.chunk.sphere) h.chunk.sphere p.memory slots c h.chunk sphere.size (record { sphere = refl; sound = k.older })));
      cut = λ h none k. older-alone s h _ none (in-own s (cut h.chunk).chunk h.chunk.sphere (cut-sound s.numbers.capacity (size_of s h.chunk.sphere) h.chunk.sphere h.chunk (record { sphere = refl; sound = k.older })));
      younger = λ now c p slots h y sphere same is k.
          with-younger s h _ k
          (step-sound s.numbers.capacity (size_of s h.chunk.sphere) h.chunk.sphere (lays p.memory h.chunk.done.words) slots c y (length_lays p.memory h.chunk.done.words ∙ sphere.size)
          (record { sphere = same; sound = younger-sound s now p h y h.younger limits.chunk.1 sphere k refl is })).sound;
      cut_younger = λ h y there same k.
          with-younger s h _ k (cut-sound s.numbers.capacity (size_of s h.chunk.sphere) h.chunk.sphere y (record { sphere = same; sound = k.younger y there })).sound;
      squashed = λ h k. older-only s _ (squash-sound s.numbers.capacity (size_of s h.chunk.sphere) h.chunk k.older) refl;
      squashed_younger = λ h k. record { older = k.older; younger = λ x e. squashed-sound s h h.younger refl k x e };
      promoted = λ h y there same k. older-only s _ (subst (λ (n : ℕ). IsSoundChunk s.numbers.capacity (size_of s n) y) (sym same) (k.younger y there)) refl;
      afresh = λ now i k p t sphere is live. older-only s _
          (fresh-sound s.numbers.capacity (size_of s i) s.numbers.bits i t (limit_of s.numbers.s p.role k t) (halves p.role)
          (limit-most s.numbers.s (position p.progress) p.threads p.role k t limits.chunk.1 sphere.role) (sphere.threads k t is).thread) refl;
      told = λ f c k. k;
      drained = λ now f w ws p e words k. drained-both s now f w ws p e words k;
      chunk = λ w c h how numbers asks k. sound-chunk s w c h how asks k;
      serial = λ w c h how asks k. sound-serial s w c h how limits asks k;
      dma = λ w i v t k.
          landed s (suc (moment w)) i v
          (dma-moved-sound s.numbers.s (image_at s i) (moment w) w.devices (sphere_at w i) v (whole s i limits) (dma-has-turn (sphere_at w i) t.going t.turn) (k.spheres i t.within) k.devices t.is);
      raised = λ now i k value t p r sphere. raised-sound s.numbers.s (image_at s i) now k value t p r.role r.is sphere;
    }

-- ---- an event

holds-of : (s : Setup) (w : World) → IsSound s w → Holds (sound s) (moment w) w
holds-of s w k =
    record { spheres = k.spheres; flights = k.flights; held = λ c h e. record { older = k.held c h e; younger = λ y. k.younger c h y e }; devices = k.devices }

counted-moment : (w : World) (a : EventOutcome) → a.world.counts ≡ w.counts → moment (with_event a) ≡ suc (moment w)
counted-moment w a e = let h = ap (λ (n : Counts). n.events) e in omega (arith, h)

same-sizes : (s : Setup) (w v : World) → AreSizesKept s w → SameSizes w v → AreSizesKept s v
same-sizes s w v k h = record { numbers = h.numbers ∙ k.numbers; spheres = h.spheres ∙ k.spheres; cores = h.cores ∙ k.cores; slots = h.slots ∙ k.slots }

-- one reply more is counted of one event more
counted-replies : (counts : Counts) (name : ReplyName) → ((k : ℕ) → slice_index counts.replies k ≤ counts.events) → (k : ℕ) → slice_index (counted counts name).replies k ≤ counts.events + 1
counted-replies counts name few k =
    let j = place name in
    let n = count_of counts name + 1 in
    let most : n ≤ counts.events + 1 = (let l = few j in omega (arith, l)) in
    let old = few k in
    elim (cases_eq k j) [
      | inl e ↦ elim (cases_lt j (length counts.replies)) [
        | inl l ↦ (let q = ap (slice_index (set counts.replies j n)) e ∙ get_or-set_same counts.replies j n 0 l in omega (arith, q, most))
        | inr past ↦ (let q = get_or_past (set counts.replies j n) k 0 (let h = length-set counts.replies j n in omega arith) in omega (arith, q))
      ]
      | inr ne ↦ (let q = get_or-set_other counts.replies j k n 0 ne in omega (arith, q, old))
    ]

event-replies : (w : World) (a : EventOutcome) → a.world.counts ≡ w.counts → ((k : ℕ) → slice_index w.counts.replies k ≤ moment w) → (k : ℕ) → slice_index (with_event a).counts.replies k ≤ moment (with_event a)
event-replies w a e few =
    counted-replies a.world.counts (name_of a.reply) (subst (λ (c : Counts). (k : ℕ) → slice_index c.replies k ≤ c.events) (sym e) few)

no-replies : (n k : ℕ) → slice_index (replicate n 0) k ≡ 0
no-replies zero k = refl
no-replies (suc n) zero = refl
no-replies (suc n) (suc k) = no-replies n k

counted-sound : (s : Setup) (w : World) (a : EventOutcome) → AreSizesKept s (with_event a) → ((k : ℕ) → slice_index (with_event a).counts.replies k ≤ moment (with_event a)) → moment (with_event a) ≡ suc (moment w) → Holds (sound s) (suc (moment w)) a.world → IsSound s (with_event a)
counted-sound s w a sizes replies e k =
    record {
      sizes = sizes;
      devices = k.devices;
      replies = replies;
      spheres = λ i l. subst (λ (n : ℕ). IsSoundSphere s.numbers.s (image_at s i) n (sphere_at a.world i)) (sym e) (k.spheres i l);
      flights = k.flights;
      held = λ c h e. (k.held c h e).older;
      younger = λ c h y e. (k.held c h e).younger y;
    }

-- every event keeps what is sound
pub happens-sound : EventsKeepSound
unfolding happens
happens-sound s w e limits good k =
    let a = act w e in
    let keeps : Keeps w.numbers (sound s) = subst (λ (z : Numbers). Keeps z (sound s)) (sym k.sizes.numbers) (sound-keeps s limits) in
    counted-sound s w a (same-sizes s w (happens w e).world k.sizes (happens-preserved w e good).sizes) (event-replies w a (act-untold w e).counts k.replies) (counted-moment w a (act-untold w e).counts)
    (act-holds (sound s) w keeps good (holds-of s w k) e)

-- ---- the start

live-sound : (s : ℕ) (image : SphereSetup) (role : Role) → IsImage s image → 1 ≤ most_in role → IsSoundRole s 0 (first_threads image) role → IsSoundSphere s image 0 (live_sphere image role)
live-sound s image role is few sound =
    record {
      size = refl;
      bytes = is.bytes;
      request = tt;
      some = omega arith;
      few = few;
      threads = λ k t e. first-thread image.entry k t is.aligned e;
      commits = omega arith;
      role = sound;
    }

first-as : (s : ℕ) (image : SphereSetup) (r : RoleSetup) → IsImage s image → IsRole s r → IsSoundSphere s image 0 (sphere_as s image r)
first-as s image IsPlain is role = live-sound s image Plain is (omega arith) tt
first-as s image (IsRecorded asked) is role =
    live-sound s image (Record (new_recording asked s)) is (version-least asked.version (new_threads asked.version) role.0)
    (record { version = role.0; size = refl; count = refl; interrupts = fresh-none (first_threads image) })
first-as s image (IsReplayed asked) is role = replay-sound s image asked is role.0

first-sphere : (s : ℕ) (image : SphereSetup) → IsImage s image → IsSoundSphere s image 0 (sphere_of s image)
first-sphere s image is = first-as s image image.role is is.role

first-spheres : (s : ℕ) (ds : List SphereSetup) (i : ℕ) → ((d : SphereSetup) → slice_get ds i ≡ Some d → IsImage s d) → i < length ds → IsSoundSphere s (get_or ds i no_image) 0 (get_or (map (sphere_of s) ds) i no_sphere)
first-spheres s [] i each l = absurd (omega arith)
first-spheres s (d ∷ ds) zero each l = first-sphere s d (each d refl)
first-spheres s (d ∷ ds) (suc i) each l = first-spheres s ds i each (omega (arith, l))

-- a setup within the limits is a setup
pub setup-within : (s : Setup) → IsWithinLimits s → IsSetup s
setup-within s limits =
    record { chunk = (let l = limits.chunk.0 in omega (arith, l)); buffer = (let l = limits.buffer in omega (arith, l)) }

start-held : (s : Setup) (c : ℕ) (h : Occupant) → IsWithinLimits s → ((i : ℕ) → i < length (world_of s).spheres → IsSoundSphere s.numbers.s (image_at s i) 0 (sphere_at (world_of s) i)) → at (world_of s).cores c ≡ Some h → IsSoundHeld s h
start-held s c h limits spheres e =
    let ps = (world_of s).spheres in
    let r = first_held s.numbers 0 s.cores c ps h e in
    let k : 0 + c ≡ c = omega arith in
    afresh-property (sound s) s.numbers 0 (0 + c) 0 (get_or ps c no_sphere) (slice_get (get_or ps c no_sphere).threads 0) (sound-keeps s limits)
    (subst (λ (j : ℕ). IsSoundSphere s.numbers.s (image_at s j) 0 (get_or ps c no_sphere)) (sym k) (spheres c r.0)) refl h r.1

start-sound : (s : Setup) → IsWithinLimits s → IsSound s (world_of s)
start-sound s limits =
    let spheres : (i : ℕ) → i < length (world_of s).spheres → IsSoundSphere s.numbers.s (image_at s i) 0 (sphere_at (world_of s) i) =
    (λ i l. first-spheres s.numbers.s s.spheres i (limits.images i) (let q = length-map s.spheres (sphere_of s.numbers.s) in omega (arith, l, q)))
    in
    record {
      sizes = sizes_kept s [] (setup-within s limits);
      devices = start-bytes s.input s.seed limits.input;
      replies = λ k. let e = no-replies 33 k in omega (arith, e);
      spheres = spheres;
      flights = λ k f e. absurd (free_slots s.window k f e);
      held = λ c h e. (start-held s c h limits spheres e).older;
      younger = λ c h y e. (start-held s c h limits spheres e).younger y;
    }

-- ---- schedules

after-sound : (s : Setup) (w : World) (es : List Event) → IsWithinLimits s → IsGood w → IsSound s w → IsSound s (world_after w es)
after-sound s w [] limits good k = k
after-sound s w (e ∷ es) limits good k =
    after-sound s (happens w e).world es limits (happens-preserved w e good).good (happens-sound s w e limits good k)

-- every world after a schedule of a setup within the limits is sound
pub worlds_sound : WorldsAreSound
worlds_sound s es limits = after-sound s (world_of s) es limits (start-good s (setup-within s limits)) (start-sound s limits)
