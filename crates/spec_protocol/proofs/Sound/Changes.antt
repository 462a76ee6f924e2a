-- What an event may change of a world, taken apart once: where spheres, flights, chunks and devices have properties that each
-- change keeps, every event keeps them.
use Rattle.std.proofs.Common.{◌≡◌, ℕ, suc, ◌^◌, ◌<◌, inl, inr, true, false, cond, List, [], ◌∷◌, length, Option, Some, None, refl, sym, ap, ◌∙◌, subst, set, get_or, Bool, not, ◌&&◌}
use Rattle.std.specs.Prelude.{slice_get, option_map}
use Rattle.std.proofs.Math.ListN.{length-set}
use Rattle.std.proofs.lemmas.Bool.{cases_eq, cases_lt}
use Rattle.std.proofs.lemmas.List.{get_or_past}
use Rattle.std.proofs.lemmas.Option.{none-some}
use Rattle.dl_entry.specs.declared.Actor.{Actor}
use Rattle.spec_isa.specs.declared.thread.Parts.{Parts}
use Rattle.spec_isa.specs.Words.{Stored, lay, lays}
use Rattle.spec_kernel.specs.Devices.{Devices}
use Rattle.spec_kernel.specs.Interrupts.{is_live}
use Rattle.spec_engine.specs.declared.answers.How.{How}
use Rattle.spec_engine.specs.declared.answers.Deliver.{Deliver}
use Rattle.spec_engine.specs.declared.answers.Retire.{Retire}
use Rattle.spec_engine.specs.Signatures.{Signature, nothing, signed}
use Rattle.spec_engine.specs.Flights.{Flight, at, free_slot, fill_at, meets_chunk, told_at, drain_words, tell, Delivered, deliver, is_done, Retired, retire}
use Rattle.spec_engine.specs.Chunks.{fresh, step, cut, squash, Chunk}
use Rattle.spec_protocol.specs.declared.event.Event.{Event}
use Rattle.spec_sphere.specs.sphere.Spheres.{turn_against, Sphere, no_sphere, is_stopped, limit_of, halves}
use Rattle.spec_sphere.specs.sphere.Commits.{CommitOutcome, Granted, Piece, Diverged, MovedSphere, chunk_moved, serial_moved, raised}
use Rattle.spec_engine.specs.Closing.{is_piece, is_short}
use Rattle.spec_protocol.specs.machine.World.{Numbers, Occupant, World, EventOutcome, moment, sphere_at, with_sphere, with_memory, with_core, with_slot, thread_afresh, held_afresh, core_of, flown, answered}
use Rattle.spec_protocol.specs.machine.Stepping.{stepped, cut_to, stepped_younger, younger_for, cut_younger}
use Rattle.spec_protocol.specs.machine.Flying.{reply_of_drain, reads_of, writes_of, squashed, told, delivering, retiring, younger_of, hits_younger, squashed_younger}
use Rattle.spec_protocol.specs.machine.Asking.{CommitRequest, goes_on_with, granted, chunk_request, grant_chunk, serial_request, grant_serial, was_interrupted, promoted}
use Rattle.spec_protocol.specs.machine.Transferring.{dma_done}
use Rattle.spec_protocol.specs.machine.Placing.{with_renewed, raise_in}
use Rattle.spec_protocol.specs.machine.Machine.{act}
use Rattle.spec_protocol.specs.promises.Invariants.{IsGood}
use Rattle.spec_protocol.proofs.Invariants.Preserved.{sphere-same, sphere-other}
use Rattle.spec_protocol.proofs.Moves.AnyEvent.{MayAsk, any-event}
use Rattle.spec_protocol.proofs.Invariants.Cores.{set-cases}
use Rattle.spec_play.proofs.Threads.{branch}
use Rattle.spec_protocol.proofs.Invariants.Held.{open-alone, younger-good}
pub use Rattle.spec_protocol.proofs.Moves.AnyEvent.{Raises, Transfers}

-- ---- properties of the parts

-- of spheres at a moment, with their numbers; of flights; of what cores hold; and of the devices
pub record Properties : Type 1 where
  pub sphere : (now i : ℕ) → Sphere → Type 0
  pub flight : Flight → Type 0
  pub held : Occupant → Type 0
  pub devices : Devices → Type 0

-- the parts of a world have them
pub record Holds (P : Properties) (now : ℕ) (w : World) : Type 0 where
  pub spheres : (i : ℕ) → i < length w.spheres → P.sphere now i (sphere_at w i)
  pub flights : (k : ℕ) (f : Flight) → at w.slots k ≡ Some f → P.flight f
  pub held : (c : ℕ) (h : Occupant) → at w.cores c ≡ Some h → P.held h
  pub devices : P.devices w.devices

-- what a move leaves has them
pub record Lands (P : Properties) (now i : ℕ) (v : MovedSphere) : Type 0 where
  pub sphere : P.sphere now i v.sphere
  pub flight : (writes : Signature) (told : ℕ) → P.flight (record { sphere = i; words = v.words; writes = writes; told = told })
  pub devices : P.devices v.devices

-- core c, which holds h, asks for its chunk, which was closed so, and no other actor has the turn
pub record Asks (w : World) (c : ℕ) (h : Occupant) (how : How) : Type 0 where
  pub good : IsGood w
  pub is : at w.cores c ≡ Some h
  pub closed : h.chunk.closed ≡ Some how
  pub going : is_stopped (sphere_at w h.chunk.sphere).role ≡ false
  pub turn : turn_against (sphere_at w h.chunk.sphere) (Actor.Thread h.thread) ≡ None

-- each change keeps them
pub record Keeps (z : Numbers) (P : Properties) : Type 0 where
  pub later : (now i : ℕ) (p : Sphere) → P.sphere now i p → P.sphere (suc now) i p
  -- an older chunk changes where there is no younger
  pub stepped : (now c : ℕ) (p : Sphere) (slots : List (Option Flight)) (h : Occupant) → P.sphere now h.chunk.sphere p → h.chunk.closed ≡ None → h.younger ≡ None → P.held h → P.held (record h { chunk = (step z.capacity p.memory slots c h.chunk).chunk })
  pub cut_younger : (h : Occupant) (y : Chunk) → h.younger ≡ Some y → y.sphere ≡ h.chunk.sphere → P.held h → P.held (record h { younger = Some (cut y).chunk })
  pub cut : (h : Occupant) → h.younger ≡ None → P.held h → P.held (record h { chunk = (cut h.chunk).chunk })
  -- the younger of which a step speaks, and the younger that there is
  pub younger : (now c : ℕ) (p : Sphere) (slots : List (Option Flight)) (h : Occupant) (y : Chunk) → P.sphere now h.chunk.sphere p → y.sphere ≡ h.chunk.sphere → younger_for z p.role h h.younger ≡ Some y → P.held h
      → P.held (record h { younger = Some (step z.capacity (lays p.memory h.chunk.done.words) slots c y).chunk })
  pub squashed : (h : Occupant) → P.held h → P.held (record h { chunk = squash h.chunk; younger = None })
  pub squashed_younger : (h : Occupant) → P.held h → P.held (record h { younger = option_map squash h.younger })
  pub promoted : (h : Occupant) (y : Chunk) → h.younger ≡ Some y → y.sphere ≡ h.chunk.sphere → P.held h → P.held (record { thread = h.thread; chunk = y; younger = None })
  pub afresh : (now i k : ℕ) (p : Sphere) (t : Parts) → P.sphere now i p → slice_get p.threads k ≡ Some t → is_live t ≡ true → P.held (record { thread = k; chunk = fresh z.bits i t (limit_of z.s p.role k t) (halves p.role); younger = None })
  pub told : (f : Flight) (c : ℕ) → P.flight f → P.flight (tell f c)
  pub drained : (now : ℕ) (f : Flight) (s : Stored) (ss : List Stored) (p : Sphere) → f.words ≡ s ∷ ss → P.flight f → P.sphere now f.sphere p → P.flight (record f { words = ss }) × P.sphere now f.sphere (record p { memory = lay p.memory s })
  pub chunk : (w : World) (c : ℕ) (h : Occupant) (how : How) → w.numbers ≡ z → Asks w c h how → Holds P (moment w) w
      → Lands P (suc (moment w)) h.chunk.sphere (chunk_moved h.thread (is_piece how) (is_short w.numbers.s how h.chunk.limit) h.chunk.done w.devices (sphere_at w h.chunk.sphere))
  pub serial : (w : World) (c : ℕ) (h : Occupant) (how : How) → Asks w c h how → Holds P (moment w) w → Lands P (suc (moment w)) h.chunk.sphere (serial_moved h.thread (moment w) h.chunk.start w.devices (sphere_at w h.chunk.sphere))
  pub dma : (w : World) (i : ℕ) (v : MovedSphere) → Transfers w i v → Holds P (moment w) w → Lands P (suc (moment w)) i v
  pub raised : (now i k value : ℕ) (t : Parts) (p : Sphere) → Raises k t p → P.sphere now i p → P.sphere (suc now) i (raised k value t p)

-- ---- rows

row-set : {A : Type 0} (P : A → Type 0) (xs : List (Option A)) (k : ℕ) (v : Option A) → ((x : A) → v ≡ Some x → P x) → ((j : ℕ) (x : A) → at xs j ≡ Some x → P x) → (j : ℕ) (x : A) → at (set xs k v) j ≡ Some x → P x
row-set P xs k v new old j x e = elim (set-cases xs k j v x e) [ inl p ↦ new x p.1 | inr p ↦ old j x p.1 ]

spheres-set : (P : ℕ → Sphere → Type 0) (ps : List Sphere) (i : ℕ) (q : Sphere) → P i q → ((j : ℕ) → j < length ps → P j (get_or ps j no_sphere)) → (j : ℕ) → j < length (set ps i q) → P j (get_or (set ps i q) j no_sphere)
spheres-set P ps i q new old j l =
    let within : j < length ps = subst (λ (n : ℕ). j < n) (length-set ps i q) l in
    elim (cases_eq j i) [
      | inl e ↦ subst (λ (n : ℕ). n < length ps → P n (get_or (set ps i q) n no_sphere)) (sym e) (λ h. subst (P i) (sym (sphere-same ps i q h)) new) within
      | inr ne ↦ subst (P j) (sym (sphere-other ps i j q ne)) (old j within)
    ]

fill-row : (F : Flight → Type 0) (xs : List (Option Flight)) (f : Flight) (o : Option ℕ) → F f → ((j : ℕ) (x : Flight) → at xs j ≡ Some x → F x) → (j : ℕ) (x : Flight) → at (fill_at o f xs) j ≡ Some x → F x
fill-row F xs f None new old j x e = old j x e
fill-row F xs f (Some k) new old j x e = row-set F xs k (Some f) (λ y h. subst F (let q : f ≡ y = cc in q) new) old j x e

flown-row : (F : Flight → Type 0) (i : ℕ) (words : List Stored) (writes : Signature) (t : ℕ) (xs : List (Option Flight)) → F (record { sphere = i; words = words; writes = writes; told = t }) → ((j : ℕ) (x : Flight) → at xs j ≡ Some x → F x)
    → (j : ℕ) (x : Flight) → at (flown i words writes t xs) j ≡ Some x → F x
flown-row F i [] writes t xs new old j x e = old j x e
flown-row F i (s ∷ ss) writes t xs new old j x e = fill-row F xs (record { sphere = i; words = s ∷ ss; writes = writes; told = t }) (free_slot xs) new old j x e

-- ---- one part changes

core-holds : (P : Properties) (now : ℕ) (w : World) (c : ℕ) (o : Option Occupant) → ((h : Occupant) → o ≡ Some h → P.held h) → Holds P now w → Holds P now (with_core w c o)
core-holds P now w c o new k =
    record { spheres = k.spheres; flights = k.flights; held = row-set P.held w.cores c o new k.held; devices = k.devices }

slot-holds : (P : Properties) (now : ℕ) (w : World) (k : ℕ) (o : Option Flight) → ((f : Flight) → o ≡ Some f → P.flight f) → Holds P now w → Holds P now (with_slot w k o)
slot-holds P now w k o new h =
    record { spheres = h.spheres; flights = row-set P.flight w.slots k o new h.flights; held = h.held; devices = h.devices }

sphere-holds : (P : Properties) (now : ℕ) (w : World) (i : ℕ) (q : Sphere) → P.sphere now i q → Holds P now w → Holds P now (with_sphere w i q)
sphere-holds P now w i q new h =
    record { spheres = spheres-set (P.sphere now) w.spheres i q new h.spheres; flights = h.flights; held = h.held; devices = h.devices }

later-holds : (P : Properties) (z : Numbers) (w : World) → Keeps z P → Holds P (moment w) w → Holds P (suc (moment w)) w
later-holds P z w keeps h =
    record { spheres = λ i l. keeps.later (moment w) i (sphere_at w i) (h.spheres i l); flights = h.flights; held = h.held; devices = h.devices }

-- ---- a chunk that begins

-- a chunk begun afresh has the property, if its sphere has
pub afresh-property : (P : Properties) (z : Numbers) (now i k : ℕ) (p : Sphere) (o : Option Parts) → Keeps z P → P.sphere now i p → slice_get p.threads k ≡ o → (h : Occupant) → thread_afresh z i k p o ≡ Some h → P.held h
afresh-property P z now i k p None keeps sphere is h e = absurd (none-some h e)
afresh-property P z now i k p (Some t) keeps sphere is h e =
    branch (λ (o : Option Occupant). o ≡ Some h → P.held h) (is_live t) (Some (record { thread = k; chunk = fresh z.bits i t (limit_of z.s p.role k t) (halves p.role); younger = None })) None
    (λ live q. subst P.held (let r : record { thread = k; chunk = fresh z.bits i t (limit_of z.s p.role k t) (halves p.role); younger = None } ≡ h = cc in r) (keeps.afresh now i k p t sphere is live))
    (λ _ q. absurd (none-some h q)) e

afresh-holds : (P : Properties) (now : ℕ) (w : World) (c i k : ℕ) (p : Sphere) → Keeps w.numbers P → P.sphere now i p → Holds P now w → Holds P now (with_core w c (held_afresh w.numbers i k p))
afresh-holds P now w c i k p keeps sphere h =
    core-holds P now w c (held_afresh w.numbers i k p) (λ x e. afresh-property P w.numbers now i k p (slice_get p.threads k) keeps sphere refl x e) h

-- ---- what is left

held-is : (P : Properties) (h x : Occupant) → Some h ≡ Some x → P.held h → P.held x
held-is P h x e p = subst P.held (let q : h ≡ x = cc in q) p

flight-is : (P : Properties) (f x : Flight) → Some f ≡ Some x → P.flight f → P.flight x
flight-is P f x e p = subst P.flight (let q : f ≡ x = cc in q) p

moved-holds : (P : Properties) (w : World) (i : ℕ) (v : MovedSphere) (writes : Signature) (t : ℕ) (cores : List (Option Occupant)) → Lands P (suc (moment w)) i v → ((c : ℕ) (h : Occupant) → at cores c ≡ Some h → P.held h) → Holds P (suc (moment w)) w
    → Holds P (suc (moment w)) (record w { spheres = (with_sphere w i v.sphere).spheres; slots = flown i v.words writes t w.slots; cores = cores; devices = v.devices })
moved-holds P w i v writes t cores lands held k =
    record {
      spheres = spheres-set (P.sphere (suc (moment w))) w.spheres i v.sphere lands.sphere k.spheres;
      flights = flown-row P.flight i v.words writes t w.slots (lands.flight writes t) k.flights;
      held = held;
      devices = lands.devices;
    }

-- a core is told, and its chunk begins again where it is hit
squashed-held : (P : Properties) (z : Numbers) (o : Option Occupant) → Keeps z P → ((h : Occupant) → o ≡ Some h → P.held h) → (x : Occupant) → squashed o ≡ Some x → P.held x
squashed-held P z None keeps old x e = absurd (none-some x e)
squashed-held P z (Some h) keeps old x e = held-is P (record h { chunk = squash h.chunk; younger = None }) x e (keeps.squashed h (old h refl))

younger-squashed : (P : Properties) (z : Numbers) (o : Option Occupant) → Keeps z P → ((h : Occupant) → o ≡ Some h → P.held h) → (x : Occupant) → squashed_younger o ≡ Some x → P.held x
younger-squashed P z None keeps old x e = absurd (none-some x e)
younger-squashed P z (Some h) keeps old x e = held-is P (record h { younger = option_map squash h.younger }) x e (keeps.squashed_younger h (old h refl))

delivered-slot : (P : Properties) (z : Numbers) (c : ℕ) (reads writes : Signature) (o : Option Flight) → Keeps z P → ((f : Flight) → o ≡ Some f → P.flight f) → (x : Flight) → (deliver c reads writes o).slot ≡ Some x → P.flight x
delivered-slot P z c reads writes None keeps old x e = absurd (none-some x e)
delivered-slot P z c reads writes (Some f) keeps old x e =
    branch (λ (d : Delivered). d.slot ≡ Some x → P.flight x) (told_at f.told c) (record { reply = Deliver.Already; slot = Some f })
    (record { reply = cond (meets_chunk reads writes f) Deliver.Squashed Deliver.Delivered; slot = Some (tell f c) })
    (λ _ q. flight-is P f x q (old f refl))
    (λ _ q. flight-is P (tell f c) x q (keeps.told f c (old f refl))) e

retired-slot : (P : Properties) (n : ℕ) (o : Option Flight) → ((f : Flight) → o ≡ Some f → P.flight f) → (x : Flight) → (retire n o).slot ≡ Some x → P.flight x
retired-slot P n None old x e = absurd (none-some x e)
retired-slot P n (Some f) old x e =
    branch (λ (d : Retired). d.slot ≡ Some x → P.flight x) (is_done n f) (record { reply = Retire.Retired; slot = None }) (record { reply = Retire.NotDone; slot = Some f })
    (λ _ q. absurd (none-some x q)) (λ _ q. flight-is P f x q (old f refl)) e

-- a sphere that has a thread is one of the spheres
pub within-sphere : (w : World) (i k : ℕ) (t : Parts) → slice_get (sphere_at w i).threads k ≡ Some t → i < length w.spheres
within-sphere w i k t e =
    elim (cases_lt i (length w.spheres)) [
      | inl l ↦ l
      | inr past ↦ absurd (none-some t (sym (ap (λ (p : Sphere). slice_get p.threads k) (get_or_past w.spheres i no_sphere past)) ∙ e))
    ]

-- ---- the event

-- the property after the event
abbrev Then : Properties → World → EventOutcome → Type 0
Then P w a = Holds P (suc (moment w)) a.world

-- the parts of a good world have the properties, and each change keeps them
module _ (P : Properties) (w : World) (keeps : Keeps w.numbers P) (good : IsGood w) (k : Holds P (moment w) w) where
  same : Holds P (suc (moment w)) w
  same = later-holds P w.numbers w keeps k

  step-then : (c : ℕ) (h : Occupant) → at w.cores c ≡ Some h → h.chunk.closed ≡ None → Then P w (stepped w c h (step w.numbers.capacity (sphere_at w h.chunk.sphere).memory w.slots c h.chunk))
  step-then c h is opened =
      let p = sphere_at w h.chunk.sphere in
      let s = step w.numbers.capacity p.memory w.slots c h.chunk in
      core-holds P (suc (moment w)) w c (Some (record h { chunk = s.chunk }))
      (λ x q. held-is P (record h { chunk = s.chunk }) x q (keeps.stepped (moment w) c p w.slots h (k.spheres h.chunk.sphere (good.held c h is).sphere) opened (open-alone w c h opened (good.held c h is)) (k.held c h is))) same

  younger-then : (c : ℕ) (h : Occupant) (y : Chunk) → at w.cores c ≡ Some h → younger_for w.numbers (sphere_at w h.chunk.sphere).role h h.younger ≡ Some y
      → Then P w (stepped_younger w c h (step w.numbers.capacity (lays (sphere_at w h.chunk.sphere).memory h.chunk.done.words) w.slots c y))
  younger-then c h y is e =
      let p = sphere_at w h.chunk.sphere in
      let s = step w.numbers.capacity (lays p.memory h.chunk.done.words) w.slots c y in
      let held = good.held c h is in
      core-holds P (suc (moment w)) w c (Some (record h { younger = Some s.chunk }))
      (λ x q. held-is P (record h { younger = Some s.chunk }) x q
      (keeps.younger (moment w) c p w.slots h y (k.spheres h.chunk.sphere held.sphere) (younger-good w c h y good.standard held e).0.sphere e (k.held c h is))) same

  cut-then : (c : ℕ) (h : Occupant) → at w.cores c ≡ Some h → h.younger ≡ None → Then P w (cut_to w c h (cut h.chunk))
  cut-then c h is none =
      core-holds P (suc (moment w)) w c (Some (record h { chunk = (cut h.chunk).chunk }))
      (λ x q. held-is P (record h { chunk = (cut h.chunk).chunk }) x q (keeps.cut h none (k.held c h is))) same

  cut-younger-then : (c : ℕ) (h : Occupant) (y : Chunk) → at w.cores c ≡ Some h → h.younger ≡ Some y → Then P w (cut_younger w c h (cut y))
  cut-younger-then c h y is e =
      core-holds P (suc (moment w)) w c (Some (record h { younger = Some (cut y).chunk }))
      (λ x q. held-is P (record h { younger = Some (cut y).chunk }) x q (keeps.cut_younger h y e ((good.held c h is).follows y e).sphere (k.held c h is))) same

  -- the younger chunk of a request has the property as the older
  abbrev GoesOnHeld : CommitRequest → Type 0
  GoesOnHeld q = (y : Chunk) → q.younger ≡ Some y → P.held (record { thread = q.thread; chunk = y; younger = None })

  promoted-held : (q : CommitRequest) (p : Sphere) (younger : Option Chunk) (o : Option Parts) → q.younger ≡ younger → slice_get p.threads q.thread ≡ o → P.sphere (suc (moment w)) q.sphere p → GoesOnHeld q
      → (x : Occupant) → promoted w.numbers q.sphere q.thread p younger o ≡ Some x → P.held x
  promoted-held q p None o was there sphere goes x e = afresh-property P w.numbers (suc (moment w)) q.sphere q.thread p o keeps sphere there x e
  promoted-held q p (Some y) None was there sphere goes x e = absurd (none-some x e)
  promoted-held q p (Some y) (Some t) was there sphere goes x e =
      let new : Occupant = record { thread = q.thread; chunk = y; younger = None } in
      branch (λ (r : Option Occupant). r ≡ Some x → P.held x) (is_live t && not (was_interrupted y t)) (Some new) (thread_afresh w.numbers q.sphere q.thread p (Some t))
      (λ _ r. held-is P new x r (goes y was))
      (λ _ r. afresh-property P w.numbers (suc (moment w)) q.sphere q.thread p (Some t) keeps sphere there x r) e

  goes-on-holds : (c : ℕ) (q : CommitRequest) (p : Sphere) → P.sphere (suc (moment w)) q.sphere p → GoesOnHeld q → Holds P (suc (moment w)) (with_core w c (goes_on_with w.numbers q p))
  goes-on-holds c q p sphere goes =
      core-holds P (suc (moment w)) w c (goes_on_with w.numbers q p) (λ x e. promoted-held q p q.younger (slice_get p.threads q.thread) refl refl sphere goes x e) same

  granted-then : (c : ℕ) (q : CommitRequest) (writes : Signature) (v : MovedSphere) (o : CommitOutcome) → Lands P (suc (moment w)) q.sphere v → GoesOnHeld q → Then P w (granted w c q writes v o)
  granted-then c q writes v Granted lands goes =
      moved-holds P w q.sphere v writes (2 ^ c) (with_core w c (goes_on_with w.numbers q v.sphere)).cores lands
      (goes-on-holds c q v.sphere lands.sphere goes).held same
  granted-then c q writes v Piece lands goes =
      moved-holds P w q.sphere v writes (2 ^ c) (with_core w c (goes_on_with w.numbers q v.sphere)).cores lands
      (goes-on-holds c q v.sphere lands.sphere goes).held same
  granted-then c q writes v (Diverged i why) lands goes = sphere-holds P (suc (moment w)) w q.sphere v.sphere lands.sphere same

  asks : (c : ℕ) (h : Occupant) (how : How) → MayAsk w c h how → Asks w c h how
  asks c h how may = record { good = good; is = may.is; closed = may.closed; going = may.going; turn = may.turn }

  chunk-then : (c : ℕ) (h : Occupant) (how : How) → MayAsk w c h how → Then P w (grant_chunk w c h how)
  unfolding grant_chunk
  chunk-then c h how may =
      granted-then c (chunk_request w h how) h.chunk.writes
      (chunk_moved h.thread (is_piece how) (is_short w.numbers.s how h.chunk.limit) h.chunk.done w.devices (sphere_at w h.chunk.sphere)) _ (keeps.chunk w c h how refl (asks c h how may) k)
      (λ y e. keeps.promoted h y e ((good.held c h may.is).follows y e).sphere (k.held c h may.is))

  serial-then : (c : ℕ) (h : Occupant) (how : How) → MayAsk w c h how → Then P w (grant_serial w c h)
  unfolding grant_serial
  serial-then c h how may =
      granted-then c (serial_request h) _ (serial_moved h.thread (moment w) h.chunk.start w.devices (sphere_at w h.chunk.sphere)) _ (keeps.serial w c h how (asks c h how may) k)
      (λ y e. absurd (none-some y e))

  drain-then : (j : ℕ) (f : Flight) (ws : List Stored) → at w.slots j ≡ Some f → f.words ≡ ws
      → let d = drain_words (sphere_at w f.sphere).memory f ws in Then P w (answered (with_slot (with_memory w f.sphere d.memory) j d.slot) (reply_of_drain d.reply))
  drain-then j f [] is words =
      slot-holds P (suc (moment w)) (with_memory w f.sphere (sphere_at w f.sphere).memory) j (Some f) (λ x q. flight-is P f x q (k.flights j f is))
      (sphere-holds P (suc (moment w)) w f.sphere (sphere_at w f.sphere) (same.spheres f.sphere (good.flights j f is)) same)
  drain-then j f (s ∷ ss) is words =
      let p = sphere_at w f.sphere in
      let r = keeps.drained (suc (moment w)) f s ss p words (k.flights j f is) (same.spheres f.sphere (good.flights j f is)) in
      slot-holds P (suc (moment w)) (with_memory w f.sphere (lay p.memory s)) j (Some (record f { words = ss })) (λ x q. flight-is P (record f { words = ss }) x q r.0)
      (sphere-holds P (suc (moment w)) w f.sphere (record p { memory = lay p.memory s }) r.1 same)

  told-then : (v : World) (c : ℕ) (d : Deliver) (hit : Bool) → Holds P (suc (moment w)) v → Then P w (told v c (at w.cores c) d hit)
  told-then v c Deliver.NoCommit hit h = h
  told-then v c Deliver.Already hit h = h
  told-then v c Deliver.Squashed hit h = core-holds P (suc (moment w)) v c (squashed (at w.cores c)) (squashed-held P w.numbers (at w.cores c) keeps (k.held c)) h
  told-then v c Deliver.Delivered true h = core-holds P (suc (moment w)) v c (squashed_younger (at w.cores c)) (younger-squashed P w.numbers (at w.cores c) keeps (k.held c)) h
  told-then v c Deliver.Delivered false h = h

  deliver-then : (c j : ℕ) → Then P w (delivering w c j)
  unfolding delivering
  deliver-then c j =
      let o = at w.cores c in
      let d = deliver c (reads_of w o) (writes_of w o) (at w.slots j) in
      told-then (with_slot w j d.slot) c d.reply (hits_younger (at w.slots j) (younger_of o))
      (slot-holds P (suc (moment w)) w j d.slot (delivered-slot P w.numbers c (reads_of w o) (writes_of w o) (at w.slots j) keeps (k.flights j)) same)

  retire-then : (j : ℕ) → Then P w (retiring w j)
  unfolding retiring
  retire-then j =
      slot-holds P (suc (moment w)) w j (retire (length w.cores) (at w.slots j)).slot (retired-slot P (length w.cores) (at w.slots j) (k.flights j)) same

  place-then : (c i j : ℕ) (t : Parts) → slice_get (sphere_at w i).threads j ≡ Some t → Holds P (suc (moment w)) (with_core w c (held_afresh w.numbers i j (sphere_at w i)))
  place-then c i j t is = afresh-holds P (suc (moment w)) w c i j (sphere_at w i) keeps (same.spheres i (within-sphere w i j t is)) same

  renewed-then : (v : World) (i j : ℕ) (o : Option ℕ) → v.numbers ≡ w.numbers → P.sphere (suc (moment w)) i (sphere_at v i) → Holds P (suc (moment w)) v → Holds P (suc (moment w)) (with_renewed v i j o)
  renewed-then v i j None numbers sphere h = h
  renewed-then v i j (Some c) numbers sphere h = afresh-holds P (suc (moment w)) v c i j (sphere_at v i) (subst (λ (z : Numbers). Keeps z P) (sym numbers) keeps) sphere h

  raise-then : (i j value : ℕ) (t : Parts) → Raises j t (sphere_at w i) → Then P w (raise_in w i j value t)
  raise-then i j value t raises =
      let q = raised j value t (sphere_at w i) in
      let within = within-sphere w i j t raises.is in
      let new = keeps.raised (moment w) i j value t (sphere_at w i) raises (k.spheres i within) in
      renewed-then (with_sphere w i q) i j (core_of w i j) refl
      (subst (P.sphere (suc (moment w)) i) (sym (sphere-same w.spheres i q within)) new)
      (sphere-holds P (suc (moment w)) w i q new same)

  dma-then : (i : ℕ) (v : MovedSphere) → Transfers w i v → Then P w (dma_done w i (signed i v.words (nothing w.numbers.bits)) v)
  dma-then i v t = moved-holds P w i v (signed i v.words (nothing w.numbers.bits)) 0 w.cores (keeps.dma w i v t k) same.held same

  -- an event keeps properties that each change keeps
  pub act-holds : (e : Event) → Holds P (suc (moment w)) (act w e).world
  act-holds e =
      any-event w (Then P w)
      (record {
        answers = λ r none. same;
        steps = step-then;
        youngers = λ c h y is e opened. younger-then c h y is e;
        cuts = cut-then;
        cut_youngers = cut-younger-then;
        chunks = λ c h how may chunk none. chunk-then c h how may;
        serials = λ c h how may serial none. serial-then c h how may;
        drains = λ j f is. drain-then j f f.words is refl;
        delivers = deliver-then;
        retires = retire-then;
        places = λ c i j t is live none. place-then c i j t is;
        raises = raise-then;
        transfers = λ i v t free none. dma-then i v t;
        diverges = λ i v j why t is. sphere-holds P (suc (moment w)) w i v.sphere (keeps.dma w i v t k).sphere same;
      })
      e
