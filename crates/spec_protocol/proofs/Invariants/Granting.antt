-- A granted request keeps the invariant, where its stores meet no flight and it gives what it would on the current memory.
use Rattle.std.proofs.Common.{◌≡◌, ◌≢◌, ℕ, ◌<◌, ◌^◌, inl, inr, true, false, eqb, List, [], length, Some, refl, sym, ap, ◌∙◌, subst, set, ◌⊎◌, not, ◌&&◌, Option, None}
use Rattle.std.specs.Prelude.{slice_get}
use Rattle.std.proofs.Math.ListN.{length-set}
use Rattle.std.proofs.lemmas.Bool.{true≢false, cases_eq, and_parts, not-true}
use Rattle.std.proofs.lemmas.Nat.Bits.{bit_at-pow_other}
use Rattle.std.proofs.lemmas.Option.{none-some}
use Rattle.dl_entry.specs.declared.Point.{Point}
use Rattle.spec_isa.specs.declared.thread.Parts.{Parts}
use Rattle.spec_isa.specs.Words.{lays, Apart}
use Rattle.spec_kernel.specs.Interrupts.{is_live}
use Rattle.spec_engine.specs.Signatures.{Signature, nothing}
use Rattle.spec_engine.specs.Flights.{Flight, at, is_full}
use Rattle.spec_engine.specs.Chunks.{Chunk}
use Rattle.spec_sphere.specs.sphere.Spheres.{Sphere, is_stopped, halves, limit_of, replays}
use Rattle.spec_sphere.specs.sphere.Commits.{CommitOutcome, Granted, Piece, Diverged, MovedSphere}
use Rattle.spec_protocol.specs.machine.World.{Numbers, Occupant, World, moment, sphere_at, with_sphere, flown, thread_afresh}
use Rattle.spec_protocol.specs.machine.Asking.{CommitRequest, goes_on_with, point_at, move_at, world_with, granted, was_interrupted, promoted}
use Rattle.spec_protocol.specs.machine.Serial.{do_moved}
use Rattle.spec_engine.specs.Flying.{flying}
use Rattle.spec_protocol.specs.machine.Shown.{shown_of}
use Rattle.spec_protocol.specs.machine.Moves.{do_move, Fits}
use Rattle.spec_protocol.proofs.Memory.Slots.{Flew, flown-flew}
use Rattle.spec_sphere.proofs.Moves.Granted.{Divergence, MovesOnly}
use Rattle.spec_sphere.proofs.Moves.AnyMemory.{relaid}
use Rattle.spec_protocol.proofs.Invariants.Preserved.{SameSizes, point_for, PointOf, Preserved, point-made, point-other, sphere-same}
use Rattle.spec_protocol.proofs.Invariants.Cores.{set-cases, alone-set}
use Rattle.spec_protocol.proofs.Invariants.Landing.{afresh-begins, afresh-held, moved_world, Lands, landed-held, elsewhere-held, moved-shown, IsAfresh}
use Rattle.spec_protocol.proofs.Invariants.Held.{KeepsThread, thread-stays, follows-stays, chunk-beside}
use Rattle.spec_protocol.specs.promises.Invariants.{IsFlightCovered, IsGoodChunk, current, IsOfThread, IsGoodHeld, IsGood, IsGoodOver, LimitFits, Follows}
use Rattle.spec_play.specs.Touching.{AllLack}
use Rattle.spec_play.proofs.Threads.{branch}

-- ---- a request that is granted, or diverges

-- the flight of the words that a core's granted request stores, told to that core alone
abbrev pub request_flight : World → (core : ℕ) → CommitRequest → Signature → MovedSphere → Flight
request_flight w c q writes v = record { sphere = q.sphere; words = v.words; writes = writes; told = 2 ^ c }

-- the younger chunk y began as the request leaves its thread, unless that took an interrupt, with the limit of its next commit;
-- and it is good over the words that are to fly
pub record GoesOn (w : World) (c : ℕ) (q : CommitRequest) (v : MovedSphere) (y : Chunk) : Type 0 where
  pub sphere : y.sphere ≡ q.sphere
  pub start : (t : Parts) → slice_get v.sphere.threads q.thread ≡ Some t → was_interrupted y t ≡ false → t ≡ y.start
  pub halving : y.halves ≡ halves v.sphere.role
  pub limit : is_stopped v.sphere.role ≡ false → LimitFits v.sphere.role (limit_of w.numbers.s v.sphere.role q.thread y.start) y.limit
  pub chunk : IsGoodOver w c q.sphere v.words y

-- core c holds h, whose request q moves its sphere by v; its stores meet no flight, and v is what it gives on current memory
pub record Grants (w : World) (c : ℕ) (h : Occupant) (q : CommitRequest) (writes : Signature) (v : MovedSphere) : Type 0 where
  pub is : at w.cores c ≡ Some h
  pub sphere : h.chunk.sphere ≡ q.sphere
  pub thread : h.thread ≡ q.thread
  pub within : q.sphere < length w.spheres
  pub going : is_stopped (sphere_at w q.sphere).role ≡ false
  pub moves : MovesOnly q.thread w.devices (sphere_at w q.sphere) v
  pub free : is_full w.slots ≡ false
  pub covered : IsFlightCovered w.numbers.bits (request_flight w c q writes v)
  pub lack : AllLack v.words (flying q.sphere w.slots)
  -- a plain or recorded sphere grants it, and the point tells it
  pub lives : replays (sphere_at w q.sphere).role ≡ false → v.outcome ≡ Granted
  pub tells : point_at (moment w) q q.kind ≡ point_for w.numbers (moment w) q.sphere q.what
  pub whole : do_move w.numbers (shown_of w) (move_at (moment w) q) ≡ do_moved (shown_of w) q.sphere (relaid (current w q.sphere) v)
  pub fits : Fits w.numbers (shown_of w) (move_at (moment w) q)
  -- the younger chunk goes on after a whole commit, and none follows a piece
  pub goes : v.outcome ≡ Granted → (y : Chunk) → q.younger ≡ Some y → GoesOn w c q v y
  pub pieces : v.outcome ≡ Piece → q.younger ≡ None

grant_flew : (w : World) (c : ℕ) (h : Occupant) (q : CommitRequest) (writes : Signature) (v : MovedSphere) → IsGood w → Grants w c h q writes v
    → Flew q.sphere (request_flight w c q writes v) w.slots (flown q.sphere v.words writes (2 ^ c) w.slots)
grant_flew w c h q writes v good g =
    flown-flew q.sphere v.words writes (2 ^ c) w.slots g.free (good.apart q.sphere) g.moves.apart g.lack

-- another core's thread in the sphere is another thread
other_thread : (w : World) (c d : ℕ) (h x : Occupant) (q : CommitRequest) (writes : Signature) (v : MovedSphere) → IsGood w → Grants w c h q writes v → d ≢ c → at w.cores d ≡ Some x → x.chunk.sphere ≡ q.sphere → x.thread ≢ q.thread
other_thread w c d h x q writes v good g ne there same e =
    ne (good.alone d c x h there g.is (same ∙ sym g.sphere) (e ∙ sym g.thread))

granted_lands : (w : World) (c d : ℕ) (h x : Occupant) (q : CommitRequest) (writes : Signature) (v : MovedSphere) → IsGood w → Grants w c h q writes v → d ≢ c → at w.cores d ≡ Some x → x.chunk.sphere ≡ q.sphere
    → Lands w q.sphere v.sphere (request_flight w c q writes v) (flown q.sphere v.words writes (2 ^ c) w.slots) d x
granted_lands w c d h x q writes v good g ne there same =
    let other = other_thread w c d h x q writes v good g ne there same in
    let keeps = g.moves.keeps in
    record {
      within = g.within;
      flew = grant_flew w c h q writes v good g;
      sphere = refl;
      covered = g.covered;
      untold = ap (λ (b : ℕ). eqb b 1) (bit_at-pow_other c d ne);
      memory = keeps.memory;
      keeps = record {
        threads = λ t. keeps.threads x.thread t other;
        halving = keeps.halving;
        replaying = keeps.replaying;
        going = λ e. g.going;
        limits = λ e t. keeps.limits w.numbers.s x.thread t other e;
        after = λ e t. keeps.after w.numbers.s x.thread t;
      };
    }

-- the younger chunk became the older: its thread lives, and took no interrupt
record IsPromoted (q : CommitRequest) (p : Sphere) (x : Occupant) : Type 0 where
  chunk : Chunk
  was : q.younger ≡ Some chunk
  state : Parts
  there : slice_get p.threads q.thread ≡ Some state
  lives : is_live state ≡ true
  untaken : was_interrupted chunk state ≡ false
  is : record { thread = q.thread; chunk = chunk; younger = None } ≡ x

promoted_cases : (z : Numbers) (q : CommitRequest) (p : Sphere) (x : Occupant) (younger : Option Chunk) (o : Option Parts) → q.younger ≡ younger → slice_get p.threads q.thread ≡ o → promoted z q.sphere q.thread p younger o ≡ Some x → IsAfresh z q.sphere q.thread p x ⊎ IsPromoted q p x
promoted_cases z q p x None o was there e = inl (afresh-begins z q.sphere q.thread p x (ap (thread_afresh z q.sphere q.thread p) there ∙ e))
promoted_cases z q p x (Some y) None was there e = absurd (none-some x e)
promoted_cases z q p x (Some y) (Some t) was there e =
    let new : Occupant = record { thread = q.thread; chunk = y; younger = None } in
    branch (λ (r : Option Occupant). r ≡ Some x → IsAfresh z q.sphere q.thread p x ⊎ IsPromoted q p x) (is_live t && not (was_interrupted y t)) (Some new) (thread_afresh z q.sphere q.thread p (Some t))
    (λ b r.
    let both = and_parts (is_live t) (not (was_interrupted y t)) b in
    inr (record { chunk = y; was = was; state = t; there = there; lives = both.0; untaken = not-true (was_interrupted y t) both.1; is = (let n : new ≡ x = cc in n) }))
    (λ _ r. inl (afresh-begins z q.sphere q.thread p x (ap (thread_afresh z q.sphere q.thread p) there ∙ r))) e

-- what goes on is begun afresh, or is the younger chunk
goes_on_cases : (z : Numbers) (q : CommitRequest) (p : Sphere) (x : Occupant) → goes_on_with z q p ≡ Some x → IsAfresh z q.sphere q.thread p x ⊎ IsPromoted q p x
goes_on_cases z q p x e = promoted_cases z q p x q.younger (slice_get p.threads q.thread) refl refl e

-- it is of the request's thread
goes_on_as : (w : World) (c : ℕ) (q : CommitRequest) (v : MovedSphere) (x : Occupant) → ((y : Chunk) → q.younger ≡ Some y → GoesOn w c q v y) → goes_on_with w.numbers q v.sphere ≡ Some x → (x.chunk.sphere ≡ q.sphere) × (x.thread ≡ q.thread)
goes_on_as w c q v x goes e = elim (goes_on_cases w.numbers q v.sphere x e) [
  | inl b ↦ (ap (λ (y : Occupant). y.chunk.sphere) (sym b.is), ap (λ (y : Occupant). y.thread) (sym b.is))
  | inr b ↦ (ap (λ (y : Occupant). y.chunk.sphere) (sym b.is) ∙ (goes b.chunk b.was).sphere, ap (λ (y : Occupant). y.thread) (sym b.is))
]

-- the younger chunk is good as the older one of the world that the request leaves
promoted_good : (w : World) (c : ℕ) (h : Occupant) (q : CommitRequest) (writes : Signature) (v : MovedSphere) (x : Occupant) → IsGood w → Grants w c h q writes v → (b : IsPromoted q v.sphere x) → GoesOn w c q v b.chunk → IsGoodHeld (world_with w c q writes v) c x
promoted_good w c h q writes v x good g b goes =
    let u = world_with w c q writes v in
    let y = b.chunk in
    let i = q.sphere in
    let flew = grant_flew w c h q writes v good g in
    let there : sphere_at u i ≡ v.sphere = sphere-same w.spheres i v.sphere g.within in
    let memory : current u i ≡ lays (current w i) v.words =
    ap (λ (p : Sphere). lays p.memory (flying i u.slots)) there ∙ ap (λ (m : List ℕ). lays m (flying i u.slots)) g.moves.keeps.memory ∙ flew.lands (sphere_at w i).memory
    in
    let start : b.state ≡ y.start = goes.start b.state b.there b.untaken in
    let of : IsOfThread w.numbers.s v.sphere q.thread y = record {
      start = b.there ∙ ap Some start;
      lives = ap is_live (sym start) ∙ b.lives;
      halving = goes.halving;
      limit = goes.limit;
    }
    in
    let over : IsGoodOver u c i [] y =
    chunk-beside w.numbers.capacity w.numbers.bits w.slots u.slots c (lays (current w i) v.words) (current u i) y memory
    (λ quiet. record { misses = λ k f at_k fs fu. quiet.misses k f (flew.stays k f at_k) fs fu }) goes.chunk
    in
    subst (IsGoodHeld u c) b.is
    (record {
      sphere = subst (λ (n : ℕ). n < length u.spheres) (sym goes.sphere) (subst (λ (n : ℕ). i < n) (sym (length-set w.spheres i v.sphere)) g.within);
      thread = subst (λ (n : ℕ). IsOfThread w.numbers.s (sphere_at u n) q.thread y) (sym goes.sphere) (subst (λ (p : Sphere). IsOfThread w.numbers.s p q.thread y) (sym there) of);
      chunk = subst (λ (n : ℕ). IsGoodOver u c n [] y) (sym goes.sphere) over;
      follows = λ z e. absurd (none-some z e);
      younger = λ z e. absurd (none-some z e);
    })

-- so is what is begun afresh
goes_on_held : (w : World) (c : ℕ) (h : Occupant) (q : CommitRequest) (writes : Signature) (v : MovedSphere) (x : Occupant) → IsGood w → Grants w c h q writes v → ((y : Chunk) → q.younger ≡ Some y → GoesOn w c q v y) → goes_on_with w.numbers q v.sphere ≡ Some x
    → IsGoodHeld (world_with w c q writes v) c x
goes_on_held w c h q writes v x good g goes e = elim (goes_on_cases w.numbers q v.sphere x e) [
  | inl b ↦ afresh-held (world_with w c q writes v) q.sphere q.thread c v.sphere x (subst (λ (n : ℕ). q.sphere < n) (sym (length-set w.spheres q.sphere v.sphere)) g.within) good.standard
      (sphere-same w.spheres q.sphere v.sphere g.within) b
  | inr b ↦ promoted_good w c h q writes v x good g b (goes b.chunk b.was)
]

granted_good : (w : World) (c : ℕ) (h : Occupant) (q : CommitRequest) (writes : Signature) (v : MovedSphere) → IsGood w → Grants w c h q writes v → ((y : Chunk) → q.younger ≡ Some y → GoesOn w c q v y) → IsGood (world_with w c q writes v)
granted_good w c h q writes v good g goes =
    let flew = grant_flew w c h q writes v good g in
    let f = request_flight w c q writes v in
    let u = world_with w c q writes v in
    let o = goes_on_with w.numbers q v.sphere in
    let count = length-set w.spheres q.sphere v.sphere in
    let there : sphere_at u q.sphere ≡ v.sphere = sphere-same w.spheres q.sphere v.sphere g.within in
    record {
      buffer = good.buffer;
      standard = good.standard;
      apart = λ i. elim (cases_eq i q.sphere) [
        | inl e ↦ subst (λ (n : ℕ). Apart (flying n u.slots)) (sym e) flew.apart
        | inr ne ↦ subst Apart (sym (flew.others i ne)) (good.apart i)
      ];
      covered = λ k x e. elim (flew.stood k x e) [
        | inl p ↦ good.covered k x p
        | inr p ↦ subst (IsFlightCovered w.numbers.bits) (sym p) g.covered
      ];
      flights = λ k x e. subst (λ (n : ℕ). x.sphere < n) (sym count) (elim (flew.stood k x e) [
        | inl p ↦ good.flights k x p
        | inr p ↦ subst (λ (y : Flight). y.sphere < length w.spheres) (sym p) g.within
      ]);
      held = λ d x e. elim (set-cases w.cores c d o x e) [
        | inl p ↦ subst (λ (n : ℕ). IsGoodHeld u n x) (sym p.0)
            (goes_on_held w c h q writes v x good g goes p.1)
        | inr p ↦ elim (cases_eq x.chunk.sphere q.sphere) [
          | inl same ↦ landed-held w q.sphere v.sphere f u.slots u.cores v.devices d x same (granted_lands w c d h x q writes v good g p.0 p.1 same) (good.held d x p.1)
          | inr ne ↦ elsewhere-held w q.sphere v.sphere f u.slots u.cores v.devices d x ne flew (good.held d x p.1)
        ]
      ];
      alone = alone-set w.cores c o good.alone
          (λ y e d x ne there sphere thread.
          let b = goes_on_as w c q v y goes e in
          other_thread w c d h x q writes v good g ne there (sym sphere ∙ b.0) (sym thread ∙ b.1));
    }

granted_sizes : (w : World) (c : ℕ) (h : Occupant) (q : CommitRequest) (writes : Signature) (v : MovedSphere) → IsGood w → Grants w c h q writes v → SameSizes w (world_with w c q writes v)
granted_sizes w c h q writes v good g =
    record {
      numbers = refl;
      spheres = length-set w.spheres q.sphere v.sphere;
      cores = length-set w.cores c (goes_on_with w.numbers q v.sphere);
      slots = (grant_flew w c h q writes v good g).size;
    }

granted_whole : (w : World) (c : ℕ) (h : Occupant) (q : CommitRequest) (writes : Signature) (v : MovedSphere) → IsGood w → Grants w c h q writes v → shown_of (world_with w c q writes v) ≡ do_move w.numbers (shown_of w) (move_at (moment w) q)
granted_whole w c h q writes v good g =
    moved-shown w q.sphere v (request_flight w c q writes v) (flown q.sphere v.words writes (2 ^ c) w.slots) (set w.cores c (goes_on_with w.numbers q v.sphere)) g.moves.keeps.memory refl (grant_flew w c h q writes v good g)
    ∙ sym g.whole

-- ---- a divergence, which stops the sphere

-- a flight without words needs no slot: the slots stay as they are
pub unflown : (w : World) (i : ℕ) (f : Flight) → IsGood w → f.words ≡ [] → Flew i f w.slots w.slots
unflown w i f good e =
    record {
      size = refl;
      lands = λ m. ap (lays (lays m (flying i w.slots))) (sym e);
      apart = good.apart i;
      others = λ j ne. refl;
      stays = λ k g h. h;
      stood = λ k g h. inl h;
      stands = inl e;
    }

-- a sphere that stops, with the same memory and threads
pub record Stops (w : World) (i : ℕ) (p : Sphere) : Type 0 where
  pub within : i < length w.spheres
  pub memory : p.memory ≡ (sphere_at w i).memory
  pub threads : p.threads ≡ (sphere_at w i).threads
  pub halving : halves p.role ≡ halves (sphere_at w i).role
  pub replaying : replays p.role ≡ replays (sphere_at w i).role
  pub stopped : is_stopped p.role ≡ true

stops_keep : (w : World) (i : ℕ) (p : Sphere) (k : ℕ) → Stops w i p → KeepsThread w.numbers.s (sphere_at w i) p k
stops_keep w i p k s =
    record {
      threads = λ t e. ap (λ (ts : List Parts). slice_get ts k) s.threads ∙ e;
      halving = s.halving;
      replaying = s.replaying;
      going = λ e. absurd (true≢false (sym s.stopped ∙ e));
      limits = λ e t. absurd (true≢false (sym s.stopped ∙ e));
      after = λ e t. absurd (true≢false (sym s.stopped ∙ e));
    }

stopped_here : (w : World) (p : Sphere) (c : ℕ) (x : Occupant) → Stops w x.chunk.sphere p → IsGoodHeld w c x → IsGoodHeld (with_sphere w x.chunk.sphere p) c x
stopped_here w p c x s good =
    let i = x.chunk.sphere in
    let v = with_sphere w i p in
    let there : sphere_at v i ≡ p = sphere-same w.spheres i p s.within in
    let keeps = stops_keep w i p x.thread s in
    let memory : current w i ≡ current v i =
    ap (λ (m : List ℕ). lays m (flying i w.slots)) (sym s.memory) ∙ ap (λ (q : Sphere). lays q.memory (flying i w.slots)) (sym there)
    in
    record {
      sphere = subst (λ (n : ℕ). i < n) (sym (length-set w.spheres i p)) good.sphere;
      thread = subst (λ (q : Sphere). IsOfThread w.numbers.s q x.thread x.chunk) (sym there) (thread-stays w.numbers.s (sphere_at w i) p x.thread x.chunk keeps good.thread);
      chunk = subst (λ (m : List ℕ). IsGoodChunk w.numbers.capacity w.numbers.bits w.slots c m x.chunk) memory good.chunk;
      follows = λ y e. subst (λ (q : Sphere). Follows w.numbers q x.thread x.chunk y) (sym there) (follows-stays w.numbers (sphere_at w i) p x.thread x.chunk y keeps (good.follows y e));
      younger = λ y e. subst (λ (m : List ℕ). IsGoodChunk w.numbers.capacity w.numbers.bits w.slots c (lays m x.chunk.done.words) y) memory (good.younger y e);
    }

-- a world stays good where a replayed sphere stops
pub stopped-good : (w : World) (i : ℕ) (p : Sphere) → IsGood w → Stops w i p → IsGood (with_sphere w i p)
stopped-good w i p good s =
    let f : Flight = record { sphere = i; words = []; writes = nothing w.numbers.bits; told = 0 } in
    record {
      buffer = good.buffer;
      standard = good.standard;
      apart = good.apart;
      covered = good.covered;
      flights = λ k x e. subst (λ (n : ℕ). x.sphere < n) (sym (length-set w.spheres i p)) (good.flights k x e);
      held = λ d x e. elim (cases_eq x.chunk.sphere i) [
        | inl same ↦ subst (λ (n : ℕ). Stops w n p → IsGoodHeld (with_sphere w n p) d x) same (λ t. stopped_here w p d x t (good.held d x e)) s
        | inr ne ↦ elsewhere-held w i p f w.slots w.cores w.devices d x ne (unflown w i f good refl) (good.held d x e)
      ];
      alone = good.alone;
    }

-- a move that stores nothing and leaves memory and devices shows what it gives when done whole
pub stopped-shown : (w : World) (i : ℕ) (v : MovedSphere) → IsGood w → v.sphere.memory ≡ (sphere_at w i).memory → v.words ≡ [] → v.devices ≡ w.devices → shown_of (with_sphere w i v.sphere) ≡ do_moved (shown_of w) i (relaid (current w i) v)
stopped-shown w i v good memory words devices =
    let f : Flight = record { sphere = i; words = v.words; writes = nothing w.numbers.bits; told = 0 } in
    sym (λ j. shown_of (moved_world w i v.sphere w.slots w.cores (devices j)))
    ∙ moved-shown w i v f w.slots w.cores memory refl (unflown w i f good words)

-- granting a request that may be granted keeps the invariant, whatever its outcome
pub granted-preserved : (w : World) (c : ℕ) (h : Occupant) (q : CommitRequest) (writes : Signature) (v : MovedSphere) (o : CommitOutcome) → v.outcome ≡ o → IsGood w → Grants w c h q writes v → Preserved w (granted w c q writes v o)
granted-preserved w c h q writes v Granted is good g =
    let m = move_at (moment w) q in
    let b = replays (sphere_at w q.sphere).role in
    record {
      good = granted_good w c h q writes v good g (g.goes is);
      sizes = granted_sizes w c h q writes v good g;
      point = subst (λ (p : Point). PointOf w.numbers b m (Some p)) (sym g.tells) (point-made w.numbers b m);
      whole = granted_whole w c h q writes v good g;
      fits = g.fits;
    }
granted-preserved w c h q writes v Piece is good g =
    record {
      good = granted_good w c h q writes v good g (λ y e. absurd (none-some y (sym (g.pieces is) ∙ e)));
      sizes = granted_sizes w c h q writes v good g;
      point = point-other w.numbers (replays (sphere_at w q.sphere).role) (move_at (moment w) q) _
          (λ live. let e : Granted ≡ Piece = sym (g.lives live) ∙ is in cc) refl;
      whole = granted_whole w c h q writes v good g;
      fits = g.fits;
    }
granted-preserved w c h q writes v (Diverged i why) is good g =
    let d : Divergence w.devices (sphere_at w q.sphere) v (Diverged i why) = subst (Divergence w.devices (sphere_at w q.sphere) v) is g.moves.divergence in
    record {
      good = stopped-good w q.sphere v.sphere good
          (record { within = g.within; memory = g.moves.keeps.memory; threads = d.2; halving = g.moves.keeps.halving; replaying = g.moves.keeps.replaying; stopped = d.3 });
      sizes = record { numbers = refl; spheres = length-set w.spheres q.sphere v.sphere; cores = refl; slots = refl };
      point = point-other w.numbers (replays (sphere_at w q.sphere).role) (move_at (moment w) q) _
          (λ live. let e : Granted ≡ Diverged i why = sym (g.lives live) ∙ is in cc) tt;
      whole = stopped-shown w q.sphere v good g.moves.keeps.memory d.0 d.1 ∙ sym g.whole;
      fits = g.fits;
    }
