-- A commit moves one sphere: its words land on the current memory, every chunk that goes on stays current, and the world
-- shows what the commit, done whole, gives.
use Rattle.std.proofs.Common.{◌≡◌, ◌≢◌, ℕ, ◌<◌, inl, inr, Bool, true, false, cond, List, [], ◌∷◌, length, Option, Some, None, refl, sym, ap, ◌∙◌, subst, arith, set}
use Rattle.std.specs.Prelude.{slice_get}
use Rattle.std.proofs.Math.ListN.{length-set}
use Rattle.std.proofs.lemmas.Bool.{true≢false, false_from_ne_true}
use Rattle.std.proofs.lemmas.Option.{none-some}
use Rattle.spec_isa.specs.declared.thread.Parts.{Parts}
use Rattle.spec_isa.specs.Words.{Stored, lays}
use Rattle.spec_kernel.specs.Devices.{Devices}
use Rattle.spec_kernel.specs.Interrupts.{is_live}
use Rattle.spec_engine.specs.Signatures.{Signature, covers, hits, line}
use Rattle.spec_engine.specs.Flights.{Flight, told_at}
use Rattle.spec_engine.specs.Chunks.{Chunk, fresh}
use Rattle.spec_engine.specs.Laws.{CoversWords}
use Rattle.spec_engine.proofs.Marking.{covers_hit}
use Rattle.spec_sphere.specs.sphere.Spheres.{Role, Plain, Record, Replay, Sphere, limit_of, halves}
use Rattle.spec_sphere.specs.sphere.Commits.{MovedSphere}
use Rattle.spec_protocol.specs.machine.World.{Numbers, Occupant, World, sphere_at, thread_afresh, held_afresh}
use Rattle.spec_protocol.specs.machine.Serial.{do_moved}
use Rattle.spec_engine.specs.Flying.{flying}
use Rattle.spec_protocol.specs.machine.Shown.{shown, shown_from, shown_of}
use Rattle.spec_play.proofs.Local.Laying.{Agree-lays, Agree-unseen}
use Rattle.spec_play.specs.Touching.{Unseen}
use Rattle.spec_protocol.proofs.Memory.Slots.{Flew}
use Rattle.spec_protocol.proofs.Memory.Running.{Live_local}
use Rattle.spec_sphere.proofs.Moves.AnyMemory.{relaid}
use Rattle.spec_protocol.proofs.Invariants.Preserved.{sphere-same, sphere-other, shown-set}
use Rattle.spec_protocol.proofs.Invariants.Held.{KeepsThread, thread-stays, held-beside, follows-stays, begun-good}
use Rattle.spec_protocol.specs.promises.Currency.{seen_by}
use Rattle.spec_protocol.specs.promises.Invariants.{IsFlightCovered, IsGoodChunk, current, IsOfThread, IsGoodHeld, Follows}

-- ---- a chunk at its beginning

-- a new chunk may run at least one instruction, if the standard size is above 0
pub limit-positive : (s : ℕ) (role : Role) (k : ℕ) (t : Parts) → 0 < s → 0 < limit_of s role k t
unfolding limit_of
limit-positive s Plain k t positive = positive
limit-positive s (Record recording) k t positive = positive
limit-positive s (Replay b) k t positive = omega arith

-- a chunk that begins is good
pub fresh-good : (capacity bits : ℕ) (xs : List (Option Flight)) (c : ℕ) (m : List ℕ) (i : ℕ) (t : Parts) (limit : ℕ) (halving : Bool) → 0 < limit → IsGoodChunk capacity bits xs c m (fresh bits i t limit halving)
fresh-good capacity bits xs c m i t limit halving positive = begun-good capacity bits xs c m bits i t limit halving 0 refl positive

abbrev afresh : Numbers → (i k : ℕ) → Sphere → Parts → Occupant
afresh z i k p t = record { thread = k; chunk = fresh z.bits i t (limit_of z.s p.role k t) (halves p.role); younger = None }

-- what a core begins with, if it does: a live thread of the sphere
pub record IsAfresh (z : Numbers) (i k : ℕ) (p : Sphere) (h : Occupant) : Type 0 where
  pub state : Parts
  pub start : slice_get p.threads k ≡ Some state
  pub lives : is_live state ≡ true
  pub is : afresh z i k p state ≡ h

begins_if : (z : Numbers) (i k : ℕ) (p : Sphere) (h : Occupant) (t : Parts) (b : Bool) → slice_get p.threads k ≡ Some t → is_live t ≡ b → cond b (Some (afresh z i k p t)) None ≡ Some h → IsAfresh z i k p h
begins_if z i k p h t true start lives e = record { state = t; start = start; lives = lives; is = (let q : afresh z i k p t ≡ h = cc in q) }
begins_if z i k p h t false start lives e = absurd (none-some h e)

begins_thread : (z : Numbers) (i k : ℕ) (p : Sphere) (h : Occupant) (o : Option Parts) → slice_get p.threads k ≡ o → thread_afresh z i k p o ≡ Some h → IsAfresh z i k p h
begins_thread z i k p h None start e = absurd (none-some h e)
begins_thread z i k p h (Some t) start e = begins_if z i k p h t (is_live t) start refl e

-- what is held afresh is a live thread, whose chunk begins from its state
pub afresh-begins : (z : Numbers) (i k : ℕ) (p : Sphere) (h : Occupant) → held_afresh z i k p ≡ Some h → IsAfresh z i k p h
afresh-begins z i k p h e = begins_thread z i k p h (slice_get p.threads k) refl e

-- in a world whose sphere i is p
pub afresh-held : (v : World) (i k c : ℕ) (p : Sphere) (h : Occupant) → i < length v.spheres → 0 < v.numbers.s → sphere_at v i ≡ p → IsAfresh v.numbers i k p h → IsGoodHeld v c h
afresh-held v i k c p h within positive there b =
    let t = b.state in
    subst (IsGoodHeld v c) b.is
    (record {
      sphere = within;
      thread = subst (λ (q : Sphere). IsOfThread v.numbers.s q k (afresh v.numbers i k p t).chunk) (sym there)
          (record { start = b.start; lives = b.lives; halving = refl; limit = λ going. record { most = omega arith; replayed = λ r. refl } });
      chunk = fresh-good v.numbers.capacity v.numbers.bits v.slots c (current v i) i t (limit_of v.numbers.s p.role k t) (halves p.role) (limit-positive v.numbers.s p.role k t positive);
      follows = λ y e. absurd (none-some y e);
      younger = λ y e. absurd (none-some y e);
    })

-- ---- the other chunks

-- the world in which sphere i has become q, with these slots, cores and devices
abbrev pub moved_world : World → (i : ℕ) → Sphere → List (Option Flight) → List (Option Occupant) → Devices → World
moved_world w i q ys cores devices = record w { spheres = set w.spheres i q; slots = ys; cores = cores; devices = devices }

-- words of a signature that does not hit these reads
pub unhit-unseen : (i : ℕ) (g : Signature) (ch : Chunk) (ws : List Stored) → ch.sphere ≡ i → ch.reads.bits ≡ g.bits → CoversWords i g ws → hits g ch.reads ≡ false → Unseen (seen_by ch) ws
unhit-unseen i g ch [] same size c e = tt
unhit-unseen i g ch (w ∷ ws) same size c e = (
  false_from_ne_true (seen_by ch w.number)
      (λ h. true≢false (sym (covers_hit g ch.reads (line ch.sphere w.number) size (ap (λ (n : ℕ). covers g (line n w.number)) same ∙ c.0) h) ∙ e)),
  unhit-unseen i g ch ws same size c.1 e,
)

-- a chunk of the flight's sphere, over whatever words, stays good where the flight's words land
landed_chunk : (capacity bits : ℕ) (xs ys : List (Option Flight)) (d : ℕ) (m : List ℕ) (ws : List Stored) (ch : Chunk) (f : Flight) → Flew ch.sphere f xs ys → f.sphere ≡ ch.sphere → IsFlightCovered bits f → told_at f.told d ≡ false → IsGoodChunk capacity bits xs d (lays m ws) ch
    → IsGoodChunk capacity bits ys d (lays (lays m f.words) ws) ch
landed_chunk capacity bits xs ys d m ws ch f flew same cov untold good =
    record {
      reads_size = good.reads_size;
      writes_size = good.writes_size;
      apart = good.apart;
      writes = good.writes;
      loads = good.loads;
      closes = good.closes;
      live = λ quiet.
          let unseen : Unseen (seen_by ch) f.words = elim flew.stands [
            | inl none ↦ subst (Unseen (seen_by ch)) (sym none) tt
            | inr at_k ↦ unhit-unseen f.sphere f.writes ch f.words (sym same) (good.reads_size ∙ sym cov.size) cov.words (quiet.misses at_k.0 f at_k.1 same untold)
          ]
          in
          Live_local (lays m ws) (lays (lays m f.words) ws) ch (Agree-lays (seen_by ch) m (lays m f.words) ws (Agree-unseen (seen_by ch) m f.words unseen))
          (good.live (record { misses = λ k g there gs gu. quiet.misses k g (flew.stays k g there) gs gu }));
    }

-- all that the chunk of a core d needs in the sphere that moves
pub record Lands (w : World) (i : ℕ) (q : Sphere) (f : Flight) (ys : List (Option Flight)) (d : ℕ) (x : Occupant) : Type 0 where
  pub within : i < length w.spheres
  pub flew : Flew i f w.slots ys
  pub sphere : f.sphere ≡ i
  pub covered : IsFlightCovered w.numbers.bits f
  pub untold : told_at f.told d ≡ false
  pub memory : q.memory ≡ (sphere_at w i).memory
  pub keeps : KeepsThread w.numbers.s (sphere_at w i) q x.thread

landed_here : (w : World) (q : Sphere) (f : Flight) (ys : List (Option Flight)) (cores : List (Option Occupant)) (devices : Devices) (d : ℕ) (x : Occupant) → Lands w x.chunk.sphere q f ys d x → IsGoodHeld w d x
    → IsGoodHeld (moved_world w x.chunk.sphere q ys cores devices) d x
landed_here w q f ys cores devices d x l good =
    let i = x.chunk.sphere in
    let v = moved_world w i q ys cores devices in
    let there : sphere_at v i ≡ q = sphere-same w.spheres i q l.within in
    let memory : lays (lays (sphere_at w i).memory (flying i w.slots)) f.words ≡ current v i =
    sym (l.flew.lands (sphere_at w i).memory) ∙ ap (λ (m : List ℕ). lays m (flying i ys)) (sym l.memory) ∙ ap (λ (p : Sphere). lays p.memory (flying i ys)) (sym there)
    in
    record {
      sphere = subst (λ (n : ℕ). i < n) (sym (length-set w.spheres i q)) good.sphere;
      thread = subst (λ (p : Sphere). IsOfThread w.numbers.s p x.thread x.chunk) (sym there) (thread-stays w.numbers.s (sphere_at w i) q x.thread x.chunk l.keeps good.thread);
      chunk = subst (λ (m : List ℕ). IsGoodChunk w.numbers.capacity w.numbers.bits ys d m x.chunk) memory
          (landed_chunk w.numbers.capacity w.numbers.bits w.slots ys d (current w i) [] x.chunk f l.flew l.sphere l.covered l.untold good.chunk);
      follows = λ y e. subst (λ (p : Sphere). Follows w.numbers p x.thread x.chunk y) (sym there) (follows-stays w.numbers (sphere_at w i) q x.thread x.chunk y l.keeps (good.follows y e));
      younger = λ y e.
          let of = (good.follows y e).sphere in
          subst (λ (m : List ℕ). IsGoodChunk w.numbers.capacity w.numbers.bits ys d (lays m x.chunk.done.words) y) memory
          (landed_chunk w.numbers.capacity w.numbers.bits w.slots ys d (current w i) x.chunk.done.words y f
          (subst (λ (n : ℕ). Flew n f w.slots ys) (sym of) l.flew) (l.sphere ∙ sym of) l.covered l.untold (good.younger y e));
    }

-- what a core holds of the moved sphere stays good, where the words land as they should
pub landed-held : (w : World) (i : ℕ) (q : Sphere) (f : Flight) (ys : List (Option Flight)) (cores : List (Option Occupant)) (devices : Devices) (d : ℕ) (x : Occupant) → x.chunk.sphere ≡ i → Lands w i q f ys d x → IsGoodHeld w d x
    → IsGoodHeld (moved_world w i q ys cores devices) d x
landed-held w i q f ys cores devices d x e l good =
    subst (λ (n : ℕ). Lands w n q f ys d x → IsGoodHeld (moved_world w n q ys cores devices) d x) e (λ k. landed_here w q f ys cores devices d x k good) l

-- a good chunk of another sphere is good still after a commit
pub elsewhere-held : (w : World) (i : ℕ) (q : Sphere) (f : Flight) (ys : List (Option Flight)) (cores : List (Option Occupant)) (devices : Devices) (d : ℕ) (x : Occupant) → x.chunk.sphere ≢ i → Flew i f w.slots ys → IsGoodHeld w d x
    → IsGoodHeld (moved_world w i q ys cores devices) d x
elsewhere-held w i q f ys cores devices d x ne flew good =
    let v = moved_world w i q ys cores devices in
    let there : sphere_at v x.chunk.sphere ≡ sphere_at w x.chunk.sphere = sphere-other w.spheres i x.chunk.sphere q ne in
    held-beside w v d x
    (record {
      numbers = refl;
      spheres = length-set w.spheres i q;
      threads = ap (λ (p : Sphere). p.threads) there;
      role = ap (λ (p : Sphere). p.role) there;
      memory = (λ j. lays (there j).memory (flew.others x.chunk.sphere ne j));
      quiet = λ reads quiet. record { misses = λ k g at_k gs gu. quiet.misses k g (flew.stays k g at_k) gs gu };
    })
    good

-- ---- what is shown

-- the moved world shows what the move, done whole on the current memory, gives
pub moved-shown : (w : World) (i : ℕ) (v : MovedSphere) (f : Flight) (ys : List (Option Flight)) (cores : List (Option Occupant)) → v.sphere.memory ≡ (sphere_at w i).memory → f.words ≡ v.words → Flew i f w.slots ys
    → shown_of (moved_world w i v.sphere ys cores v.devices) ≡ do_moved (shown_of w) i (relaid (current w i) v)
unfolding shown
moved-shown w i v f ys cores memory words flew =
    let lands : lays v.sphere.memory (flying i ys) ≡ lays (current w i) v.words =
    ap (λ (m : List ℕ). lays m (flying i ys)) memory ∙ flew.lands (sphere_at w i).memory ∙ ap (lays (current w i)) words
    in
    (λ j. record { spheres = shown-set w.slots ys i w.spheres v.sphere flew.others j; devices = v.devices })
    ∙ (λ j. record { spheres = set (shown_from w.slots 0 w.spheres) i (record v.sphere { memory = lands j }); devices = v.devices })
