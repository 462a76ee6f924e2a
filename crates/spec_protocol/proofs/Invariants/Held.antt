-- What a core holds stays good in another world: what is said of its thread, and its chunk over its base.
use Rattle.std.proofs.Common.{◌≡◌, ℕ, ◌<◌, ◌≤◌, false, List, [], length, Option, Some, refl, sym, ap, ◌∙◌, subst, Bool, true, ◌&&◌, None, arith}
use Rattle.std.specs.Prelude.{slice_get, nat_lt}
use Rattle.std.proofs.lemmas.Bool.{true≢false, and_parts, ltb-true}
use Rattle.std.proofs.lemmas.Option.{none-some}
use Rattle.spec_isa.specs.declared.thread.Parts.{Parts}
use Rattle.spec_isa.specs.Words.{Stored, lays}
use Rattle.spec_kernel.specs.Interrupts.{is_live}
use Rattle.spec_play.specs.Effects.{counted}
use Rattle.spec_engine.specs.Signatures.{Signature}
use Rattle.spec_engine.specs.Flights.{Flight}
use Rattle.spec_engine.specs.Chunks.{Chunk, fresh, may_follow}
use Rattle.spec_sphere.specs.sphere.Spheres.{Role, Sphere, is_stopped, limit_of, halves, Plain, Record, Replay, limit_after}
use Rattle.spec_sphere.specs.sphere.Spheres.{replays}
use Rattle.spec_protocol.specs.machine.World.{Numbers, Occupant, World, sphere_at}
use Rattle.spec_protocol.proofs.Memory.Steps.{SameBase}
use Rattle.spec_protocol.specs.promises.Currency.{IsCurrent, IsQuiet}
use Rattle.spec_protocol.specs.promises.Invariants.{IsGoodChunk, current, IsGoodOver, LimitFits, IsOfThread, IsGoodHeld, Follows}
use Rattle.spec_protocol.specs.machine.Stepping.{younger_afresh, younger_for}
use Rattle.spec_play.proofs.Threads.{branch}

-- ---- what is said of the thread

-- sphere q has thread k as p has it, and gives its chunks the same limits, unless it has stopped
pub record KeepsThread (s : ℕ) (p q : Sphere) (k : ℕ) : Type 0 where
  pub threads : (t : Parts) → slice_get p.threads k ≡ Some t → slice_get q.threads k ≡ Some t
  pub halving : halves q.role ≡ halves p.role
  pub replaying : replays q.role ≡ replays p.role
  pub going : is_stopped q.role ≡ false → is_stopped p.role ≡ false
  pub limits : is_stopped q.role ≡ false → (t : Parts) → limit_of s q.role k t ≡ limit_of s p.role k t
  pub after : is_stopped q.role ≡ false → (t : Parts) → limit_after s q.role k t ≡ limit_after s p.role k t

-- a sphere with the same threads and role
pub keeps-same : (s : ℕ) (p q : Sphere) (k : ℕ) → q.threads ≡ p.threads → q.role ≡ p.role → KeepsThread s p q k
keeps-same s p q k threads role =
    record {
      threads = λ t e. ap (λ (ts : List Parts). slice_get ts k) threads ∙ e;
      halving = ap halves role;
      replaying = ap replays role;
      going = λ e. ap is_stopped (sym role) ∙ e;
      limits = λ e t. ap (λ (r : Role). limit_of s r k t) role;
      after = λ e t. ap (λ (r : Role). limit_after s r k t) role;
    }

-- a limit fits a role that replays where the first does
pub fits-stays : (p q : Role) (whole next limit : ℕ) → replays q ≡ replays p → next ≡ whole → LimitFits p whole limit → LimitFits q next limit
fits-stays p q whole next limit replaying same fit =
    record {
      most = subst (λ (n : ℕ). limit ≤ n) (sym same) fit.most;
      replayed = λ r. fit.replayed (sym replaying ∙ r) ∙ sym same;
    }

-- a chunk of the thread in p is one in q
pub thread-stays : (s : ℕ) (p q : Sphere) (k : ℕ) (ch : Chunk) → KeepsThread s p q k → IsOfThread s p k ch → IsOfThread s q k ch
thread-stays s p q k ch keeps is =
    record {
      start = keeps.threads ch.start is.start;
      lives = is.lives;
      halving = is.halving ∙ sym keeps.halving;
      limit = λ going. fits-stays p.role q.role _ _ ch.limit keeps.replaying (keeps.limits going ch.start) (is.limit (keeps.going going));
    }

-- a chunk with the same base is of the same thread
pub thread-same : (s : ℕ) (p : Sphere) (k : ℕ) (ch dh : Chunk) → SameBase ch dh → IsOfThread s p k ch → IsOfThread s p k dh
thread-same s p k ch dh base is =
    record {
      start = is.start ∙ ap Some (sym base.start);
      lives = ap is_live base.start ∙ is.lives;
      halving = base.halves ∙ is.halving;
      limit = λ going.
          subst (λ (t : Parts). LimitFits p.role (limit_of s p.role k t) dh.limit) (sym base.start)
          (subst (LimitFits p.role (limit_of s p.role k ch.start)) (sym base.limit) (is.limit going));
    }

-- ---- what is said of the younger chunk

-- a chunk that follows one in p does so in q
pub follows-stays : (z : Numbers) (p q : Sphere) (k : ℕ) (older y : Chunk) → KeepsThread z.s p q k → Follows z p k older y → Follows z q k older y
follows-stays z p q k older y keeps is =
    record {
      deep = is.deep;
      sphere = is.sphere;
      allowed = ap (λ (b : Bool). may_follow b older.closed) keeps.replaying ∙ is.allowed;
      start = is.start;
      halving = is.halving ∙ sym keeps.halving;
      limit = λ going. fits-stays p.role q.role _ _ y.limit keeps.replaying (keeps.after going y.start) (is.limit (keeps.going going));
    }

-- so is one with the same base
pub follows-same : (z : Numbers) (p : Sphere) (k : ℕ) (older y dh : Chunk) → SameBase y dh → Follows z p k older y → Follows z p k older dh
follows-same z p k older y dh base is =
    record {
      deep = is.deep;
      sphere = base.sphere ∙ is.sphere;
      allowed = is.allowed;
      start = base.start ∙ is.start;
      halving = base.halves ∙ is.halving;
      limit = λ going.
          subst (λ (t : Parts). LimitFits p.role (limit_after z.s p.role k t) dh.limit) (sym base.start)
          (subst (LimitFits p.role (limit_after z.s p.role k y.start)) (sym base.limit) (is.limit going));
    }

none_open : (w : World) (c : ℕ) (h : Occupant) (o : Option Chunk) → h.younger ≡ o → h.chunk.closed ≡ None → IsGoodHeld w c h → h.younger ≡ None
none_open w c h None is opened good = is
none_open w c h (Some y) is opened good =
    let b = replays (sphere_at w h.chunk.sphere).role in absurd (true≢false (sym (good.follows y is).allowed ∙ ap (may_follow b) opened))

-- no chunk follows an open one
pub open-alone : (w : World) (c : ℕ) (h : Occupant) → h.chunk.closed ≡ None → IsGoodHeld w c h → h.younger ≡ None
open-alone w c h opened good = none_open w c h h.younger refl opened good

-- ---- a chunk over its base

-- a chunk that has run nothing is good over any base, however often it was squashed
pub begun-good : (capacity bits : ℕ) (xs : List (Option Flight)) (c : ℕ) (m : List ℕ) (size i : ℕ) (t : Parts) (limit : ℕ) (halving : Bool) (squashes : ℕ) → size ≡ bits → 0 < limit
    → IsGoodChunk capacity bits xs c m (record (fresh size i t limit halving) { squashes = squashes })
begun-good capacity bits xs c m size i t limit halving squashes same positive =
    record {
      reads_size = same;
      writes_size = same;
      apart = tt;
      writes = tt;
      loads = tt;
      closes = record {
        positive = positive;
        opened = λ e. positive;
        full = λ e. absurd (none-some _ e);
        early = λ how e. absurd (none-some how e);
        cut = λ e. absurd (none-some _ e);
        room = λ e. absurd (none-some _ e);
        few = omega arith;
        few_loads = omega arith;
      };
      live = λ q. record { runs = refl; touches = λ j l. absurd (omega arith); next = tt };
    }

after_positive : (s : ℕ) (role : Role) (k : ℕ) (t : Parts) → 0 < s → 0 < limit_after s role k t
unfolding limit_after
after_positive s Plain k t positive = positive
after_positive s (Record recording) k t positive = positive
after_positive s (Replay b) k t positive = omega arith

-- a younger chunk of core c that follows the older, and is good over its words
abbrev pub IsYounger : World → (core : ℕ) → Occupant → Chunk → Type 0
IsYounger w c h y =
    Follows w.numbers (sphere_at w h.chunk.sphere) h.thread h.chunk y × IsGoodOver w c h.chunk.sphere h.chunk.done.words y

afresh_good : (w : World) (c : ℕ) (h : Occupant) → 0 < w.numbers.s → 1 < w.numbers.depth → may_follow (replays (sphere_at w h.chunk.sphere).role) h.chunk.closed ≡ true → IsYounger w c h (younger_afresh w.numbers (sphere_at w h.chunk.sphere).role h)
afresh_good w c h positive deep allowed =
    let role = (sphere_at w h.chunk.sphere).role in
    let t = counted h.chunk.done.thread in (
      record { deep = deep; sphere = refl; allowed = allowed; start = refl; halving = refl; limit = λ going. record { most = omega arith; replayed = λ r. refl } },
      begun-good w.numbers.capacity w.numbers.bits w.slots c _ w.numbers.bits h.chunk.sphere t (limit_after w.numbers.s role h.thread t) (halves role) 0 refl (after_positive w.numbers.s role h.thread t positive),
    )

younger_good : (w : World) (c : ℕ) (h : Occupant) (y : Chunk) (o : Option Chunk) → 0 < w.numbers.s → IsGoodHeld w c h → h.younger ≡ o → younger_for w.numbers (sphere_at w h.chunk.sphere).role h o ≡ Some y → IsYounger w c h y
younger_good w c h y (Some x) positive good is e = (good.follows y (is ∙ e), good.younger y (is ∙ e))
younger_good w c h y None positive good is e =
    let role = (sphere_at w h.chunk.sphere).role in
    let deep = nat_lt 1 w.numbers.depth in
    let allowed = may_follow (replays role) h.chunk.closed in
    branch (λ (o : Option Chunk). o ≡ Some y → IsYounger w c h y) (deep && allowed) (Some (younger_afresh w.numbers role h)) None
    (λ begins q.
    let b = and_parts deep allowed begins in
    subst (IsYounger w c h) (let r : younger_afresh w.numbers role h ≡ y = cc in r) (afresh_good w c h positive (ltb-true 1 w.numbers.depth b.0) b.1))
    (λ _ q. absurd (none-some y q)) e

-- the younger chunk of which a step speaks follows the older and is good over its words, whether it was there or begins
pub younger-good : (w : World) (c : ℕ) (h : Occupant) (y : Chunk) → 0 < w.numbers.s → IsGoodHeld w c h → younger_for w.numbers (sphere_at w h.chunk.sphere).role h h.younger ≡ Some y → IsYounger w c h y
younger-good w c h y positive good e = younger_good w c h y h.younger positive good refl e

-- beside other slots, over the same memory
pub chunk-beside : (capacity bits : ℕ) (xs ys : List (Option Flight)) (c : ℕ) (m n : List ℕ) (ch : Chunk) → n ≡ m → (IsQuiet ys ch.sphere c ch.reads → IsQuiet xs ch.sphere c ch.reads) → IsGoodChunk capacity bits xs c m ch → IsGoodChunk capacity bits ys c n ch
chunk-beside capacity bits xs ys c m n ch same quiet good =
    record {
      reads_size = good.reads_size;
      writes_size = good.writes_size;
      apart = good.apart;
      writes = good.writes;
      loads = good.loads;
      closes = good.closes;
      live = λ q. subst (λ (k : List ℕ). IsCurrent k ch) (sym same) (good.live (quiet q));
    }

-- for core c, sphere i of world v is as in w: the same threads, role and current memory, and no fewer reads are quiet
pub record Beside (w v : World) (c i : ℕ) : Type 0 where
  pub numbers : v.numbers ≡ w.numbers
  pub spheres : length v.spheres ≡ length w.spheres
  pub threads : (sphere_at v i).threads ≡ (sphere_at w i).threads
  pub role : (sphere_at v i).role ≡ (sphere_at w i).role
  pub memory : current v i ≡ current w i
  pub quiet : (reads : Signature) → IsQuiet v.slots i c reads → IsQuiet w.slots i c reads

-- a chunk of the sphere that is good over these words is so still
pub over-beside : (w v : World) (c i : ℕ) (ws : List Stored) (ch : Chunk) → ch.sphere ≡ i → Beside w v c i → IsGoodOver w c i ws ch → IsGoodOver v c i ws ch
over-beside w v c i ws ch of b good =
    subst (λ (z : Numbers). IsGoodChunk z.capacity z.bits v.slots c (lays (current v i) ws) ch) (sym b.numbers)
    (chunk-beside w.numbers.capacity w.numbers.bits w.slots v.slots c (lays (current w i) ws) (lays (current v i) ws) ch (ap (λ (m : List ℕ). lays m ws) b.memory)
    (subst (λ (j : ℕ). IsQuiet v.slots j c ch.reads → IsQuiet w.slots j c ch.reads) (sym of) (b.quiet ch.reads)) good)

-- what a core holds stays good in a world that is beside the first one for it
pub held-beside : (w v : World) (c : ℕ) (h : Occupant) → Beside w v c h.chunk.sphere → IsGoodHeld w c h → IsGoodHeld v c h
held-beside w v c h b good =
    let i = h.chunk.sphere in
    record {
      sphere = subst (λ (n : ℕ). i < n) (sym b.spheres) good.sphere;
      thread = subst (λ (z : Numbers). IsOfThread z.s (sphere_at v i) h.thread h.chunk) (sym b.numbers)
          (thread-stays w.numbers.s (sphere_at w i) (sphere_at v i) h.thread h.chunk (keeps-same w.numbers.s (sphere_at w i) (sphere_at v i) h.thread b.threads b.role) good.thread);
      chunk = over-beside w v c i [] h.chunk refl b good.chunk;
      follows = λ y e.
          subst (λ (z : Numbers). Follows z (sphere_at v i) h.thread h.chunk y) (sym b.numbers)
          (follows-stays w.numbers (sphere_at w i) (sphere_at v i) h.thread h.chunk y (keeps-same w.numbers.s (sphere_at w i) (sphere_at v i) h.thread b.threads b.role) (good.follows y e));
      younger = λ y e. over-beside w v c i h.chunk.done.words y (good.follows y e).sphere b (good.younger y e);
    }
