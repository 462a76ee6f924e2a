-- The invariant holds of a world if it holds of one that is alike.
use Rattle.std.proofs.Common.{◌≡◌, ℕ, ◌<◌, ◌≤◌, Bool, true, false, List, [], length, map, Some, refl, sym, ap, ◌∙◌, subst, get_or, arith}
use Rattle.std.specs.Prelude.{slice_get}
use Rattle.std.proofs.lemmas.List.{length-map}
use Rattle.spec_isa.specs.declared.thread.Parts.{Parts}
use Rattle.spec_isa.specs.Words.{lays, Stored}
use Rattle.spec_engine.specs.Flights.{at}
use Rattle.spec_engine.specs.Chunks.{Chunk, may_follow}
use Rattle.spec_sphere.specs.sphere.Spheres.{Role, Sphere, no_sphere, is_stopped, limit_of, limit_after, halves}
use Rattle.spec_sphere.specs.sphere.Spheres.{replays}
use Rattle.spec_engine.specs.Flying.{flying}
use Rattle.spec_protocol.specs.machine.World.{Numbers, World, Occupant, sphere_at}
use Rattle.spec_protocol.specs.promises.Invariants.{LimitFits, IsGoodChunk, IsOfThread, Follows, IsGoodHeld, IsGood}
use Rattle.spec_sphere.specs.promises.Alike.{forgotten}
use Rattle.spec_protocol.specs.promises.Alike.{all_forgotten, AreAlike}
use Rattle.spec_protocol.proofs.Alike.Forgetting.{sphere-forgotten}
use Rattle.spec_sphere.proofs.Alike.Forgetting.{stopped-without, replays-without, halves-without, limit-without, limit_after-without}

-- ---- of two spheres

-- all that chunks look at is the same
pub record ActsAs (p q : Sphere) : Type 0 where
  pub memory : p.memory ≡ q.memory
  pub threads : p.threads ≡ q.threads
  pub stopped : is_stopped p.role ≡ is_stopped q.role
  pub replayed : replays p.role ≡ replays q.role
  pub halving : halves p.role ≡ halves q.role
  pub limit : (s k : ℕ) (t : Parts) → limit_of s p.role k t ≡ limit_of s q.role k t
  pub after : (s k : ℕ) (t : Parts) → limit_after s p.role k t ≡ limit_after s q.role k t

-- so it is of spheres that are alike
pub acts-alike : (p q : Sphere) → forgotten p ≡ forgotten q → ActsAs p q
acts-alike p q e =
    record {
      memory = ap (λ (x : Sphere). x.memory) e;
      threads = ap (λ (x : Sphere). x.threads) e;
      stopped = sym (stopped-without _ p.role) ∙ ap (λ (x : Sphere). is_stopped x.role) e ∙ stopped-without _ q.role;
      replayed = sym (replays-without _ p.role) ∙ ap (λ (x : Sphere). replays x.role) e ∙ replays-without _ q.role;
      halving = sym (halves-without _ p.role) ∙ ap (λ (x : Sphere). halves x.role) e ∙ halves-without _ q.role;
      limit = λ s k t. sym (limit-without _ s p.role k t) ∙ ap (λ (x : Sphere). limit_of s x.role k t) e ∙ limit-without _ s q.role k t;
      after = λ s k t. sym (limit_after-without _ s p.role k t) ∙ ap (λ (x : Sphere). limit_after s x.role k t) e ∙ limit_after-without _ s q.role k t;
    }

-- a sphere of two worlds that are alike
pub sphere-alike : (w v : World) (i : ℕ) → AreAlike w v → forgotten (sphere_at w i) ≡ forgotten (sphere_at v i)
sphere-alike w v i same = sym (sphere-forgotten w i) ∙ ap (λ (u : World). sphere_at u i) same ∙ sphere-forgotten v i

fits_as : (a b : Role) (m n limit : ℕ) → replays a ≡ replays b → m ≡ n → LimitFits a m limit → LimitFits b n limit
fits_as a b m n limit r e f = record { most = subst (λ (k : ℕ). limit ≤ k) e f.most; replayed = λ h. f.replayed (r ∙ h) ∙ e }

thread_as : (s : ℕ) (p q : Sphere) (k : ℕ) (ch : Chunk) → ActsAs p q → IsOfThread s p k ch → IsOfThread s q k ch
thread_as s p q k ch a t =
    record {
      start = ap (λ (ts : List Parts). slice_get ts k) (sym a.threads) ∙ t.start;
      lives = t.lives;
      halving = t.halving ∙ a.halving;
      limit = λ e. fits_as p.role q.role (limit_of s p.role k ch.start) (limit_of s q.role k ch.start) ch.limit a.replayed (a.limit s k ch.start) (t.limit (a.stopped ∙ e));
    }

follows_as : (z : Numbers) (p q : Sphere) (k : ℕ) (older y : Chunk) → ActsAs p q → Follows z p k older y → Follows z q k older y
follows_as z p q k older y a f =
    record {
      deep = f.deep;
      sphere = f.sphere;
      allowed = ap (λ (b : Bool). may_follow b older.closed) (sym a.replayed) ∙ f.allowed;
      start = f.start;
      halving = f.halving ∙ a.halving;
      limit = λ e. fits_as p.role q.role (limit_after z.s p.role k y.start) (limit_after z.s q.role k y.start) y.limit a.replayed (a.after z.s k y.start) (f.limit (a.stopped ∙ e));
    }

-- ---- of two worlds

-- the world with other spheres
abbrev with_rows : World → List Sphere → World
with_rows w ps = record w { spheres = ps }

module _ (w : World) (ps : List Sphere) (acts : (i : ℕ) → ActsAs (sphere_at w i) (get_or ps i no_sphere)) (many : length ps ≡ length w.spheres) where
  over : (c i : ℕ) (ws : List Stored) (ch : Chunk) → IsGoodChunk w.numbers.capacity w.numbers.bits w.slots c (lays (lays (sphere_at w i).memory (flying i w.slots)) ws) ch → IsGoodChunk w.numbers.capacity w.numbers.bits w.slots c (lays (lays (get_or ps i no_sphere).memory (flying i w.slots)) ws) ch
  over c i ws ch g = subst (λ (m : List ℕ). IsGoodChunk w.numbers.capacity w.numbers.bits w.slots c (lays (lays m (flying i w.slots)) ws) ch) (acts i).memory g

  held_good : (c : ℕ) (h : Occupant) → IsGoodHeld w c h → IsGoodHeld (with_rows w ps) c h
  held_good c h g =
      let i = h.chunk.sphere in
      record {
        sphere = subst (λ (n : ℕ). i < n) (sym many) g.sphere;
        thread = thread_as w.numbers.s (sphere_at w i) (get_or ps i no_sphere) h.thread h.chunk (acts i) g.thread;
        chunk = over c i [] h.chunk g.chunk;
        follows = λ y e. follows_as w.numbers (sphere_at w i) (get_or ps i no_sphere) h.thread h.chunk y (acts i) (g.follows y e);
        younger = λ y e. over c i h.chunk.done.words y (g.younger y e);
      }

  rows_good : IsGood w → IsGood (with_rows w ps)
  rows_good g =
      record {
        buffer = g.buffer;
        standard = g.standard;
        apart = g.apart;
        covered = g.covered;
        flights = λ k f e. subst (λ (n : ℕ). f.sphere < n) (sym many) (g.flights k f e);
        held = λ c h e. held_good c h (g.held c h e);
        alone = g.alone;
      }

-- as many spheres
pub spheres-alike : (w v : World) → AreAlike w v → length v.spheres ≡ length w.spheres
spheres-alike w v same = sym (length-map v.spheres forgotten) ∙ ap (λ (u : World). length u.spheres) (sym same) ∙ length-map w.spheres forgotten

-- all but the spheres is the same
pub rest-alike : (w v : World) → AreAlike w v → record w { spheres = v.spheres } ≡ v
rest-alike w v same = (λ j. record {
  numbers = (same j).numbers;
  spheres = v.spheres;
  slots = (same j).slots;
  cores = (same j).cores;
  devices = (same j).devices;
  counts = (same j).counts;
  points = (same j).points;
})

-- the invariant holds of a world that is alike
pub good-alike : (w v : World) → AreAlike w v → IsGood w → IsGood v
good-alike w v same good =
    subst IsGood (rest-alike w v same)
    (rows_good w v.spheres (λ i. acts-alike (sphere_at w i) (sphere_at v i) (sphere-alike w v i same)) (spheres-alike w v same) good)
