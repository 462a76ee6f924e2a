-- In a world whose spheres have forgotten what they recorded chunks begin as before.
use Rattle.std.proofs.Common.{◌≡◌, ℕ, List, Option, Some, None, refl}
use Rattle.std.specs.Prelude.{slice_get}
use Rattle.std.proofs.Math.ListN.{get_or-map}
use Rattle.spec_isa.specs.declared.thread.Parts.{Parts}
use Rattle.spec_play.specs.Progress.{Progress}
use Rattle.spec_engine.specs.Chunks.{Chunk}
use Rattle.spec_sphere.specs.sphere.Spheres.{Role, Plain, Record, Replay, Sphere, no_sphere, limit_of, limit_after}
use Rattle.spec_protocol.specs.machine.World.{Numbers, World, Occupant, sphere_at, thread_afresh, held_afresh}
use Rattle.spec_protocol.specs.machine.Stepping.{younger_for}
use Rattle.spec_sphere.specs.promises.Alike.{role_without, forgotten}
use Rattle.spec_protocol.specs.promises.Alike.{all_forgotten}
use Rattle.spec_sphere.proofs.Alike.Forgetting.{rows-twice}

-- ---- one sphere of a world

-- a sphere among those that have forgotten is the sphere, which has forgotten
pub sphere-forgotten : (w : World) (i : ℕ) → sphere_at (all_forgotten w) i ≡ forgotten (sphere_at w i)
sphere-forgotten w i = get_or-map forgotten w.spheres i no_sphere

-- ---- twice

-- in every sphere of a world
pub all-twice : (w : World) → all_forgotten (all_forgotten w) ≡ all_forgotten w
all-twice w = (λ j. record w { spheres = rows-twice w.spheres j })

-- ---- where a chunk begins

younger_in : (z : Numbers) (n : ℕ) (r : Role) (h : Occupant) (o : Option Chunk) → younger_for z (role_without n r) h o ≡ younger_for z r h o
unfolding limit_after
younger_in z n r h (Some y) = refl
younger_in z n Plain h None = refl
younger_in z n (Record recording) h None = refl
younger_in z n (Replay b) h None = refl

-- a core's younger chunk, held or begun afresh, is the same if the role has forgotten
pub younger-without : (z : Numbers) (n : ℕ) (r : Role) (h : Occupant) → younger_for z (role_without n r) h h.younger ≡ younger_for z r h h.younger
younger-without z n r h = younger_in z n r h h.younger

afresh_in : (z : Numbers) (i k : ℕ) (m : List ℕ) (ts : List Parts) (g : Progress) (r : Role) (o : Option Parts) → let p : Sphere = record { memory = m; threads = ts; progress = g; role = r } in thread_afresh z i k (forgotten p) o ≡ thread_afresh z i k p o
unfolding limit_of
afresh_in z i k m ts g r None = refl
afresh_in z i k m ts g Plain (Some t) = refl
afresh_in z i k m ts g (Record recording) (Some t) = refl
afresh_in z i k m ts g (Replay b) (Some t) = refl

-- so a thread begins afresh in the same way
pub thread_afresh-forgotten : (z : Numbers) (i k : ℕ) (p : Sphere) (o : Option Parts) → thread_afresh z i k (forgotten p) o ≡ thread_afresh z i k p o
thread_afresh-forgotten z i k p o = afresh_in z i k p.memory p.threads p.progress p.role o

-- a core takes a thread in the same way from a sphere that has forgotten
pub held_afresh-forgotten : (z : Numbers) (i k : ℕ) (p : Sphere) → held_afresh z i k (forgotten p) ≡ held_afresh z i k p
held_afresh-forgotten z i k p = thread_afresh-forgotten z i k p (slice_get p.threads k)
