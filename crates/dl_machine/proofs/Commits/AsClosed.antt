-- A chunk that can commit can do so as it was closed.
use Rattle.std.proofs.Common.{◌≡◌, ℕ, Option, Some, None, Result, Ok, Err, ap, sym, subst}
use Rattle.std.specs.Prelude.{IfOk}
use Rattle.spec_engine.specs.declared.answers.How.{How}
use Rattle.spec_sphere.specs.sphere.Spheres.{Sphere}
use Rattle.spec_engine.specs.Chunks.{Chunk}
use Rattle.dl_sphere.specs.Moving.{CanCommit}

-- how a chunk was closed, and Limit for one that wasn't
abbrev pub how_of : Option How → How
how_of None = How.Limit
how_of (Some how) = how

-- what a closed chunk was closed by is how it was closed
pub how_is : (o : Option How) (how : How) → o ≡ Some how → how_of o ≡ how
how_is o how e = ap how_of e

-- a chunk that can commit somehow can commit as it was closed
pub can_commit_so : (s : ℕ) (p : Sphere) (k : ℕ) (ch : Chunk) → (how : How) × CanCommit s p k how ch → CanCommit s p k (how_of ch.closed) ch
can_commit_so s p k ch can = subst (λ (how : How). CanCommit s p k how ch) (sym (how_is ch.closed can.0 can.1.closed)) can.1

-- an Ok of which P holds is one of which Q does, where P implies Q
pub if_ok : {A E : Type 0} (r : Result A E) (P Q : A → Type 0) → ((x : A) → P x → Q x) → IfOk r P → IfOk r Q
if_ok (Ok x) P Q f p = f x p
if_ok (Err e) P Q f p = tt
