-- A plain sphere moves as a recorded one except for its log: recording leaves no other mark.
use Rattle.std.specs.Prelude.{◌≡◌, ℕ, Bool, Option, Some, None}
use Rattle.spec_isa.specs.declared.thread.Parts.{Parts}
use Rattle.spec_isa.specs.Runs.{Run}
use Rattle.spec_kernel.specs.Devices.{Devices}
use Rattle.spec_sphere.specs.sphere.Spheres.{Recording, Role, Plain, Record, Sphere, most_in}
use Rattle.spec_sphere.specs.sphere.Commits.{MovedSphere, chunk_moved, serial_moved, dma_moved, raised}

abbrev pub in_role : Role → Sphere → Sphere
in_role role p = record p { role = role }

-- the two spheres are one except for their roles
abbrev pub AreAlike : Sphere → Sphere → Type 0
AreAlike p q = in_role Plain p ≡ in_role Plain q

pub record MoveAlike (v u : MovedSphere) : Type 0 where
  pub outcome : v.outcome ≡ u.outcome
  pub spheres : AreAlike v.sphere u.sphere
  pub words : v.words ≡ u.words
  pub devices : v.devices ≡ u.devices

-- both, or neither
abbrev pub MoveAlikeIf : Option MovedSphere → Option MovedSphere → Type 0
MoveAlikeIf None None = Unit {0}
MoveAlikeIf (Some v) (Some u) = MoveAlike v u
MoveAlikeIf _ _ = ⊥

-- a chunk, a DMA and an interrupt leave in p what they leave in q, except for the roles; and so does a serial step, if both may
-- have as many threads
pub record MovesAlike (p q : Sphere) : Type 0 where
  pub chunk : (k : ℕ) (piece short : Bool) (r : Run) (devices : Devices)
      → MoveAlike (chunk_moved k piece short r devices p) (chunk_moved k piece short r devices q)
  pub serial : (k moment : ℕ) (t : Parts) (devices : Devices)
      → most_in p.role ≡ most_in q.role
      → MoveAlike (serial_moved k moment t devices p) (serial_moved k moment t devices q)
  pub dma : (devices : Devices) → MoveAlikeIf (dma_moved devices p) (dma_moved devices q)
  pub raise : (k value : ℕ) (t : Parts) → AreAlike (raised k value t p) (raised k value t q)

-- whatever the log so far
abbrev pub PlainMovesAsRecorded : Type 0
PlainMovesAsRecorded =
    (p : Sphere) (recording : Recording) → MovesAlike (in_role Plain p) (in_role (Record recording) p)
