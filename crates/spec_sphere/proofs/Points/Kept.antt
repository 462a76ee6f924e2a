-- What a log keeps of a sphere's points.
use Rattle.std.proofs.Common.{◌≡◌, ℕ, Bool, true, false, List, [], ◌∷◌, ◌++◌, Some, None}
use Rattle.std.specs.Prelude.{slice_get}
use Rattle.dl_entry.specs.declared.Actor.{Actor}
use Rattle.dl_entry.specs.declared.CommitKind.{CommitKind}
use Rattle.dl_entry.specs.declared.Point.{Point}
use Rattle.dl_entry.specs.declared.Request.{Request}
use Rattle.spec_isa.specs.declared.thread.Parts.{Parts}
use Rattle.spec_isa.specs.Runs.{run}
use Rattle.spec_kernel.specs.Needs.{need}
use Rattle.spec_kernel.specs.Answers.{taken, dma_bytes}
use Rattle.spec_kernel.specs.Devices.{Devices}
use Rattle.spec_kernel.specs.Interrupts.{takes_interrupt}
use Rattle.spec_sphere.specs.sphere.Spheres.{Recording, Record, Sphere}
use Rattle.spec_sphere.specs.sphere.Commits.{chunk_in, raised, laid}
use Rattle.spec_sphere.specs.sphere.Logged.{Supplied}
use Rattle.spec_sphere.proofs.PlayingBack.Moves.{recorded_serial, recorded_dma}

-- ---- what points keep

-- what holds of a recorded sphere and of its points so far, with what came from outside, is kept by each point more
pub record IsKeptByPoints (K : List Supplied → Sphere → Type 0) : Type 0 where
  pub role : (cs : List Supplied) (p : Sphere) → K cs p → (r : Recording) × (p.role ≡ Record r)
  pub chunk : (cs : List Supplied) (moment i k size : ℕ) (short : Bool) (p : Sphere) (t : Parts) (devices : Devices) (r : Recording)
      → K cs p → p.role ≡ Record r → slice_get p.threads k ≡ Some t → (run p.memory t size).n ≡ size
      → K (cs ++ record { point = Point.Commit moment i (Actor.Thread k) CommitKind.Chunk size short; input = None; bytes = [] } ∷ [])
      (laid (chunk_in (Record r) k false short (run p.memory t size) devices p))
  pub serial : (cs : List Supplied) (moment i k size : ℕ) (short : Bool) (p : Sphere) (t : Parts) (devices : Devices) (r : Recording)
      → K cs p → p.role ≡ Record r → slice_get p.threads k ≡ Some t → size ≡ 0
      → K (cs ++ record { point = Point.Commit moment i (Actor.Thread k) CommitKind.Serial size short; input = (taken (need t p.memory) devices moment).input; bytes = [] } ∷ [])
      (laid (recorded_serial r p k moment t devices))
  pub dma : (cs : List Supplied) (moment i : ℕ) (short : Bool) (p : Sphere) (request : Request) (devices : Devices) (r : Recording)
      → K cs p → p.role ≡ Record r
      → K (cs ++ record { point = Point.Commit moment i Actor.Dma CommitKind.Dma 0 short; input = None; bytes = dma_bytes devices request } ∷ [])
      (laid (recorded_dma r p devices request))
  pub raise : (cs : List Supplied) (moment i k value : ℕ) (p : Sphere) (t : Parts) (r : Recording)
      → K cs p → p.role ≡ Record r → slice_get p.threads k ≡ Some t → takes_interrupt t ≡ true
      → K (cs ++ record { point = Point.Raise moment i k value; input = None; bytes = [] } ∷ []) (raised k value t p)
