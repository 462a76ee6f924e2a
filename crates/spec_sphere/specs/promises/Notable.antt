-- What comes for a commit from outside, and whether it fits a log.
use Rattle.std.specs.Prelude.{◌≡◌, ℕ, ◌<◌, slice_get, Option, Some, None}
use Rattle.dl_entry.specs.declared.Input.{Input}
use Rattle.dl_entry.specs.declared.Request.{Request}
use Rattle.spec_isa.specs.declared.thread.Parts.{Parts}
use Rattle.spec_log.specs.Log.{IsInput, AreFewBytes}
use Rattle.spec_kernel.specs.Devices.{Devices}
use Rattle.spec_kernel.specs.Needs.{need}
use Rattle.spec_kernel.specs.Answers.{taken, dma_bytes}
use Rattle.spec_sphere.specs.sphere.Spheres.{Sphere, most_in}

-- a record from outside, if there is one, is one of a log
abbrev pub IsInputIf : Option Input → Type 0
IsInputIf None = Unit {0}
IsInputIf (Some r) = IsInput r

-- of a sphere at a moment: its threads have the numbers of a log's actors, what the devices answer to a thread's next step is
-- one of its inputs, and what they give a DMA are its bytes
pub record FitsLog (now : ℕ) (d : Devices) (p : Sphere) : Type 0 where
  pub threads : (k : ℕ) (t : Parts) → slice_get p.threads k ≡ Some t → k < most_in p.role
  pub inputs : (k : ℕ) (t : Parts)
      → slice_get p.threads k ≡ Some t
      → IsInputIf (taken (need t p.memory) d now).input
  pub bytes : (request : Request)
      → p.progress.request ≡ Some request
      → AreFewBytes (dma_bytes d request)
