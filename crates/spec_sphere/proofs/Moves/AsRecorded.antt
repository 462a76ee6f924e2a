-- What a move leaves doesn't depend on whether the sphere is plain or recorded, except for the log.
use Rattle.std.proofs.Common.{ℕ, Option, Some, None, refl, ap}
use Rattle.dl_entry.specs.declared.Request.{Request}
use Rattle.spec_isa.specs.declared.thread.Parts.{Parts}
use Rattle.spec_kernel.specs.Devices.{Devices}
use Rattle.spec_kernel.specs.Needs.{need}
use Rattle.spec_kernel.specs.Answers.{taken}
use Rattle.spec_kernel.specs.Serving.{serve, console_written}
use Rattle.spec_play.specs.Effects.{serial_effect}
use Rattle.spec_sphere.specs.sphere.Spheres.{Recording, Role, Plain, Record, Sphere}
use Rattle.spec_sphere.specs.sphere.Commits.{MovedSphere, granted_as, live_dma, dma_log, chunk_moved, serial_moved, dma_moved, raised}
use Rattle.spec_sphere.specs.promises.AsRecorded.{in_role, MoveAlikeIf, PlainMovesAsRecorded}

dma_alike : (a b : Role) (devices : Devices) (p : Sphere) (recording : Recording) (o : Option Request) → MoveAlikeIf (live_dma a devices (in_role Plain p) o) (live_dma b devices (in_role (Record recording) p) o)
dma_alike a b devices p recording None = tt
dma_alike a b devices p recording (Some request) = record { outcome = refl; spheres = refl; words = refl; devices = refl }

-- a serial step, where there may be so many threads
abbrev step_of : (most thread moment : ℕ) → Parts → Devices → Sphere → MovedSphere
step_of most k moment t devices p =
    let g = taken (need t p.memory) devices moment in
    let v = serve most k p.threads p.progress.request t p.memory g.input in
    granted_as Plain k (serial_effect k v) (console_written t p.memory v.outputs g.devices) p

-- a move leaves of a plain sphere what it leaves of a recorded one, except for the log
pub plain_moves : PlainMovesAsRecorded
unfolding chunk_moved serial_moved dma_moved raised
plain_moves p recording =
    record {
      chunk = λ k piece short r devices. record { outcome = refl; spheres = refl; words = refl; devices = refl };
      serial = λ k moment t devices same. record {
        outcome = refl;
        spheres = ap (λ (n : ℕ). in_role Plain (step_of n k moment t devices p).sphere) same;
        words = ap (λ (n : ℕ). (step_of n k moment t devices p).words) same;
        devices = ap (λ (n : ℕ). (step_of n k moment t devices p).devices) same;
      };
      dma = λ devices. dma_alike Plain (Record (record recording { log = dma_log recording.log devices (in_role (Record recording) p) p.progress.request })) devices p recording p.progress.request;
      raise = λ k value t. refl;
    }
