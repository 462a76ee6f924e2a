-- What holds of a log that is kept: it has what its sphere has done, and nothing of what comes next.
use Rattle.std.specs.Prelude.{◌≡◌, ℕ, ◌<◌, false, slice_get, Some, None}
use Rattle.spec_isa.specs.declared.thread.Parts.{Parts}
use Rattle.spec_log.specs.declared.LogParts.{LogParts}
use Rattle.spec_play.specs.Progress.{position}
use Rattle.spec_play.specs.Verdicts.{interrupt_at}
use Rattle.spec_sphere.specs.sphere.Spheres.{Sphere}

-- it counts the sphere's commits; and of a thread it has no interrupt at a later number of commits than the thread's, and
-- at that number only where the thread is masked: so the next one is of a new moment
pub record IsLogFresh (log : LogParts) (p : Sphere) : Type 0 where
  pub count : log.count ≡ position p.progress
  pub later : (k i : ℕ) (t : Parts) → slice_get p.threads k ≡ Some t → t.commits < i
      → interrupt_at log.interrupts k i ≡ None
  pub unmasked : (k : ℕ) (t : Parts) → slice_get p.threads k ≡ Some t → t.mask ≡ false
      → interrupt_at log.interrupts k t.commits ≡ None
