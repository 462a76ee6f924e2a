-- What a recording in epochs leaves: the state after its base, which is a number of commits, and the log of the commits from
-- there on.
use Rattle.std.specs.Prelude.{ℕ, Bool, false, not, List}
use Rattle.std.specs.Option.{is_some}
use Rattle.dl_entry.specs.declared.Point.{Point}
use Rattle.spec_play.specs.Progress.{position}
use Rattle.spec_protocol.specs.declared.event.Event.{Event}
use Rattle.spec_sphere.specs.sphere.Epochs.{base_of}
use Rattle.spec_protocol.specs.machine.Kept.{serial_until, tail_log}
use Rattle.spec_sphere.specs.sphere.Setups.{EpochSetup, RecordSetup, RoleSetup, IsPlain, IsRecorded, IsReplayed}
use Rattle.spec_protocol.specs.machine.Machine.{Setup}
use Rattle.spec_protocol.specs.machine.Logged.{sphere_in}
use Rattle.spec_sphere.specs.sphere.Spheres.{Sphere}
use Rattle.spec_run.specs.Runs.{points_of, executed}
use Rattle.spec_tail.specs.Tails.{Tail}

-- whether a sphere is recorded whole, and not in epochs
abbrev pub is_recorded_whole : RoleSetup → Bool
is_recorded_whole IsPlain = false
is_recorded_whole (IsRecorded asked) = not (is_some asked.epochs)
is_recorded_whole (IsReplayed asked) = false

-- the number of commits before the earliest epoch that is kept
abbrev pub base_in : Sphere → EpochSetup → ℕ
base_in p x = base_of (position p.progress) x.size x.keep

-- sphere i right after its n-th commit, and the log of what the points tell of it after that
abbrev pub tail_at : Setup → List Point → (i : ℕ) → RecordSetup → (n : ℕ) → Tail
tail_at s ps i asked n =
    let p : Sphere = sphere_in (serial_until s ps i n) i in
    record {
      base = n;
      threads = p.threads;
      memory = p.memory;
      request = p.progress.request;
      last = p.progress.last;
      log = tail_log s ps i asked n;
    }

-- after the base of a run
abbrev pub tail_of_points : Setup → (schedule : List Event) → (i : ℕ) → RecordSetup → EpochSetup → Tail
tail_of_points s es i asked x = tail_at s (points_of s es) i asked (base_in (sphere_in (executed s es) i) x)
