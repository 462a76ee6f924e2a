-- Of a sphere that isn't in strata, the thread that committed last is the last one among its commits, or before them.
use Rattle.std.specs.Prelude.{◌≡◌, ℕ, Option, None}
use Rattle.std.specs.Option.{option_or}
use Rattle.spec_play.specs.Progress.{Progress, last_thread}
use Rattle.spec_sphere.specs.sphere.Spheres.{Role, Plain, Record, Replay}
use Rattle.spec_sphere.specs.sphere.Setups.{SphereSetup, sphere_of}

-- it is the last one among the commits, or if no thread is among them, this one
abbrev pub IsLastSince : (before : Option ℕ) → Progress → Type 0
IsLastSince before p = p.last ≡ option_or (last_thread p.commits) before

-- the thread that committed last before the sphere's commits: only a replay that begins within its log has one
abbrev pub last_before : (s : ℕ) → SphereSetup → Option ℕ
last_before s image = (sphere_of s image).progress.last

-- the commits are in the order in which they are done: they aren't replayed in strata
abbrev pub IsInOrder : Role → Type 0
IsInOrder Plain = Unit {0}
IsInOrder (Record recording) = Unit {0}
IsInOrder (Replay b) = b.strata ≡ None
