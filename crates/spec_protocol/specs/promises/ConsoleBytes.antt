-- The bytes of the console: what commits put out on its channel, in the order of the points.
use Rattle.std.specs.Prelude.{◌≡◌, ℕ, List, [], ◌∷◌, ◌++◌, length, drop}
use Rattle.dl_entry.specs.declared.Commit.{Commit}
use Rattle.dl_entry.specs.declared.Point.{Point}
use Rattle.spec_protocol.specs.declared.event.Event.{Event}
use Rattle.spec_protocol.specs.machine.Machine.{Setup}
use Rattle.spec_protocol.specs.machine.Serial.{SerialState, serial_start, do_point}
use Rattle.spec_protocol.specs.machine.Logged.{sphere_in}
use Rattle.spec_protocol.specs.promises.Promises.{IsSetup, after}
use Rattle.spec_sphere.specs.promises.ConsoleBytes.{put_out}

abbrev pub place_of : Point → ℕ
place_of (Point.Commit moment i actor kind size short) = i
place_of (Point.Raise moment i k value) = i

-- the commits of sphere i in y after those in x
abbrev pub new_commits : (i : ℕ) → (x y : SerialState) → List Commit
new_commits i x y = drop (length (sphere_in x i).progress.commits) (sphere_in y i).progress.commits

-- what the commits of these points put out, done one at a time; those of replayed spheres put out nothing
abbrev pub console_of : SerialState → List Point → List ℕ
console_of x [] = []
console_of x (q ∷ qs) = let y = do_point x q in put_out (new_commits (place_of q) x y) ++ console_of y qs

-- after any events
abbrev pub ConsoleIsPutOut : Type 0
ConsoleIsPutOut =
    (s : Setup) (es : List Event) → IsSetup s
    → (after s es).devices.console ≡ console_of (serial_start s) (after s es).points
