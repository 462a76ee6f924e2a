-- The log of a recorded sphere, told by its points and by what came from outside at each: nothing else is in a log.
use Rattle.std.specs.Prelude.{ℕ, List, [], ◌∷◌, slice_get, slice_index_or, Option, None, if◌then◌else◌}
use Rattle.dl_entry.specs.declared.Actor.{Actor}
use Rattle.dl_entry.specs.declared.CommitKind.{CommitKind}
use Rattle.dl_entry.specs.declared.Input.{Input}
use Rattle.dl_entry.specs.declared.Point.{Point}
use Rattle.spec_log.specs.declared.ModeName.{ModeName}
use Rattle.spec_log.specs.declared.LogParts.{LogParts}
use Rattle.spec_play.specs.Progress.{position}
use Rattle.spec_play.specs.Epochs.{commits_of}
use Rattle.spec_sphere.specs.sphere.Spheres.{Sphere, no_sphere}
use Rattle.spec_protocol.specs.machine.Serial.{SerialState, do_point}
use Rattle.spec_sphere.specs.sphere.Logged.{Supplied, answer_to, bytes_for, is_of, logged_after}

-- ---- what came from outside

-- sphere i between two points
abbrev pub sphere_in : SerialState → (i : ℕ) → Sphere
sphere_in x i = slice_index_or x.spheres i no_sphere

-- only serial steps get a record
abbrev pub input_at : SerialState → Point → Option Input
input_at x (Point.Commit moment i (Actor.Thread k) CommitKind.Serial size short) =
    let p = sphere_in x i in answer_to x.devices moment p (slice_get p.threads k)
input_at x (Point.Commit moment i (Actor.Thread k) CommitKind.Chunk size short) = None
input_at x (Point.Commit moment i (Actor.Thread k) CommitKind.Dma size short) = None
input_at x (Point.Commit moment i (Actor.Thread k) CommitKind.Piece size short) = None
input_at x (Point.Commit moment i Actor.Dma kind size short) = None
input_at x (Point.Raise moment i k value) = None

-- only DMAs get bytes
abbrev pub bytes_at : SerialState → Point → List ℕ
bytes_at x (Point.Commit moment i Actor.Dma kind size short) = bytes_for x.devices (sphere_in x i).progress.request
bytes_at x (Point.Commit moment i (Actor.Thread k) kind size short) = []
bytes_at x (Point.Raise moment i k value) = []

-- those among these, which are done one at a time, with what comes from outside at each
abbrev pub supplied : (i : ℕ) → SerialState → List Point → List Supplied
supplied i x [] = []
supplied i x (q ∷ qs) =
    let rest = supplied i (do_point x q) qs in
    if is_of i q then record { point = q; input = input_at x q; bytes = bytes_at x q } ∷ rest else rest

-- ---- the log

-- how many commits thread k of sphere i has done
abbrev pub done_in : SerialState → (i thread : ℕ) → ℕ
done_in x i k = commits_of (slice_get (sphere_in x i).threads k)

-- of the points of sphere i since x. What it counts, it counts from the start
abbrev pub logged_since : (version : ℕ) → ModeName → (s : ℕ) → SerialState → (i : ℕ) → List Supplied → LogParts
logged_since version mode s x i cs = logged_after version mode s (done_in x i) (position (sphere_in x i).progress) cs
