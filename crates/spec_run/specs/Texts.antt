-- The texts of a run: the log and the account of each sphere, the console, the report and the summary. Every value in them
-- comes from executing the points whole, one at a time, or from playing a log on its image.
use Rattle.std.specs.Prelude.{ℕ, suc, List, [], ◌∷◌, length, drop, Option, Some, None}
use Rattle.dl_account.specs.Account.{account_of}
use Rattle.dl_account.specs.Report.{report_of}
use Rattle.dl_account.specs.Summary.{summary_of}
use Rattle.dl_entry.specs.declared.End.{End}
use Rattle.dl_entry.specs.declared.SphereLine.{SphereLine}
use Rattle.spec_log.specs.declared.LogParts.{LogParts}
use Rattle.spec_log.specs.Bytes.{log_bytes}
use Rattle.spec_play.specs.declared.interval.Interval.{Interval}
use Rattle.spec_play.specs.Progress.{position}
use Rattle.spec_play.specs.Plays.{Played}
use Rattle.spec_protocol.specs.declared.event.Event.{Event}
use Rattle.spec_sphere.specs.sphere.Spheres.{Sphere}
use Rattle.spec_sphere.specs.sphere.Setups.{EpochSetup, RecordSetup, RoleSetup, IsPlain, IsRecorded, IsReplayed, SphereSetup}
use Rattle.spec_protocol.specs.machine.Machine.{Setup}
use Rattle.spec_protocol.specs.machine.Serial.{SerialState, serial_start}
use Rattle.spec_protocol.specs.machine.Logged.{sphere_in, supplied}
use Rattle.spec_sphere.specs.sphere.Logged.{logged}
use Rattle.spec_protocol.specs.promises.Sound.{image_at}
use Rattle.spec_run.specs.Runs.{points_of, counts_of, executed, played, played_end}
use Rattle.spec_run.specs.Tails.{base_in, tail_of_points}
use Rattle.spec_tail.specs.Bytes.{tail_bytes}

-- ---- logs

-- the log that the points of sphere i tell, in this mode
abbrev pub log_of_points : Setup → (schedule : List Event) → (i : ℕ) → RecordSetup → LogParts
log_of_points s es i asked = logged asked.version asked.mode s.numbers.s (supplied i (serial_start s) (points_of s es))

-- as bytes: the whole log, or its last part if the sphere is recorded in epochs
abbrev pub recorded_bytes : Setup → (schedule : List Event) → (i : ℕ) → RecordSetup → Option EpochSetup → List ℕ
recorded_bytes s es i asked None = log_bytes (log_of_points s es i asked)
recorded_bytes s es i asked (Some x) = tail_bytes (tail_of_points s es i asked x)

-- no other sphere has a log
abbrev pub log_as : Setup → (schedule : List Event) → (i : ℕ) → RoleSetup → List ℕ
log_as s es i IsPlain = []
log_as s es i (IsRecorded asked) = recorded_bytes s es i asked asked.epochs
log_as s es i (IsReplayed asked) = []

unfoldable pub log_text : Setup → (schedule : List Event) → (i : ℕ) → List ℕ
log_text s es i = log_as s es i (image_at s i).role

-- ---- accounts

-- of a sphere that was executed
abbrev pub executed_account : Sphere → List ℕ
executed_account p =
    account_of p.progress.first p.progress.commits p.threads p.progress.request p.memory (End.Complete (position p.progress))

-- of a sphere that was recorded: from its first commit on, or from its base on if it is recorded in epochs
abbrev pub recorded_account : Sphere → Option EpochSetup → List ℕ
recorded_account p None = executed_account p
recorded_account p (Some x) =
    let b = base_in p x in
    account_of b (drop b p.progress.commits) p.threads p.progress.request p.memory (End.Complete (position p.progress))

-- of a play that ended so
abbrev pub played_account : Played → End → List ℕ
played_account y how = account_of y.progress.first y.progress.commits y.threads y.progress.request y.memory how

-- a replayed sphere's account is that of its log's play on its image, or a slice of it, and no more is told of it
abbrev pub account_as : SphereSetup → (executed : Sphere) → RoleSetup → List ℕ
account_as image p IsPlain = executed_account p
account_as image p (IsRecorded asked) = recorded_account p asked.epochs
account_as image p (IsReplayed asked) = played_account (played asked image) (played_end asked image)

unfoldable pub account_text : Setup → (schedule : List Event) → (i : ℕ) → List ℕ
account_text s es i = let image = image_at s i in account_as image (sphere_in (executed s es) i) image.role

-- ---- the console

unfoldable pub console_text : Setup → (schedule : List Event) → List ℕ
console_text s es = (executed s es).devices.console

-- ---- the report and the summary

abbrev pub line_of_end : End → SphereLine
line_of_end (End.Complete commits) = SphereLine.Complete commits
line_of_end (End.At commits) = SphereLine.Complete commits
line_of_end (End.Diverged index why) = SphereLine.Diverged index why

-- of a replay that ended so: if it was of an interval, with the commits that it did
abbrev pub replay_line : Option Interval → Played → End → SphereLine
replay_line None y how = line_of_end how
replay_line (Some i) y how = SphereLine.Interval (length y.progress.commits) how

-- what the summary says of a sphere: its commits, or how its replay ended
abbrev pub line_as : SphereSetup → (executed : Sphere) → RoleSetup → SphereLine
line_as image p IsPlain = SphereLine.Plain (position p.progress)
line_as image p (IsRecorded asked) = SphereLine.Record (position p.progress)
line_as image p (IsReplayed asked) = replay_line asked.interval (played asked image) (played_end asked image)

-- of the spheres from number i on
abbrev pub lines_from : SerialState → (i : ℕ) → List SphereSetup → List SphereLine
lines_from x i [] = []
lines_from x i (image ∷ images) = line_as image (sphere_in x i) image.role ∷ lines_from x (suc i) images

abbrev pub lines_of : Setup → (schedule : List Event) → List SphereLine
lines_of s es = lines_from (executed s es) 0 s.spheres

-- the report tells the points in their order, and how often each reply was given
unfoldable pub report_text : Setup → (schedule : List Event) → List ℕ
report_text s es = report_of (points_of s es) (counts_of s es) (lines_of s es)

unfoldable pub summary_text : Setup → (schedule : List Event) → List ℕ
summary_text s es = summary_of (counts_of s es) (lines_of s es)
