-- What a sphere is, and keeps for its role, before its first commit.
use Rattle.std.specs.Prelude.{ℕ, [], Option, Some, None}
use Rattle.dl_entry.specs.declared.Why.{Why}
use Rattle.spec_play.specs.Intervals.{now_in}
use Rattle.spec_play.specs.Noted.{nothing_recorded}
use Rattle.spec_play.specs.Plays.{Played}
use Rattle.spec_play.specs.Progress.{nothing_used, position}
use Rattle.spec_play.specs.States.{State, state_of}
use Rattle.spec_sphere.specs.sphere.Setups.{RecordSetup, ReplaySetup, RoleSetup, IsPlain, IsRecorded, IsReplayed, SphereSetup}
use Rattle.spec_sphere.specs.sphere.Setups.{first_played, first_standing, first_threads, new_epochs}
use Rattle.dl_record.specs.Epochs.{InEpochs}
use Rattle.dl_replay.specs.Following.{Following, diverged, followed_from}
use Rattle.dl_replay.specs.Replays.{IsReplaying}
use Rattle.dl_kernel.specs.States.{PlayState as At}
use Rattle.dl_sphere.specs.Roles.{Keeping, Plain, Recording, Replaying}

-- thread 0 alone, at the entry of the image
abbrev pub first_state : SphereSetup → State
first_state image =
    record {
      memory = image.memory;
      threads = first_threads image;
      request = None;
      last = None;
      commits = 0;
      used = nothing_used;
    }

-- a replayed sphere is where its log's play is
abbrev pub start_as : SphereSetup → RoleSetup → State
start_as image IsPlain = first_state image
start_as image (IsRecorded asked) = first_state image
start_as image (IsReplayed asked) = state_of (first_played image asked)

-- the replay where the play is at y
abbrev pub following_at : ReplaySetup → Played → Following
following_at asked y =
    record {
      log = asked.log;
      interval = asked.interval;
      strata = first_standing asked;
      now = now_in asked.interval asked.log.count (position y.progress) y.now;
      total = 0;
    }

-- a recording in which nothing is noted yet, and no epoch has begun
abbrev pub nothing_yet : RecordSetup → (s : ℕ) → InEpochs
nothing_yet asked s = record { recorded = nothing_recorded asked.version asked.mode s; epochs = new_epochs asked.epochs }

-- standard chunks have this size
abbrev pub keeping_at : SphereSetup → (s : ℕ) → RoleSetup → Keeping
keeping_at image s IsPlain = Plain
keeping_at image s (IsRecorded asked) = Recording (nothing_yet asked s)
keeping_at image s (IsReplayed asked) = Replaying (following_at asked (first_played image asked)) []

-- the replay from a state of the log's play on, which in strata has done nothing of them
abbrev pub started_from : ReplaySetup → State → Following
started_from asked s = record (followed_from asked.log asked.interval s) { strata = first_standing asked }

-- the replay, diverged where so many commits are done if there is a reason
abbrev pub diverged_if : Option Why → (commits : ℕ) → Following → Following
diverged_if None n r = r
diverged_if (Some why) n r = diverged why n r

-- what is kept for a replay agrees with the state
abbrev pub IsReplayingIf : Keeping → At → Type 0
IsReplayingIf Plain s = Unit {0}
IsReplayingIf (Recording r) s = Unit {0}
IsReplayingIf (Replaying r loads) s = IsReplaying r s
