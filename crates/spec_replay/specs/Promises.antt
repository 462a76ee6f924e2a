-- What is promised of replayed spheres, for every setup and every list of events.
use Rattle.std.specs.Prelude.{◌≡◌, ℕ, ◌<◌, Bool, true, false, length, slice_get, Some, None, List}
use Rattle.dl_entry.specs.declared.End.{End}
use Rattle.dl_entry.specs.declared.Why.{Why}
use Rattle.spec_play.specs.Progress.{position}
use Rattle.spec_play.specs.Turns.{Ended}
use Rattle.spec_play.specs.Plays.{Played, plays}
use Rattle.spec_play.specs.Intervals.{now_of}
use Rattle.spec_protocol.specs.declared.event.Event.{Event}
use Rattle.spec_sphere.specs.sphere.Spheres.{Cursor, Replay, Sphere, is_over}
use Rattle.spec_sphere.specs.sphere.Setups.{last_played, first_played, ReplaySetup, in_strata, IsReplayed, SphereSetup}
use Rattle.spec_protocol.specs.machine.Machine.{Setup}
use Rattle.spec_protocol.specs.machine.Shown.{shown_of}
use Rattle.spec_protocol.specs.promises.Promises.{IsSetup, after}
use Rattle.spec_sphere.specs.promises.Sound.{AreReplayableIf}
use Rattle.spec_strata.specs.declared.strata.StrataParts.{StrataParts}
use Rattle.spec_replay.specs.Following.{Follows}
use Rattle.spec_replay.specs.InStrata.{FollowsInStrata, NeverDiverges}

-- ---- every replay is its log's play

-- sphere i was set up from the image, to replay the log, whose standard size is over 0; strata are parallel on the image; after
-- the events it is p, with its current memory
pub record IsReplay
    (image : SphereSetup) (asked : ReplaySetup) (s : Setup) (es : List Event) (i : ℕ) (p : Sphere)
    : Type 0 where
  pub setup : IsSetup s
  pub there : slice_get s.spheres i ≡ Some image
  pub replays : image.role ≡ IsReplayed asked
  pub standard : 0 < asked.log.s
  pub strata : AreReplayableIf image.memory image.entry asked asked.strata
  pub shown : slice_get (shown_of (after s es)).spheres i ≡ Some p

-- if it isn't in strata, it has followed the play of its log on its image, from the first commit that is replayed on, for as
-- many whole commits as it has done
abbrev pub ReplaysArePlays : Type 0
ReplaysArePlays =
    (image : SphereSetup) (asked : ReplaySetup) (s : Setup) (es : List Event) (i : ℕ) (p : Sphere)
    → IsReplay image asked s es i p → asked.strata ≡ None
    → Follows asked (plays asked.log (first_played image asked) (length p.progress.commits)) p

-- in strata it has done each thread's first commits of the present one, in whatever order, and all strata before
abbrev pub StrataAreFollowed : Type 0
StrataAreFollowed =
    (image : SphereSetup) (v : StrataParts) (s : Setup) (es : List Event) (i : ℕ) (p : Sphere)
    → IsReplay image (in_strata v) s es i p
    → FollowsInStrata v image p

-- and it never diverges: it has stopped exactly if all strata are done, and is then complete
abbrev pub StrataNeverDiverge : Type 0
StrataNeverDiverge =
    (image : SphereSetup) (v : StrataParts) (s : Setup) (es : List Event) (i : ℕ) (p : Sphere)
    → IsReplay image (in_strata v) s es i p
    → NeverDiverges v image p

-- ---- a replay that has stopped has done the whole play

-- the reasons that arise between two commits: no live thread has the turn, or something of the log is left over
abbrev pub is_between : Why → Bool
is_between Why.NoThread = true
is_between (Why.Short size run) = false
is_between Why.NotSerial = false
is_between Why.Input = false
is_between Why.Interrupt = false
is_between Why.Dma = false
is_between (Why.SizeOfSerial size) = false
is_between Why.LeftOver = true

-- complete, or diverged between two commits and not within one
abbrev pub ends_between : End → Bool
ends_between (End.Complete commits) = true
ends_between (End.At commits) = true
ends_between (End.Diverged commits why) = is_between why

-- it has the play's commits, with their loads and outputs, and the play's end; and the play's memory and threads, unless it
-- has ended within a commit, of which some pieces may be done
pub record IsPlayed (asked : ReplaySetup) (y : Played) (p : Sphere) (b : Cursor) : Type 0 where
  pub progress : p.progress ≡ y.progress
  pub now : b.now ≡ now_of asked.interval asked.log y
  pub memory : (how : End) → b.now ≡ Ended how → ends_between how ≡ true → p.memory ≡ y.memory
  pub threads : (how : End) → b.now ≡ Ended how → ends_between how ≡ true → p.threads ≡ y.threads

abbrev pub StoppedArePlayed : Type 0
StoppedArePlayed =
    (image : SphereSetup) (asked : ReplaySetup)
    (s : Setup) (es : List Event) (i : ℕ) (p : Sphere) (b : Cursor)
    → IsReplay image asked s es i p → p.role ≡ Replay b → is_over b.now ≡ true
    → IsPlayed asked (last_played image asked) p b

-- ---- all replays of the same log on the same image agree

-- the same memory, with the stores of pieces, and the same threads
pub record SameState (p q : Sphere) : Type 0 where
  pub memory : p.memory ≡ q.memory
  pub threads : p.threads ≡ q.threads

pub record Agree (p q : Sphere) (b c : Cursor) : Type 0 where
  -- after the same number of whole commits these are the same, with their loads and outputs
  pub progress : position p.progress ≡ position q.progress → p.progress ≡ q.progress
  -- and after the same number of instructions in pieces of the next commit, so are memory and threads
  pub state : position p.progress ≡ position q.progress → b.total ≡ c.total → SameState p q
  -- if both have stopped, they have done the same commits, and have ended in the same way
  pub commits : is_over b.now ≡ true → is_over c.now ≡ true → p.progress ≡ q.progress
  pub ends : is_over b.now ≡ true → is_over c.now ≡ true → b.now ≡ c.now
  -- and with the same memory and threads, unless that was within a commit, of which they may have done different
  -- pieces
  pub final : (how : End) → b.now ≡ Ended how → ends_between how ≡ true → is_over c.now ≡ true
      → SameState p q

-- whatever else differs: cores, depth, buffers, window, signatures, devices, events and the other spheres. Neither is in strata
abbrev pub ReplaysAgree : Type 0
ReplaysAgree =
    (image : SphereSetup) (asked : ReplaySetup)
    (s z : Setup) (es fs : List Event) (i j : ℕ) (p q : Sphere) (b c : Cursor)
    → IsReplay image asked s es i p → IsReplay image asked z fs j q → asked.strata ≡ None
    → p.role ≡ Replay b → q.role ≡ Replay c → Agree p q b c
