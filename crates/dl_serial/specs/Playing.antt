-- A play as the code keeps it: the replay of its log, and the sphere that the log is played on.
use Rattle.std.specs.Prelude.{◌≡◌, ℕ, ◌<◌, List, ◌++◌, length, slice_get, None, Some}
use Rattle.spec_isa.specs.declared.thread.Parts.{Parts}
use Rattle.dl_entry.specs.declared.Actor.{Actor}
use Rattle.spec_isa.specs.Words.{Stored}
use Rattle.spec_log.specs.declared.LogParts.{LogParts}
use Rattle.spec_play.specs.Progress.{Progress, position}
use Rattle.spec_play.specs.Turns.{Turn}
use Rattle.spec_play.specs.Plays.{Played, play_one, plays, size_or_standard}
use Rattle.spec_sphere.specs.promises.Sound.{IsSoundIf}
use Rattle.spec_query.specs.declared.Store.{Store}
use Rattle.spec_query.specs.Stores.{next_stores, stores, stores_of}
use Rattle.dl_kernel.specs.declared.past.Past.{Past}
use Rattle.dl_kernel.specs.InOrder.{listed}
use Rattle.dl_replay.specs.Following.{Following}
use Rattle.dl_replay.specs.Replays.{IsReplaying}
use Rattle.dl_serial.specs.declared.footprint.Footprint.{Footprint}
use Rattle.dl_serial.specs.declared.sphere.Sphere.{Sphere}
use Rattle.dl_serial.specs.Looks.{IsFootprint}

-- a log, where its play has come, and the stores of its commits
pub record Playing : Type 0 where
  pub log : LogParts
  pub played : Played
  pub stores : List Store

-- with one commit more, and with so many
abbrev pub advanced : Playing → Playing
advanced p = record p { played = play_one p.log p.played; stores = p.stores ++ next_stores p.log p.played }

abbrev pub played_more : Playing → (i : ℕ) → Playing
played_more p i = record p { played = plays p.log p.played i; stores = p.stores ++ stores p.log p.played i }

-- the footprint is that of the chunk of the thread whose turn it is, of as many instructions as are logged
pub record HasLooked (p : Playing) (f : Footprint) : Type 0 where
  pub chunk : (k : ℕ) (t : Parts) → p.played.now ≡ Turn k → slice_get p.played.threads k ≡ Some t
      → let n = size_or_standard p.log k t.commits in 0 < n → IsFootprint p.played.memory t n f

abbrev pub progress_in : Past → Progress
progress_in b = record { first = b.first; commits = listed b.commits; last = b.state.last; request = b.state.request }

abbrev pub played_in : Following → Past → Played
played_in r b =
    record {
      memory = b.state.memory;
      threads = b.state.threads;
      progress = progress_in b;
      used = b.state.used;
      now = r.now;
    }

-- the replay is of all commits of its log, in no strata, and in no piece of one; it names a thread that is there; the state counts the
-- commits; a DMA stays inside the memory; and there is room for the words of a standard chunk
pub record IsPlaying (r : Following) (s : Sphere) : Type 0 where
  pub replaying : IsReplaying r s.past.state
  pub all : r.interval ≡ None
  pub order : r.strata ≡ None
  pub whole : r.total ≡ 0
  pub turn : (k : ℕ) → r.now ≡ Turn k → k < length s.past.state.threads
  pub counted : position (progress_in s.past) ≡ s.past.state.commits
  pub request : IsSoundIf (length s.past.state.memory) s.past.state.request
  pub room : s.words.capacity ≡ r.log.s

-- with the stores of a commit that lays these words on the play's memory
abbrev pub with_stores : List Store → Played → Actor → (words : List Stored) → List Store
with_stores ss y actor words = ss ++ stores_of (position y.progress) actor y.memory words

-- they have come to this place of the play of this log, with the stores of its commits
pub record HaveCome (log : LogParts) (y : Played) (ss : List Store) (r : Following) (s : Sphere) : Type 0 where
  pub same_log : r.log ≡ log
  pub played : played_in r s.past ≡ y
  pub stores : s.stores.items ≡ ss
