-- What a sphere keeps for its role, and how that stands to its threads and commits.
use Rattle.std.specs.Prelude.{◌≡◌, ℕ, ◌+◌, ◌≤◌, Bool, true, List, length, slice_index, Option}
use Rattle.dl_entry.specs.declared.Commit.{Commit}
use Rattle.dl_entry.specs.declared.Input.{Input}
use Rattle.dl_entry.specs.Numbers.{most_threads, plain_threads}
use Rattle.spec_play.specs.Progress.{position}
use Rattle.spec_play.specs.declared.used.Used.{Used}
use Rattle.spec_sphere.specs.sphere.Spheres as protocol
use Rattle.spec_sphere.specs.promises.Sound.{AreFresh, IsChunkSize, IsSoundIf, commits_in}
use Rattle.dl_kernel.specs.InOrder.{listed}
use Rattle.dl_record.specs.Epochs.{InEpochs, base}
use Rattle.spec_play.specs.Noted.{as_log}
use Rattle.spec_log.specs.Versions.{new_threads}
use Rattle.spec_isa.specs.declared.thread.Load.{Load}
use Rattle.dl_kernel.specs.declared.past.Past.{Past}
use Rattle.dl_replay.specs.Following.{Following, cursor_of}
use Rattle.dl_replay.specs.Replays.{IsReplaying}
use Rattle.dl_sphere.specs.InStrata.{AreInStrataIf}
use Rattle.dl_sphere.specs.Pasts.{sphere_at}
use Rattle.dl_sphere.specs.Recorded.{with_commit, with_interrupt, CanRecord, CanInterrupt}
use Rattle.dl_sphere.specs.declared.part.Part.{Part}

-- nothing; the recording so far; or a replay, with the loads of the pieces of its present commit
pub data Keeping : Type 0 where
  Plain : Keeping
  Recording : (recorded : InEpochs) → Keeping
  Replaying : (replay : Following) (loads : List Load) → Keeping

abbrev pub keeping_of : Part → Keeping
keeping_of Part.Plain = Plain
keeping_of (Part.Recorded r) = Recording r.in_epochs
keeping_of (Part.Replayed r) = Replaying r.player r.loads.items

-- room for one commit with its record
abbrev pub has_room : Part → Bool
has_room Part.Plain = true
has_room (Part.Recorded r) = r.room
has_room (Part.Replayed r) = true

-- what is recorded, as the definitions have it
abbrev pub recording_of : InEpochs → protocol.Recording
recording_of r = record { log = as_log r.recorded; epochs = r.epochs }

-- its role, if so much of a log is used
abbrev pub role_of : Used → Keeping → protocol.Role
role_of used Plain = protocol.Plain
role_of used (Recording r) = protocol.Record (recording_of r)
role_of used (Replaying r loads) = protocol.Replay (cursor_of r used loads)

abbrev pub role_in : Used → Part → protocol.Role
role_in used part = role_of used (keeping_of part)

-- how many threads its sphere may have
abbrev pub most_of : Keeping → ℕ
most_of Plain = plain_threads
most_of (Recording r) = new_threads r.recorded.version
most_of (Replaying r loads) = r.log.threads

-- ---- what is noted

-- with a commit more, and its record or its data
abbrev pub with_noted : Commit → (short : Bool) → Option Input → Option (List ℕ) → Keeping → Keeping
with_noted c short input dma Plain = Plain
with_noted c short input dma (Recording r) = Recording (with_commit c short input dma r)
with_noted c short input dma (Replaying r loads) = Replaying r loads

-- with an interrupt more
abbrev pub with_raised : (thread index value : ℕ) → Keeping → Keeping
with_raised thread index value Plain = Plain
with_raised thread index value (Recording r) = Recording (with_interrupt thread index value r)
with_raised thread index value (Replaying r loads) = Replaying r loads

-- a commit that a recording can note
abbrev pub CanNote : Commit → (short : Bool) → Keeping → Type 0
CanNote c short Plain = Unit {0}
CanNote c short (Recording r) = CanRecord r c short
CanNote c short (Replaying r loads) = Unit {0}

-- an interrupt that it can note
abbrev pub CanRaise : (thread index : ℕ) → Keeping → Type 0
CanRaise thread index Plain = Unit {0}
CanRaise thread index (Recording r) = CanInterrupt r thread index
CanRaise thread index (Replaying r loads) = Unit {0}

-- ---- beside the sphere

-- no thread has more commits than the sphere
pub record HasFew (p : protocol.Sphere) : Type 0 where
  pub few : (k : ℕ) → commits_in p.threads k ≤ position p.progress

-- a recorder has standard chunks of this size and each thread's own number of commits, its log may have as many threads as
-- the sphere has, it has the sphere's commits from the same one on, and the next interrupt is of a new moment
pub record HasRecorded (standard : ℕ) (p : protocol.Sphere) (r : InEpochs) : Type 0 where
  pub few : HasFew p
  pub s : r.recorded.kept.s ≡ standard
  pub threads : length p.threads ≤ new_threads r.recorded.version
  pub all : length r.recorded.kept.done ≡ most_threads
  pub done : (k : ℕ) → slice_index r.recorded.kept.done k ≡ commits_in p.threads k
  pub first : p.progress.first ≡ base r.epochs
  pub count : r.recorded.kept.count ≡ length p.progress.commits
  pub fresh : AreFresh p.threads r.recorded.interrupts

-- what stands together: for a sphere that isn't replayed
abbrev pub IsLiveOf : (s : ℕ) → protocol.Sphere → Keeping → Type 0
IsLiveOf s p Plain = HasFew p
IsLiveOf s p (Recording r) = HasRecorded s p r
IsLiveOf s p (Replaying r loads) = ⊥

-- and for any: a replay is as far in its log as its sphere's state is
abbrev pub IsKeepingOf : (s : ℕ) → Past → Keeping → Type 0
IsKeepingOf s past Plain = HasFew (sphere_at past protocol.Plain)
IsKeepingOf s past (Recording r) = HasRecorded s (sphere_at past (protocol.Record (recording_of r))) r
IsKeepingOf s past (Replaying r loads) = IsReplaying r past.state × AreInStrataIf r.strata r.now past.first past.commits

-- the state counts the commits before the sphere's first one too
abbrev pub IsCounted : Past → Type 0
IsCounted past = past.first + length (listed past.commits) ≡ past.state.commits

-- what is true of every sphere: its standard size is a log's, its commits are counted, and its outstanding request is sound
pub record IsSphere (s : ℕ) (past : Past) (keeping : Keeping) : Type 0 where
  pub size : IsChunkSize s
  pub counted : IsCounted past
  pub request : IsSoundIf (length past.state.memory) past.state.request
  pub kept : IsKeepingOf s past keeping

-- the sphere is not replayed
abbrev pub IsLive : Keeping → Type 0
IsLive Plain = Unit {0}
IsLive (Recording r) = Unit {0}
IsLive (Replaying r loads) = ⊥
