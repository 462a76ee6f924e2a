-- What is sound of a sphere: sizes that its numbers are below, and words inside its memory.
use Rattle.std.specs.Prelude.{◌≡◌, ℕ, ◌+◌, ◌%◌, ◌^◌, ◌<◌, ◌≤◌, Bool, true, false, ◌&&◌, nat_le, nat_lt, if◌then◌else◌, List, [], ◌∷◌, length, take, slice_get, Option, Some, None}
use Rattle.dl_entry.specs.declared.Actor.{Actor}
use Rattle.dl_entry.specs.declared.Request.{Request}
use Rattle.dl_entry.specs.Numbers.{most_bytes, least_chunk, most_chunk}
use Rattle.spec_isa.specs.declared.thread.Parts.{Parts}
use Rattle.spec_isa.specs.Words.{Stored, IsBytes}
use Rattle.spec_isa.specs.Threads.{IsThread}
use Rattle.spec_log.specs.declared.ModeName.{ModeName}
use Rattle.spec_log.specs.declared.Interrupt.{Interrupt}
use Rattle.spec_log.specs.declared.LogParts.{LogParts}
use Rattle.spec_log.specs.Log.{IsLog}
use Rattle.spec_log.specs.Versions.{IsVersion, IsStandard, new_threads}
use Rattle.spec_log.specs.Size.{is_thread}
use Rattle.spec_kernel.specs.Interrupts.{is_live}
use Rattle.spec_play.specs.Progress.{position}
use Rattle.spec_play.specs.Intervals.{IsWithinIf}
use Rattle.spec_play.specs.Turns.{Turn}
use Rattle.spec_play.specs.Verdicts.{interrupt_at}
use Rattle.spec_strata.specs.declared.stratum.Stratum.{Stratum}
use Rattle.spec_strata.specs.declared.strata.StrataParts.{StrataParts}
use Rattle.spec_strata.specs.Strata.{HaveSome}
use Rattle.spec_strata.specs.OnImages.{IsParallelOn}
use Rattle.spec_isa.specs.Inside.{AreInside}
use Rattle.spec_sphere.specs.sphere.Spheres.{Cursor, Role, Plain, Record, Replay, Sphere, is_over, actor_of, whole_limit, most_in}
use Rattle.spec_sphere.specs.sphere.Setups.{EpochSetup, RecordSetup, ReplaySetup, in_strata, RoleSetup, IsPlain, IsRecorded, IsReplayed, SphereSetup}

-- ---- the limits of a setup

-- a standard chunk has 16 to 65,536 instructions
abbrev pub IsChunkSize : ℕ → Type 0
IsChunkSize s = (least_chunk ≤ s) × (s ≤ most_chunk)

-- epochs are those of version 2. One has 1 to 2^24 commits, and 1 to 64 of them are kept
pub record AreEpochs (version : ℕ) (asked : EpochSetup) : Type 0 where
  pub second : version ≡ 2
  pub least : 1 ≤ asked.size
  pub most : asked.size ≤ 2 ^ 24
  pub some : 1 ≤ asked.keep
  pub few : asked.keep ≤ 64

abbrev pub AreEpochsIf : (version : ℕ) → Option EpochSetup → Type 0
AreEpochsIf version None = Unit {0}
AreEpochsIf version (Some asked) = AreEpochs version asked

-- there is such a version of logs, standard chunks of s instructions fit it, and so do epochs if they are asked for
abbrev pub IsRecordable : (s : ℕ) → RecordSetup → Type 0
IsRecordable s asked =
    IsVersion asked.version (new_threads asked.version)
    × IsStandard asked.version s
    × AreEpochsIf asked.version asked.epochs

-- strata are replayed whole, on an image on which they are parallel, and each has commits
pub record AreReplayable (memory : List ℕ) (entry : ℕ) (asked : ReplaySetup) : Type 0 where
  pub strata : StrataParts
  pub asks : asked ≡ in_strata strata
  pub some : HaveSome strata.strata
  pub parallel : IsParallelOn strata memory entry

abbrev pub AreReplayableIf : (memory : List ℕ) → (entry : ℕ) → ReplaySetup → Option (List Stratum) → Type 0
AreReplayableIf memory entry asked None = Unit {0}
AreReplayableIf memory entry asked (Some strata) = AreReplayable memory entry asked

-- what is replayed is a log, and an interval is within it
abbrev pub IsRole : (s : ℕ) → RoleSetup → Type 0
IsRole s IsPlain = Unit {0}
IsRole s (IsRecorded asked) = IsRecordable s asked
IsRole s (IsReplayed asked) = IsLog asked.log × IsWithinIf asked.log.count asked.interval

-- memory is 1 to 4,096 pages of 4,096 bytes, and the entry is the address of a word in it
pub record IsImage (s : ℕ) (image : SphereSetup) : Type 0 where
  pub least : 4096 ≤ length image.memory
  pub most : length image.memory ≤ 2 ^ 24
  pub pages : length image.memory % 4096 ≡ 0
  pub bytes : IsBytes image.memory
  pub aligned : image.entry % 4 ≡ 0
  pub inside : image.entry < length image.memory
  pub role : IsRole s image.role
  pub strata : (asked : ReplaySetup)
      → image.role ≡ IsReplayed asked
      → AreReplayableIf image.memory image.entry asked asked.strata

-- ---- words

-- a byte to be stored, if there is one
abbrev pub IsByte : Option ℕ → Type 0
IsByte None = Unit {0}
IsByte (Some b) = b < 2 ^ 8

pub record HasBytes (s : Stored) : Type 0 where
  pub b0 : IsByte s.b0
  pub b1 : IsByte s.b1
  pub b2 : IsByte s.b2
  pub b3 : IsByte s.b3

-- what these words store are bytes
abbrev pub HaveBytes : List Stored → Type 0
HaveBytes [] = Unit {0}
HaveBytes (s ∷ ss) = HasBytes s × HaveBytes ss

-- each of these words lies in a memory of that size, and stores bytes
pub record AreSoundWords (size : ℕ) (words : List Stored) : Type 0 where
  pub inside : AreInside size words
  pub bytes : HaveBytes words

-- ---- a sphere

-- what stands where there is no image
abbrev pub no_image : SphereSetup
no_image = record { memory = []; entry = 0; role = IsPlain }

-- an outstanding request has a buffer of words inside the memory, one word before at most a record's bytes
pub record IsSoundRequest (size : ℕ) (request : Request) : Type 0 where
  pub aligned : request.buf % 4 ≡ 0
  pub inside : request.buf + 4 + request.len ≤ size
  pub few : request.len ≤ most_bytes

abbrev pub IsSoundIf : (size : ℕ) → Option Request → Type 0
IsSoundIf size None = Unit {0}
IsSoundIf size (Some request) = IsSoundRequest size request

-- ---- a replay

-- the number of a thread's commits, none where there is no thread
abbrev pub commits_if : Option Parts → ℕ
commits_if None = 0
commits_if (Some t) = t.commits

abbrev pub commits_in : List Parts → (thread : ℕ) → ℕ
commits_in threads k = commits_if (slice_get threads k)

-- an interrupt is due once its thread, which has done so many commits, has done as many as it says, and one at least
abbrev pub is_due : Interrupt → (commits : ℕ) → Bool
is_due i n = nat_lt 0 i.index && nat_le i.index n

abbrev pub is_due_in : List Parts → Interrupt → Bool
is_due_in threads i = is_due i (commits_in threads i.thread)

-- how many of these are due
abbrev pub due : List Parts → List Interrupt → ℕ
due threads [] = 0
due threads (i ∷ is) = (if is_due_in threads i then 1 else 0) + due threads is

-- how many of these commits are the thread's
abbrev pub commits_among : (thread : ℕ) → List Actor → ℕ
commits_among k [] = 0
commits_among k (actor ∷ actors) = (if is_thread k actor then 1 else 0) + commits_among k actors

-- each thread has done its commits among these
abbrev pub HaveDone : List Actor → List Parts → Type 0
HaveDone actors threads = (k : ℕ) → commits_in threads k ≡ commits_among k actors

-- among the first ones of the order, where there is an order
abbrev pub IsDoneInOrder : ModeName → (order : List Actor) → (commits : ℕ) → List Parts → Type 0
IsDoneInOrder ModeName.OrderSize order n threads = HaveDone (take n order) threads
IsDoneInOrder ModeName.OrderOnly order n threads = HaveDone (take n order) threads
IsDoneInOrder ModeName.Picolog order n threads = Unit {0}

-- the order names the actor after so many commits
abbrev pub IsNamed : ModeName → (order : List Actor) → (commits : ℕ) → Actor → Type 0
IsNamed ModeName.OrderSize order n actor = slice_get order n ≡ Some actor
IsNamed ModeName.OrderOnly order n actor = slice_get order n ≡ Some actor
IsNamed ModeName.Picolog order n actor = Unit {0}

-- the thread whose turn it is is there and lives, and its commit has room for an instruction more than its pieces have
pub record HasThread (b : Cursor) (threads : List Parts) (k : ℕ) : Type 0 where
  pub thread : Parts
  pub there : slice_get threads k ≡ Some thread
  pub live : is_live thread ≡ true
  pub room : b.total < whole_limit b.log k thread.commits

-- a replay after so many commits: it has no more than its log, and before its end fewer, in the log's order unless it is in
-- strata; no more of the log is used than there is, of its interrupts those that are due; and pieces load no more often than
-- they run instructions
pub record IsSoundCursor (commits : ℕ) (threads : List Parts) (b : Cursor) : Type 0 where
  pub log : IsLog b.log
  pub within : commits ≤ b.log.count
  pub going : is_over b.now ≡ false → commits < b.log.count
  pub done : b.strata ≡ None → IsDoneInOrder b.log.mode b.log.order commits threads
  pub named : (actor : Actor)
      → b.strata ≡ None
      → actor_of b.now ≡ Some actor
      → IsNamed b.log.mode b.log.order commits actor
  pub inputs : b.used.inputs ≤ length b.log.inputs
  pub dmas : b.used.dmas ≤ length b.log.dmas
  pub interrupts : b.used.interrupts ≡ due threads b.log.interrupts
  pub loads : length b.loads ≤ b.total
  pub turn : (k : ℕ) → b.now ≡ Turn k → HasThread b threads k

-- no interrupt is logged of a thread after more commits than it has, nor after as many unless it is masked; and none of a
-- thread that isn't there. So the next interrupt is of a new moment
pub record AreFresh (threads : List Parts) (is : List Interrupt) : Type 0 where
  pub later : (k i : ℕ) (t : Parts)
      → slice_get threads k ≡ Some t
      → t.commits < i
      → interrupt_at is k i ≡ None
  pub unmasked : (k : ℕ) (t : Parts)
      → slice_get threads k ≡ Some t
      → t.mask ≡ false
      → interrupt_at is k t.commits ≡ None
  pub absent : (k i : ℕ) → slice_get threads k ≡ None → interrupt_at is k i ≡ None

-- a recording has a version of logs, as many commits as its sphere, and the plan's standard size
pub record IsSoundLog (s commits : ℕ) (threads : List Parts) (log : LogParts) : Type 0 where
  pub version : IsVersion log.version log.threads
  pub size : log.s ≡ s
  pub count : log.count ≡ commits
  pub interrupts : AreFresh threads log.interrupts

abbrev pub IsSoundRole : (s commits : ℕ) → List Parts → Role → Type 0
IsSoundRole s commits threads Plain = Unit {0}
IsSoundRole s commits threads (Record recording) = IsSoundLog s commits threads recording.log
IsSoundRole s commits threads (Replay b) = IsSoundCursor commits threads b

-- ---- a sphere

-- a thread has no more commits than its sphere
pub record IsSoundThread (commits : ℕ) (t : Parts) : Type 0 where
  pub thread : IsThread t
  pub few : t.commits ≤ commits

-- a sphere that began as the image, after so many events: its memory has the image's length, it has a thread at
-- least and no more than it may, and it has done no more commits than there were events
pub record IsSoundSphere (s : ℕ) (image : SphereSetup) (events : ℕ) (p : Sphere) : Type 0 where
  pub size : length p.memory ≡ length image.memory
  pub bytes : IsBytes p.memory
  pub request : IsSoundIf (length image.memory) p.progress.request
  pub some : 1 ≤ length p.threads
  pub few : length p.threads ≤ most_in p.role
  pub threads : (k : ℕ) (t : Parts)
      → slice_get p.threads k ≡ Some t
      → IsSoundThread (position p.progress) t
  pub commits : length p.progress.commits ≤ events
  pub role : IsSoundRole s (position p.progress) p.threads p.role
