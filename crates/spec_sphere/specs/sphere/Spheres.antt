-- A sphere: its memory, its threads, how far it has come, and its role.
use Rattle.std.specs.Prelude.{ℕ, ◌-◌, Bool, true, false, ◌&&◌, not, max, nat_eq, nat_lt, List, [], map, Option, Some, None, option_map, if◌then◌else◌}
use Rattle.dl_entry.specs.declared.Actor.{Actor}
use Rattle.dl_entry.specs.Numbers.{plain_threads}
use Rattle.spec_isa.specs.declared.thread.Parts.{Parts}
use Rattle.spec_isa.specs.declared.thread.Load.{Load}
use Rattle.spec_log.specs.declared.ModeName.{ModeName}
use Rattle.spec_log.specs.declared.LogParts.{LogParts}
use Rattle.spec_log.specs.Head.{turn}
use Rattle.spec_log.specs.Size.{size_in}
use Rattle.spec_kernel.specs.Interrupts.{is_live}
use Rattle.spec_play.specs.Progress.{Progress, no_progress}
use Rattle.spec_play.specs.declared.used.Used.{Used}
use Rattle.spec_play.specs.declared.interval.Interval.{Interval}
use Rattle.spec_play.specs.Turns.{TurnOrEnd, Turn, TurnOfDma, Ended}
use Rattle.spec_play.specs.Epochs.{Epochs}
use Rattle.spec_strata.specs.Standing.{Standing, has_chunks_left}

-- a replayed sphere's log; which of its commits are replayed, if a plan says so, or in which strata they are; how far the
-- replay is in it; and of the pieces of the present commit the instructions and the loads
pub record Cursor : Type 0 where
  pub log : LogParts
  pub interval : Option Interval
  pub strata : Option Standing
  pub used : Used
  pub now : TurnOrEnd
  pub total : ℕ
  pub loads : List Load

-- what a recorded sphere keeps: the log so far; and, if it gives up its earliest commits, the epochs that it keeps
pub record Recording : Type 0 where
  pub log : LogParts
  pub epochs : Option Epochs

pub data Role : Type 0 where
  Plain : Role
  Record : (recording : Recording) → Role
  Replay : (cursor : Cursor) → Role

pub record Sphere : Type 0 where
  pub memory : List ℕ
  pub threads : List Parts
  pub progress : Progress
  pub role : Role

-- what stands where there is no sphere
abbrev pub no_sphere : Sphere
no_sphere = record { memory = []; threads = []; progress = no_progress; role = Plain }

-- ---- turns

abbrev pub is_over : TurnOrEnd → Bool
is_over (Turn k) = false
is_over TurnOfDma = false
is_over (Ended how) = true

-- a replayed sphere stops once it is complete or has diverged
abbrev pub is_stopped : Role → Bool
is_stopped Plain = false
is_stopped (Record recording) = false
is_stopped (Replay b) = is_over b.now

abbrev pub actor_of : TurnOrEnd → Option Actor
actor_of (Turn k) = Some (Actor.Thread k)
actor_of TurnOfDma = Some Actor.Dma
actor_of (Ended how) = None

-- while picolog is recorded threads take turns
abbrev pub recording_turn : ModeName → Sphere → Option Actor
recording_turn ModeName.Picolog p = option_map Actor.Thread (turn p.progress.last (map is_live p.threads))
recording_turn ModeName.OrderSize p = None
recording_turn ModeName.OrderOnly p = None

abbrev pub head_in : Role → Sphere → Option Actor
head_in Plain p = None
head_in (Record recording) p = recording_turn recording.log.mode p
head_in (Replay b) p = actor_of b.now

-- the actor whose turn it is to commit, where not every one may
unfoldable pub head_of : Sphere → Option Actor
head_of p = head_in p.role p

-- the actor whose turn it is, unless it is this one
abbrev pub other_than : Actor → Option Actor → Option Actor
other_than actor None = None
other_than (Actor.Thread k) (Some (Actor.Thread j)) = if nat_eq j k then None else Some (Actor.Thread j)
other_than (Actor.Thread k) (Some Actor.Dma) = Some Actor.Dma
other_than Actor.Dma (Some (Actor.Thread j)) = Some (Actor.Thread j)
other_than Actor.Dma (Some Actor.Dma) = None

-- a thread with chunks left in the present stratum may commit before those whose turn it is, unless a part of a commit is done
abbrev pub joins_in : Option Standing → (thread total : ℕ) → Bool
joins_in None k total = false
joins_in (Some x) k total = nat_eq total 0 && has_chunks_left x.strata x.done k

-- whether the actor waits for its turn: threads do, and in a replay DMAs too
abbrev pub takes_turns : Actor → Role → Bool
takes_turns (Actor.Thread k) Plain = true
takes_turns (Actor.Thread k) (Record recording) = true
takes_turns (Actor.Thread k) (Replay b) = not (joins_in b.strata k b.total)
takes_turns Actor.Dma Plain = false
takes_turns Actor.Dma (Record recording) = false
takes_turns Actor.Dma (Replay b) = true

abbrev pub turn_in : Role → Sphere → Actor → Option Actor
turn_in role p actor = if takes_turns actor role then other_than actor (head_in role p) else None

-- the actor whose turn keeps this one from committing; none where it may commit
unfoldable pub turn_against : Sphere → Actor → Option Actor
turn_against p actor = turn_in p.role p actor

-- ---- threads

-- how many threads a sphere may have: spawn is refused at this number
abbrev pub most_in : Role → ℕ
most_in Plain = plain_threads
most_in (Record recording) = recording.log.threads
most_in (Replay b) = b.log.threads

-- ---- limits of chunks

-- the size that is logged for a thread's commit, but 1 for a logged 0; where none is logged the log's standard size
abbrev pub whole_limit : LogParts → (thread commits : ℕ) → ℕ
whole_limit log k commits = elim (size_in log (Actor.Thread k) commits) [ None ↦ log.s | Some z ↦ max 1 z ]

-- the instructions that earlier pieces of the thread's present commit have run
abbrev pub pieces_of : TurnOrEnd → (thread total : ℕ) → ℕ
pieces_of (Turn j) k total = if nat_eq j k then total else 0
pieces_of TurnOfDma k total = 0
pieces_of (Ended how) k total = 0

abbrev pub limit_in : Role → (s thread commits : ℕ) → ℕ
limit_in Plain s k commits = s
limit_in (Record recording) s k commits = s
limit_in (Replay b) s k commits = max 1 (whole_limit b.log k commits - pieces_of b.now k b.total)

-- how many instructions a new chunk of thread k, which is t, may run, where the plan's standard size is s
unfoldable pub limit_of : (s : ℕ) → Role → (thread : ℕ) → Parts → ℕ
limit_of s role k t = limit_in role s k t.commits

abbrev pub limit_after_in : Role → (s thread commits : ℕ) → ℕ
limit_after_in Plain s k commits = s
limit_after_in (Record recording) s k commits = s
limit_after_in (Replay b) s k commits = max 1 (whole_limit b.log k commits)

-- how many a chunk of thread k may run that follows the thread's present commit, which will leave t
unfoldable pub limit_after : (s : ℕ) → Role → (thread : ℕ) → Parts → ℕ
limit_after s role k t = limit_after_in role s k t.commits

-- ---- more of roles

-- in a recorded sphere squashes halve a chunk's limit
abbrev pub halves : Role → Bool
halves Plain = false
halves (Record recording) = true
halves (Replay b) = false

-- the present commit has pieces already
abbrev pub is_in_pieces : Role → Bool
is_in_pieces Plain = false
is_in_pieces (Record recording) = false
is_in_pieces (Replay b) = nat_lt 0 b.total

abbrev pub replays : Role → Bool
replays Plain = false
replays (Record recording) = false
replays (Replay b) = true
