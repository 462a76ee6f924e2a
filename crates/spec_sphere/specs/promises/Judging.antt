-- What is promised of logs as recordings and plays look at them: that both see the same.
use Rattle.std.specs.Prelude.{◌≡◌, ℕ, ◌+◌, Bool, not, nat_lt, List, length, slice_index, Option, Some, None, if◌then◌else◌}
use Rattle.std.specs.List.{list_all}
use Rattle.std.specs.Option.{option_or}
use Rattle.dl_entry.specs.declared.Actor.{Actor}
use Rattle.dl_entry.specs.declared.Input.{Input}
use Rattle.dl_entry.specs.declared.Why.{Why}
use Rattle.spec_isa.specs.declared.thread.Parts.{Parts}
use Rattle.spec_isa.specs.Runs.{Run}
use Rattle.spec_log.specs.declared.ModeName.{ModeName}
use Rattle.spec_log.specs.declared.Interrupt.{Interrupt}
use Rattle.spec_log.specs.declared.DmaRecord.{DmaRecord}
use Rattle.spec_log.specs.declared.ShortSize.{ShortSize}
use Rattle.spec_log.specs.declared.Sizes.{Sizes}
use Rattle.spec_log.specs.declared.LogParts.{LogParts}
use Rattle.spec_log.specs.Log.{IsLog}
use Rattle.spec_log.specs.Head.{is_dma_at, head}
use Rattle.spec_log.specs.Size.{size_in}
use Rattle.spec_log.specs.Noting.{Kept, kept_size, limit_by, sizes_used, kept_head, log_of}
use Rattle.spec_kernel.specs.Interrupts.{takes_interrupt}
use Rattle.spec_play.specs.Progress.{Progress}
use Rattle.spec_play.specs.declared.used.Used.{Used}
use Rattle.spec_play.specs.Turns.{are_sizes_used}
use Rattle.spec_play.specs.Verdicts.{LogVerdict, Goes, Fails, interrupt_at, chunk_why, chunk_verdict}
use Rattle.spec_sphere.specs.sphere.Spheres.{whole_limit}
use Rattle.spec_sphere.specs.promises.Sound.{commits_in, is_due_in, due, IsDoneInOrder}

-- ---- a chunk's verdict

-- the reason, where it fails
abbrev pub why_of : LogVerdict → Option Why
why_of (Goes e u) = None
why_of (Fails why) = Some why

-- an interrupt is logged that the thread can't take
abbrev pub interrupt_why : Option ℕ → Parts → Option Why
interrupt_why None t = None
interrupt_why (Some value) t = if takes_interrupt t then None else Some Why.Interrupt

-- of n instructions that have left thread k as t
abbrev pub why_not : LogParts → (thread : ℕ) → Parts → (n : ℕ) → Option Why
why_not log k t n =
    option_or (chunk_why (size_in log (Actor.Thread k) t.commits) n)
    (interrupt_why (interrupt_at log.interrupts k (t.commits + 1)) t)

-- whether a chunk goes as logged depends on its thread's end and its number of instructions alone
abbrev pub ChunksAreJudged : Type 0
ChunksAreJudged =
    (log : LogParts) (p : Progress) (u : Used) (k : ℕ) (r : Run)
    → why_of (chunk_verdict log p u k r) ≡ why_not log k r.thread r.n

-- ---- what is kept of a log

-- the log has the sizes and the heads of what is kept
pub record IsLogged (mode : ModeName) (kept : Kept) (log : LogParts) : Type 0 where
  pub size : (actor : Actor) (i : ℕ) → size_in log actor i ≡ kept_size kept actor i
  pub head : (i : ℕ) (last : Option ℕ) (live : List Bool)
      → head log i last live ≡ kept_head mode kept.order i (is_dma_at log.dmas i) last live

-- so has the log of what is kept, in each version and whatever its records
abbrev pub KeptIsLogged : Type 0
KeptIsLogged =
    (version threads : ℕ) (mode : ModeName) (kept : Kept)
    → (interrupts : List Interrupt) (inputs : List Input) (dmas : List DmaRecord)
    → IsLogged mode kept (log_of version threads mode kept interrupts inputs dmas)

-- the limit of a commit is that of its size
abbrev pub LimitsAreOfSizes : Type 0
LimitsAreOfSizes =
    (log : LogParts) (k i : ℕ)
    → whole_limit log k i ≡ limit_by log.s (size_in log (Actor.Thread k) i)

-- ---- sizes that are used

-- these are the numbers of the threads' commits
abbrev pub AreCommits : (done : List ℕ) → (threads : List Parts) → Type 0
AreCommits done threads = (k : ℕ) → slice_index done k ≡ commits_in threads k

-- sizes are used by the numbers of commits as they are by the threads
abbrev pub AreUsedAlike : List Actor → Sizes → List Parts → Type 0
AreUsedAlike order sizes threads =
    (done : List ℕ)
    → AreCommits done threads
    → sizes_used order sizes done ≡ are_sizes_used threads sizes

-- short ones at any time
abbrev pub ShortSizesAreUsed : Type 0
ShortSizesAreUsed =
    (order : List Actor) (sizes : List ShortSize) (threads : List Parts)
    → AreUsedAlike order (Sizes.Short sizes) threads

-- and all at the end of a play, where each thread has done its commits
abbrev pub SizesAreUsed : Type 0
SizesAreUsed =
    (log : LogParts) (threads : List Parts)
    → IsLog log
    → IsDoneInOrder log.mode log.order log.count threads
    → AreUsedAlike log.order log.sizes threads

-- ---- interrupts that are taken

-- those that a replay has used are those that are due, as many as its cursor counts: so one is left over where not all are due
abbrev pub DueAreCounted : Type 0
DueAreCounted =
    (threads : List Parts) (interrupts : List Interrupt)
    → nat_lt (due threads interrupts) (length interrupts) ≡ not (list_all (is_due_in threads) interrupts)

pub record LogsAreSeenAlike : Type 0 where
  pub chunks : ChunksAreJudged
  pub kept : KeptIsLogged
  pub limits : LimitsAreOfSizes
  pub shorts : ShortSizesAreUsed
  pub sizes : SizesAreUsed
  pub interrupts : DueAreCounted
