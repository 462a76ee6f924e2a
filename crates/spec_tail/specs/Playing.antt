-- The play of a tail: from the state at its base, the commits of its log.
use Rattle.std.specs.Prelude.{ℕ, suc, ◌+◌, ◌-◌, nat_lt, Bool, true, false, List, [], ◌∷◌, map, slice_get}
use Rattle.std.specs.Prelude.{Option, Some, None, if◌then◌else◌}
use Rattle.dl_entry.specs.declared.End.{End}
use Rattle.dl_entry.specs.declared.Why.{Why}
use Rattle.dl_entry.specs.Numbers.{most_threads}
use Rattle.spec_isa.specs.declared.thread.Parts.{Parts}
use Rattle.spec_kernel.specs.Interrupts.{takes_interrupt, interrupted}
use Rattle.spec_log.specs.declared.DmaRecord.{DmaRecord}
use Rattle.spec_log.specs.declared.Interrupt.{Interrupt}
use Rattle.spec_log.specs.declared.LogParts.{LogParts}
use Rattle.spec_log.specs.declared.ShortSize.{ShortSize}
use Rattle.spec_log.specs.declared.Sizes.{Sizes}
use Rattle.spec_play.specs.declared.WalkEnd.{WalkEnd}
use Rattle.spec_play.specs.Plays.{Played, plays}
use Rattle.spec_play.specs.Progress.{nothing_used}
use Rattle.spec_play.specs.States.{State, resumed}
use Rattle.spec_play.specs.Turns.{Ended}
use Rattle.spec_play.specs.Verdicts.{interrupt_at}
use Rattle.spec_play.specs.Walks.{Walked, walked_at}
use Rattle.spec_tail.specs.Tails.{Tail, state_of}

-- A tail is played as a log of its own: commits are counted from the base, by thread and of all together. What the play
-- leaves is counted from the recording's start again.

-- ---- the log, counted from the base

-- how many commits of a thread come before the base; none if it isn't there yet
abbrev pub commits_of : Option Parts → ℕ
commits_of None = 0
commits_of (Some p) = p.commits

abbrev pub begun : List Parts → (thread : ℕ) → ℕ
begun threads k = commits_of (slice_get threads k)

-- no thread has this number. What is logged for a commit before the base is of this thread, so that it is never used
abbrev pub no_thread : ℕ
no_thread = most_threads

abbrev pub thread_since : (begun thread index : ℕ) → ℕ
thread_since begun k index = if nat_lt index begun then no_thread else k

abbrev pub short_since : List Parts → ShortSize → ShortSize
short_since threads x =
    let before = begun threads x.thread in
    record x { thread = thread_since before x.thread x.index; index = x.index - before }

-- if each commit has a size, the sizes are those from the base on
abbrev pub sizes_since : List Parts → Sizes → Sizes
sizes_since threads (Sizes.Each sizes) = Sizes.Each sizes
sizes_since threads (Sizes.Short sizes) = Sizes.Short (map (short_since threads) sizes)

abbrev pub interrupt_since : List Parts → Interrupt → Interrupt
interrupt_since threads x =
    let before = begun threads x.thread in
    record x { thread = thread_since before x.thread x.index; index = x.index - before }

-- a DMA before the base is at a position past all commits of the log
abbrev pub dma_since : (base count : ℕ) → DmaRecord → DmaRecord
dma_since base count x =
    record x { position = if nat_lt x.position base then count else x.position - base }

abbrev pub log_since : Tail → LogParts
log_since t =
    record t.log {
      sizes = sizes_since t.threads t.log.sizes;
      interrupts = map (interrupt_since t.threads) t.log.interrupts;
      dmas = map (dma_since t.base t.log.count) t.log.dmas;
    }

-- ---- the interrupts at the base

-- the threads after the interrupts that are logged for their first commits, how many these were, and whether one of them
-- couldn't be taken, so that no more were tried
pub record Raised : Type 0 where
  pub threads : List Parts
  pub count : ℕ
  pub refused : Bool

abbrev pub led_by : Parts → (count : ℕ) → Raised → Raised
led_by p count r = record r { threads = p ∷ r.threads; count = count + r.count }

-- a thread for which this value, if any, is logged before its first commit, and then the others
abbrev pub raised_first : (value : Option ℕ) → Parts → (others : List Parts) → (rest : Raised) → Raised
raised_first None p ps rest = led_by p 0 rest
raised_first (Some value) p ps rest =
    if takes_interrupt p then led_by (interrupted value p) 1 rest
    else record { threads = p ∷ ps; count = 0; refused = true }

-- these threads, of which the first has this number; their commits are counted from the base
abbrev pub raised : List Interrupt → (thread : ℕ) → List Parts → Raised
raised interrupts k [] = record { threads = []; count = 0; refused = false }
raised interrupts k (p ∷ ps) = raised_first (interrupt_at interrupts k p.commits) p ps (raised interrupts (suc k) ps)

-- ---- the play

-- no commit is done yet
abbrev pub uncounted : Parts → Parts
uncounted p = record p { commits = 0 }

-- if an interrupt can't be taken, the play has ended before its first commit
abbrev pub begun_play : LogParts → State → (refused : Bool) → Played
begun_play log s false = resumed log s
begun_play log s true = record (resumed log s) { now = Ended (End.Diverged 0 Why.Interrupt) }

-- before its first commit
abbrev pub opened : Tail → Played
opened t =
    let log = log_since t in
    let r = raised log.interrupts 0 (map uncounted t.threads) in
    begun_play log
    (record (state_of t) { threads = r.threads; commits = 0; used = record nothing_used { interrupts = r.count } })
    r.refused

-- after i commits of its log
abbrev pub played : Tail → (i : ℕ) → Played
played t i = plays (log_since t) (opened t) i

-- all of it
abbrev pub play : Tail → Played
play t = played t t.log.count

-- ---- what it leaves, counted from the recording's start

-- these threads, of which the first has this number
abbrev pub counted_from : (begun : ℕ → ℕ) → (thread : ℕ) → List Parts → List Parts
counted_from begun k [] = []
counted_from begun k (p ∷ ps) = record p { commits = begun k + p.commits } ∷ counted_from begun (suc k) ps

abbrev pub end_from : (base : ℕ) → End → End
end_from base (End.Complete i) = End.Complete (base + i)
end_from base (End.At i) = End.At (base + i)
end_from base (End.Diverged i why) = End.Diverged (base + i) why

abbrev pub walk_end_from : (base : ℕ) → WalkEnd → WalkEnd
walk_end_from base (WalkEnd.Reached i) = WalkEnd.Reached (base + i)
walk_end_from base (WalkEnd.Ended how) = WalkEnd.Ended (end_from base how)

abbrev pub walked_since : Tail → Walked → Walked
walked_since t v = record v { threads = counted_from (begun t.threads) 0 v.threads; end = walk_end_from t.base v.end }

-- what the walk of a whole tail leaves; its first commit has the base as its number
abbrev pub walked : Tail → Walked
walked t = walked_since t (walked_at (log_since t) t.log.count (play t))
