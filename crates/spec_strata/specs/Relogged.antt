-- Strata of one log in another log that says the same of their commits.
use Rattle.std.specs.Prelude.{◌≡◌, ℕ, ◌<◌, List, [], ◌∷◌, Some, None, slice_get, ◌⊎◌}
use Rattle.spec_isa.specs.declared.thread.Parts.{Parts}
use Rattle.spec_isa.specs.Words.{Stored}
use Rattle.spec_kernel.specs.Needs.{next_kind}
use Rattle.dl_entry.specs.declared.Actor.{Actor}
use Rattle.spec_log.specs.declared.LogParts.{LogParts}
use Rattle.spec_play.specs.Effects.{Effect}
use Rattle.spec_play.specs.declared.used.Used.{Used}
use Rattle.spec_play.specs.Turns.{TurnOrEnd, Turn, TurnOfDma, Ended}
use Rattle.spec_play.specs.Verdicts.{Goes, serial_why}
use Rattle.spec_play.specs.Plays.{Played, play_turn, thread_verdict}
use Rattle.spec_play.specs.Transfers.{DmaGoes, dma_verdict}
use Rattle.spec_log.specs.Size.{size_in}
use Rattle.spec_strata.specs.Shares.{counts_of}
use Rattle.spec_strata.specs.Blocks.{Block, as_done, in_canonical_order, Chunks, Alone}
use Rattle.spec_strata.specs.InPlay.{IsLike, plays_of, IsStratum}

-- the standard size and the interrupts are the same, and so is each size, unless it is 0 in the first log, which is a serial
-- step's
pub record SaysAlike (log other : LogParts) : Type 0 where
  pub standard : other.s ≡ log.s
  pub interrupts : other.interrupts ≡ log.interrupts
  pub size : (k c : ℕ)
      → (size_in log (Actor.Thread k) c ≡ Some 0)
      ⊎ (size_in other (Actor.Thread k) c ≡ size_in log (Actor.Thread k) c)

-- A stratum of the log is one of the other log too, in each order that has as many commits of each thread; and the two plays
-- are alike after it.
abbrev pub StrataRelog : Type 0
StrataRelog =
    (log other : LogParts) (y z : Played) (ks js : List ℕ) → SaysAlike log other → 0 < log.s → IsLike y z
    → IsStratum log y ks
    → ((j : ℕ) → counts_of js j ≡ counts_of ks j)
    → IsStratum other z js × IsLike (plays_of log y ks) (plays_of other z js)

-- and they have as many threads, and the same inputs and DMA records, and the other log gives no size over 0 to a commit
-- that has none in the first
pub record SaysAll (log other : LogParts) : Type 0 where
  pub alike : SaysAlike log other
  pub threads : other.threads ≡ log.threads
  pub inputs : other.inputs ≡ log.inputs
  pub dmas : other.dmas ≡ log.dmas
  pub sizes : (a : Actor) (i : ℕ) → serial_why (size_in log a i) ≡ None → serial_why (size_in other a i) ≡ None

-- the next step of whoever has the turn goes as logged
pub record StepGoes (log : LogParts) (y : Played) (k : ℕ) : Type 0 where
  pub thread : Parts
  pub there : slice_get y.threads k ≡ Some thread
  pub effect : Effect
  pub used : Used
  pub goes : thread_verdict log y k thread (next_kind thread y.memory) ≡ Goes effect used

-- so does the next step, or the DMA whose turn it is
abbrev pub GoesNow : LogParts → Played → TurnOrEnd → Type 0
GoesNow log y (Turn k) = StepGoes log y k
GoesNow log y TurnOfDma = (words : List Stored) × (dma_verdict log y.progress y.used ≡ DmaGoes words)
GoesNow log y (Ended how) = ⊥

-- the log's play goes through these blocks, each stratum in the first of its orders
abbrev pub GoThrough : LogParts → Played → List Block → Type 0
GoThrough log y [] = Unit {0}
GoThrough log y (Chunks ks js ∷ bs) =
    IsStratum log y ks × ((j : ℕ) → counts_of js j ≡ counts_of ks j) × GoThrough log (plays_of log y ks) bs
GoThrough log y (Alone now ∷ bs) = GoesNow log y now × GoThrough log (play_turn log y now) bs

-- a log's play goes through them, each stratum in the second of its orders
abbrev pub GoThroughToo : LogParts → Played → List Block → Type 0
GoThroughToo log y [] = Unit {0}
GoThroughToo log y (Chunks ks js ∷ bs) = IsStratum log y js × GoThroughToo log (plays_of log y js) bs
GoThroughToo log y (Alone now ∷ bs) = GoesNow log y now × GoThroughToo log (play_turn log y now) bs

-- If one log goes through them in the first orders, the other does so in the second ones, and leaves a play like that of the
-- first.
abbrev pub BlocksRelog : Type 0
BlocksRelog =
    (log other : LogParts) (y z : Played) (bs : List Block) → SaysAll log other → 0 < log.s → IsLike y z
    → GoThrough log y bs
    → GoThroughToo other z bs × IsLike (in_canonical_order log y bs) (as_done other z bs)
