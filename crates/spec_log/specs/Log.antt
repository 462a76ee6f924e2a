-- What makes parts a log: their ranges, their numbers of entries, and the orders of entries.
use Rattle.std.specs.Prelude.{◌≡◌, ℕ, ◌^◌, ◌<◌, ◌≤◌, ◌⊎◌, List, [], ◌∷◌, length, All, Contains}
use Rattle.std.specs.List.{AllAdjacentBelow}
use Rattle.dl_entry.specs.declared.actor.Actor.{Actor}
use Rattle.dl_entry.specs.declared.actor.Actor.TheVariants.{Thread, Dma}
use Rattle.dl_entry.specs.declared.input.Input.{Input}
use Rattle.dl_entry.specs.Numbers.{kind_write, kind_read, kind_random, kind_clock, kind_moment, kind_input, most_bytes}
use Rattle.spec_log.specs.declared.mode_name.ModeName.{ModeName}
use Rattle.spec_log.specs.declared.mode_name.ModeName.TheVariants.{OrderSize, OrderOnly, Picolog}
use Rattle.spec_log.specs.declared.records.Interrupt.{Interrupt}
use Rattle.spec_log.specs.declared.records.DmaRecord.{DmaRecord}
use Rattle.spec_log.specs.declared.sizes.ShortSize.{ShortSize}
use Rattle.spec_log.specs.declared.sizes.Sizes.{Sizes}
use Rattle.spec_log.specs.declared.sizes.Sizes.TheVariants.{Each, Short}
use Rattle.spec_log.specs.declared.log.LogParts.{LogParts}
use Rattle.spec_log.specs.Versions.{IsVersion, IsStandard}

-- an actor of a log is one of the threads that it may have, or a DMA
abbrev pub IsActor : (threads : ℕ) → Actor → Type 0
IsActor threads (Thread thread) = thread < threads
IsActor threads Dma = Unit {0}

-- the order names the actor of each commit; in picolog, where threads take turns, it is empty
abbrev pub IsOrder : ModeName → (threads count : ℕ) → List Actor → Type 0
IsOrder OrderSize threads count order = (length order ≡ count) × All (IsActor threads) order
IsOrder OrderOnly threads count order = (length order ≡ count) × All (IsActor threads) order
IsOrder Picolog threads count order = order ≡ []

-- a thread's moment comes before another: of an earlier thread, or earlier in the same thread
abbrev pub ComesBefore : (thread index later_thread later_index : ℕ) → Type 0
ComesBefore t i u j = (t < u) ⊎ ((t ≡ u) × (i < j))

-- the entries of a section are each good, each comes before the next, and 32 bits can count them
pub record IsSection {X : Type 0} (good : X → Type 0) (before : X → X → Type 0) (entries : List X) : Type 0 where
  pub few : length entries < 2 ^ 32
  pub each : All good entries
  pub rising : AllAdjacentBelow before entries (length entries)

-- the size of a short chunk is over 0 and no more than a standard chunk's
abbrev pub IsShortSize : (threads s : ℕ) → ShortSize → Type 0
IsShortSize threads s short = (short.thread < threads) × (short.index < 2 ^ 32) × (1 ≤ short.size) × (short.size ≤ s)

abbrev pub AreShortSizes : (threads s : ℕ) → List ShortSize → Type 0
AreShortSizes threads s sizes =
    IsSection (IsShortSize threads s) (λ x y. ComesBefore x.thread x.index y.thread y.index) sizes

-- in order-size each commit has a size, in the other modes the short chunks
abbrev pub IsSizes : ModeName → (threads s count : ℕ) → Sizes → Type 0
IsSizes OrderSize threads s count (Each sizes) = (length sizes ≡ count) × All (λ size. size ≤ s) sizes
IsSizes OrderSize threads s count (Short sizes) = ⊥
IsSizes OrderOnly threads s count (Each sizes) = ⊥
IsSizes OrderOnly threads s count (Short sizes) = AreShortSizes threads s sizes
IsSizes Picolog threads s count (Each sizes) = ⊥
IsSizes Picolog threads s count (Short sizes) = AreShortSizes threads s sizes

-- interrupts stand by thread, and for one thread by the number of its commits before
abbrev pub IsInterrupt : (threads : ℕ) → Interrupt → Type 0
IsInterrupt threads interrupt = (interrupt.thread < threads) × (interrupt.index < 2 ^ 32) × (interrupt.value < 2 ^ 32)

abbrev pub AreInterrupts : (threads : ℕ) → List Interrupt → Type 0
AreInterrupts threads interrupts =
    IsSection (IsInterrupt threads) (λ x y. ComesBefore x.thread x.index y.thread y.index) interrupts

-- no more bytes than a record may have
abbrev pub AreFewBytes : List ℕ → Type 0
AreFewBytes bytes = (length bytes ≤ most_bytes) × All (λ byte. byte < 256) bytes

-- the four outside calls, and the two device words that can be read
abbrev pub input_kinds : List ℕ
input_kinds = kind_write ∷ kind_read ∷ kind_random ∷ kind_clock ∷ kind_moment ∷ kind_input ∷ []

-- inputs stand in the order of commits, which they don't name
abbrev pub IsInput : Input → Type 0
IsInput input = Contains input_kinds input.kind × (input.result < 2 ^ 32) × AreFewBytes input.bytes

abbrev pub AreInputs : List Input → Type 0
AreInputs inputs = IsSection IsInput (λ x y. Unit {0}) inputs

-- the data of DMAs stand by the indices of their commits
abbrev pub IsDmaRecord : DmaRecord → Type 0
IsDmaRecord dma = (dma.position < 2 ^ 32) × AreFewBytes dma.bytes

abbrev pub AreDmas : List DmaRecord → Type 0
AreDmas dmas = IsSection IsDmaRecord (λ x y. x.position < y.position) dmas

-- the parts are a log's
pub record IsLog (log : LogParts) : Type 0 where
  pub version : IsVersion log.version log.threads
  pub s : IsStandard log.version log.s
  pub count : log.count ≤ 2 ^ 24
  pub order : IsOrder log.mode log.threads log.count log.order
  pub sizes : IsSizes log.mode log.threads log.s log.count log.sizes
  pub interrupts : AreInterrupts log.threads log.interrupts
  pub inputs : AreInputs log.inputs
  pub dmas : AreDmas log.dmas
