-- What a recorder keeps.
use Rattle.std.specs.Prelude.{◌≡◌, ℕ, ◌+◌, ◌==◌, ◌&&◌, find, ◌^◌, ◌<◌, ◌≤◌, Bool, true, List, [], ◌∷◌, ◌++◌, All, length, Option}
use Rattle.std.specs.Prelude.{Some, None, slice_index}
use Rattle.dl_entry.specs.declared.input.Input.{Input}
use Rattle.dl_entry.specs.declared.commit.Commit.{Commit}
use Rattle.spec_log.specs.declared.mode_name.ModeName.{ModeName}
use Rattle.spec_log.specs.declared.records.Interrupt.{Interrupt}
use Rattle.spec_log.specs.declared.records.DmaRecord.{DmaRecord}
use Rattle.spec_log.specs.declared.sizes.ShortSize.{ShortSize}
use Rattle.spec_log.specs.declared.sizes.Sizes.{Sizes}
use Rattle.spec_log.specs.declared.sizes.Sizes.TheVariants.{Each, Short}
use Rattle.spec_log.specs.Log.{IsActor, IsLog}
use Rattle.spec_log.specs.Versions.{new_threads}
use Rattle.spec_log.specs.Noting.{Kept, log_of}
use Rattle.spec_play.specs.Epochs.{Epochs}
use Rattle.spec_play.specs.Noted.{Recorded}
use Rattle.dl_record.specs.Epochs.{InEpochs, base, base_inputs}

-- the version, what is kept of the commits, the records, the epochs if it is in epochs, and whether there is room for one commit
-- with its records, for one interrupt and for one epoch
pub record Recording : Type 0 where
  pub version : ℕ
  pub kept : Kept
  pub interrupts : List Interrupt
  pub inputs : List Input
  pub dmas : List DmaRecord
  pub epochs : Option Epochs
  pub room : Bool
  pub interrupt_room : Bool
  pub epoch_room : Bool

-- how many commits were noted, those that were given up among them
abbrev pub commits_in : Recording → ℕ
commits_in r = base r.epochs + r.kept.count

abbrev pub inputs_in : Recording → ℕ
inputs_in r = base_inputs r.epochs + length r.inputs

-- what is recorded, in a mode
abbrev pub recorded_in : ModeName → Recording → Recorded
recorded_in mode r =
    record { version = r.version; mode = mode; kept = r.kept; interrupts = r.interrupts; inputs = r.inputs; dmas = r.dmas }

abbrev pub in_epochs : ModeName → Recording → InEpochs
in_epochs mode r = record { recorded = recorded_in mode r; epochs = r.epochs }

-- a commit that can be noted: of an actor of a log of the version, no larger than a standard chunk, over 0 if it is short,
-- and with fewer than 2^24 commits before it
pub record CanCommit (version : ℕ) (kept : Kept) (commit : Commit) (short : Bool) : Type 0 where
  pub actor : IsActor (new_threads version) commit.actor
  pub size : commit.size ≤ kept.s
  pub over : short ≡ true → 1 ≤ commit.size
  pub few : kept.count < 2 ^ 24

-- the inputs with that of a commit, if it took one
abbrev pub with_input : List Input → Option Input → List Input
with_input inputs None = inputs
with_input inputs (Some input) = inputs ++ input ∷ []

-- the data of DMAs with those of the commit at a position, if it is one
abbrev pub with_dma : List DmaRecord → ℕ → Option (List ℕ) → List DmaRecord
with_dma dmas position None = dmas
with_dma dmas position (Some bytes) = dmas ++ record { position = position; bytes = bytes } ∷ []

abbrev pub short_sizes : Sizes → List ShortSize
short_sizes (Each sizes) = []
short_sizes (Short sizes) = sizes

-- what a recorder holds together that gave up so many commits and inputs: a log, and no more of anything than there were commits
pub record IsRecording (version : ℕ) (mode : ModeName) (past past_inputs : ℕ) (kept : Kept) (interrupts : List Interrupt)
    (inputs : List Input) (dmas : List DmaRecord) : Type 0 where
  pub log : IsLog (log_of version (new_threads version) mode kept interrupts inputs dmas)
  pub few : past + kept.count ≤ 2 ^ 24
  pub done : (t : ℕ) → slice_index kept.done t ≤ past + kept.count
  pub sizes : length (short_sizes kept.sizes) ≤ past + kept.count
  pub few_inputs : past_inputs + length inputs ≤ past + kept.count
  pub few_dmas : length dmas ≤ past + kept.count
  pub positions : All (λ dma. dma.position < past + kept.count) dmas

-- no interrupt of this moment is kept
abbrev pub IsFresh : List Interrupt → ℕ → ℕ → Type 0
IsFresh interrupts thread index = find (λ i. (i.thread == thread) && (i.index == index)) interrupts ≡ None

abbrev pub interrupt : ℕ → ℕ → ℕ → Interrupt
interrupt thread index value = record { thread = thread; index = index; value = value }
