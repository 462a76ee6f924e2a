-- What a recorder keeps and the log of a recording are the same: a commit, a record or an interrupt makes them grow alike.
use Rattle.std.specs.Prelude.{◌≡◌, ℕ, Bool, false, List, [], ◌∷◌, ◌++◌, Some}
use Rattle.dl_entry.specs.declared.Commit.{Commit}
use Rattle.dl_entry.specs.declared.Input.{Input}
use Rattle.spec_log.specs.declared.ModeName.{ModeName}
use Rattle.spec_log.specs.declared.Interrupt.{Interrupt}
use Rattle.spec_log.specs.declared.DmaRecord.{DmaRecord}
use Rattle.spec_log.specs.declared.LogParts.{LogParts}
use Rattle.spec_log.specs.Versions.{new_threads}
use Rattle.spec_log.specs.Noting.{Kept, nothing_kept, noted as kept_with, index_of, insert_interrupt, log_of}
use Rattle.spec_play.specs.Effects.{dma_commit}
use Rattle.spec_play.specs.Recording.{new_log, note_of, noted, input_noted, dma_noted, interrupt_noted}

-- what a recorder keeps in a version and a mode: what it needs of the commits, and the records
pub record Recorded : Type 0 where
  pub version : ℕ
  pub mode : ModeName
  pub kept : Kept
  pub interrupts : List Interrupt
  pub inputs : List Input
  pub dmas : List DmaRecord

-- as a log
abbrev pub as_log : Recorded → LogParts
as_log r = log_of r.version (new_threads r.version) r.mode r.kept r.interrupts r.inputs r.dmas

-- nothing yet
abbrev pub nothing_recorded : (version : ℕ) → ModeName → (s : ℕ) → Recorded
nothing_recorded version mode s =
    record { version = version; mode = mode; kept = nothing_kept mode s; interrupts = []; inputs = []; dmas = [] }

-- with one more of each
abbrev pub commit_kept : Commit → (short : Bool) → Recorded → Recorded
commit_kept c short r = record r { kept = kept_with r.mode r.kept (note_of c short) }

abbrev pub interrupt_kept : (thread commits value : ℕ) → Recorded → Recorded
interrupt_kept k i value r =
    record r { interrupts = insert_interrupt (record { thread = k; index = i; value = value }) r.interrupts }

abbrev pub input_kept : Input → Recorded → Recorded
input_kept input r = record r { inputs = r.inputs ++ input ∷ [] }

abbrev pub data_kept : (position : ℕ) → (bytes : List ℕ) → Recorded → Recorded
data_kept position bytes r = record r { dmas = r.dmas ++ record { position = position; bytes = bytes } ∷ [] }

-- the log grows as what is kept does
pub record GrowsAlike (r : Recorded) : Type 0 where
  -- the index of a thread's commit is the number of its commits that are kept
  pub commit : (c : Commit) (short : Bool)
      → as_log (commit_kept c short r) ≡ noted c (index_of r.kept.done c.actor) short (as_log r)
  -- a DMA's index makes no difference
  pub dma_commit : (i : ℕ)
      → as_log (commit_kept dma_commit false r) ≡ noted dma_commit i false (as_log r)
  pub interrupt : (k i value : ℕ)
      → as_log (interrupt_kept k i value r) ≡ interrupt_noted k i value (as_log r)
  pub input : (input : Input) → as_log (input_kept input r) ≡ input_noted (Some input) (as_log r)
  pub dma : (position : ℕ) (bytes : List ℕ)
      → as_log (data_kept position bytes r) ≡ dma_noted position bytes (as_log r)

pub record RecordersKeepLogs : Type 0 where
  pub first : (version : ℕ) (mode : ModeName) (s : ℕ) → as_log (nothing_recorded version mode s) ≡ new_log version mode s
  pub grows : (r : Recorded) → GrowsAlike r
