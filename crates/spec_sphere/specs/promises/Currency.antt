-- What comes after the run of a chunk that was closed early: a serial instruction, or a store to one word more.
use Rattle.std.specs.Prelude.{◌≡◌, ℕ, Bool, false, List, Option, Some, IsSome}
use Rattle.spec_isa.specs.declared.thread.Parts.{Parts}
use Rattle.spec_isa.specs.declared.thread.Load.{Load}
use Rattle.spec_isa.specs.Words.{Stored, lays, holds}
use Rattle.spec_isa.specs.Instruction.{Next, one}
use Rattle.spec_isa.specs.Runs.{Run}
use Rattle.spec_kernel.specs.Needs.{next_kind}
use Rattle.spec_play.specs.Touching.{Touches}

-- on this memory the next instruction of a thread is run, and stores to a word that is not among these
pub record StoresAnew (t : Parts) (m : List ℕ) (ws : List Stored) : Type 0 where
  pub thread : Parts
  pub load : Option Load
  pub store : Stored
  pub next : one t m ≡ Next thread load (Some store)
  pub new : holds ws store.number ≡ false

-- after a run a serial instruction comes next, of which everything is seen
pub record MeetsSerial (seen : ℕ → Bool) (m : List ℕ) (r : Run) : Type 0 where
  pub touches : Touches seen r.thread (lays m r.words)
  pub serial : IsSome (next_kind r.thread (lays m r.words))

-- so does one whose store is of a word that the run hasn't stored
pub record MeetsStore (seen : ℕ → Bool) (m : List ℕ) (r : Run) : Type 0 where
  pub touches : Touches seen r.thread (lays m r.words)
  pub anew : StoresAnew r.thread (lays m r.words) r.words
