-- A run: instruction after instruction, each on the memory with the run's earlier stores laid over it.
use Rattle.std.specs.Prelude.{ℕ, zero, suc, List, [], ◌∷◌, ◌++◌, Option, Some, None}
use Rattle.spec_isa.specs.declared.thread.Parts.{Parts}
use Rattle.spec_isa.specs.declared.thread.Load.{Load}
use Rattle.spec_isa.specs.Words.{Stored, lays, put}
use Rattle.spec_isa.specs.Instruction.{InstructionOutcome, Next, Serial, one}

-- the thread as it is now, the words stored, in the order of each one's first store, the loads in order, and the number of instructions
pub record Run : Type 0 where
  pub thread : Parts
  pub words : List Stored
  pub loads : List Load
  pub n : ℕ

abbrev pub run_start : Parts → Run
run_start t = record { thread = t; words = []; loads = []; n = 0 }

abbrev pub with_load : List Load → Option Load → List Load
with_load ls None = ls
with_load ls (Some l) = ls ++ l ∷ []

abbrev pub with_store : List Stored → Option Stored → List Stored
with_store ss None = ss
with_store ss (Some s) = put ss s

-- a serial instruction is not part of the run
abbrev pub followed : Run → InstructionOutcome → Run
followed r (Serial kind) = r
followed r (Next t load store) =
    record { thread = t; words = with_store r.words store; loads = with_load r.loads load; n = suc r.n }

-- one more instruction
abbrev pub more : List ℕ → Run → Run
more m r = followed r (one r.thread (lays m r.words))

-- up to n instructions
abbrev pub run : List ℕ → Parts → (n : ℕ) → Run
run m t zero = run_start t
run m t (suc n) = more m (run m t n)

-- a commit ends without a reservation
abbrev pub committed : Parts → Parts
committed t = record t { reservation = None }
