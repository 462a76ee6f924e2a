-- One instruction. Of memory it sees only the word that it fetches, f, and one word that it may load, w.
use Rattle.std.specs.Prelude.{ℕ, ◌/◌, List, length, Option, Some, None, if◌then◌else◌}
use Rattle.spec_isa.specs.declared.instr.Instr.{Instr}
use Rattle.spec_isa.specs.declared.thread.Parts.{Parts}
use Rattle.spec_isa.specs.declared.thread.Load.{Load}
use Rattle.spec_isa.specs.declared.thread.Kind.{Kind}
use Rattle.spec_isa.specs.declared.operation.Operation.{Operation}
use Rattle.spec_isa.specs.Numbers.{fetch_outside, illegal}
use Rattle.spec_isa.specs.Denoted.{denoted}
use Rattle.spec_isa.specs.Words.{Stored, read, is_inside}
use Rattle.spec_isa.specs.Operations.{operation, refuses, word_loaded, thread_then, load_then, store_then}

-- a word outside the table is illegal
abbrev pub operation_found : Option Instr → Parts → Operation
operation_found None t = Operation.Stop (Kind.Fault illegal)
operation_found (Some i) t = operation i t

abbrev pub operation_of : Parts → (f : ℕ) → Operation
operation_of t f = operation_found (denoted f) t

-- why the instruction is serial, or none if it is run; a fetch outside memory faults
unfoldable pub serial_of : Parts → (f size : ℕ) → Option Kind
serial_of t f size = if is_inside size t.pc then refuses size (operation_of t f) else Some (Kind.Fault fetch_outside)

-- the number of the word that it loads
unfoldable pub loads_of : Parts → (f : ℕ) → Option ℕ
loads_of t f = word_loaded (operation_of t f)

unfoldable pub next_of : Parts → (f w : ℕ) → Parts
next_of t f w = thread_then (operation_of t f) t w

unfoldable pub load_of : Parts → (f w : ℕ) → Option Load
load_of t f w = load_then (operation_of t f) w

unfoldable pub store_of : Parts → (f w : ℕ) → Option Stored
store_of t f w = store_then (operation_of t f) t w

-- the outcome of an instruction
pub data InstructionOutcome : Type 0 where
  Next : (thread : Parts) (load : Option Load) (store : Option Stored) → InstructionOutcome
  Serial : (kind : Kind) → InstructionOutcome

abbrev pub unless : Option Kind → InstructionOutcome → InstructionOutcome
unless None outcome = outcome
unless (Some kind) outcome = Serial kind

-- the word of that number, or 0 if there is none
abbrev pub value_at : List ℕ → Option ℕ → ℕ
value_at m None = 0
value_at m (Some a) = read m a

abbrev pub outcome_with : Parts → (f w size : ℕ) → InstructionOutcome
outcome_with t f w size = unless (serial_of t f size) (Next (next_of t f w) (load_of t f w) (store_of t f w))

-- one instruction of a thread on a memory
unfoldable pub one : Parts → List ℕ → InstructionOutcome
one t m = let f = read m (t.pc / 4) in outcome_with t f (value_at m (loads_of t f)) (length m)
