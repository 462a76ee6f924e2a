-- The outcome over a view of carrying out an operation that is not serial.
use Rattle.std.specs.Prelude.{ℕ, List, Option, None}
use Rattle.spec_isa.specs.declared.thread.Parts.{Parts}
use Rattle.spec_isa.specs.declared.operation.Operation.{Operation}
use Rattle.spec_isa.specs.Words.{Stored}
use Rattle.spec_isa.specs.Instruction.{value_at}
use Rattle.spec_isa.specs.Operations.{word_loaded, thread_then, load_then, store_then}
use Rattle.dl_thread.specs.declared.answer.Did.{Did}
use Rattle.dl_thread.specs.Sight.{Sight}
use Rattle.dl_thread.specs.Answer.{accessed, load_read, store_laid, with_store, Seen}

-- the word that it loads, 0 if it loads none
abbrev pub word_for : Sight → Operation → ℕ
word_for s p = value_at s.bytes (word_loaded p)

abbrev pub store_for : Sight → Operation → Parts → Option Stored
store_for s p t = store_then p t (word_for s p)

abbrev pub thread_for : Sight → Operation → Parts → Parts
thread_for s p t = thread_then p t (word_for s p)

abbrev pub bytes_for : Sight → Operation → Parts → List ℕ
bytes_for s p t = with_store s.bytes (store_for s p t)

abbrev pub did_for : Sight → Operation → Parts → Did
did_for s p t = accessed s (word_loaded p) (load_then p (word_for s p)) (store_for s p t)

abbrev pub SeesFor : {V : Type 0} → (V → ℕ → V → Type 0) → (V → Stored → V → Type 0) → Sight → Operation → Parts → Did → V → V → Type 0
SeesFor Read Wrote s p t d v w = Seen Read Wrote None (load_read d (word_loaded p)) (store_laid d (store_for s p t)) v w
