-- A memory that is only looked at.
use Rattle.std.specs.Prelude.{◌≡◌, ℕ, false, List, Option, Some, None}
use Rattle.spec_isa.specs.Words.{Stored}
use Rattle.spec_isa.specs.declared.thread.Kind.{Kind}
use Rattle.dl_thread.specs.Sight.{Sight}
use Rattle.dl_thread.specs.declared.answer.Did.{Did}
use Rattle.dl_kernel.specs.declared.peek.Peek.{Peek}

-- no flight holds a word up, and there is room for no store
abbrev pub sight_of : List ℕ → Sight
sight_of m = record { bytes = m; held = λ _. None; room = λ _. false }

abbrev pub peek_sight : Peek → Sight
peek_sight p = sight_of p.memory.now

abbrev pub ReadBy : Peek → (number : ℕ) → Peek → Type 0
ReadBy p a after = after ≡ p

-- nothing is stored
abbrev pub WrittenBy : Peek → Stored → Peek → Type 0
WrittenBy p b after = after ≡ p

-- why an instruction was not run, if it is serial
abbrev pub serial_kind : Did → Option Kind
serial_kind (Did.Next load) = None
serial_kind (Did.Serial kind) = Some kind
serial_kind Did.NoRoom = None
serial_kind (Did.Bounced k) = None
