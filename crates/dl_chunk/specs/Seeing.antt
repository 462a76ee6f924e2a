-- What a chunk sees of the memory that it lies over, and what one instruction leaves.
use Rattle.std.specs.Prelude.{◌≡◌, ℕ, List, Option}
use Rattle.spec_isa.specs.declared.thread.Parts.{Parts}
use Rattle.spec_isa.specs.Words.{lays}
use Rattle.spec_isa.specs.Instruction.{loads_of}
use Rattle.dl_wbuf.specs.Buffers.{has_room}
use Rattle.dl_thread.specs.declared.answer.Did.{Did}
use Rattle.dl_thread.specs.Sight.{Sight}
use Rattle.dl_thread.specs.Answer.{fetched_word, fetch_read, load_read, store_laid, store_made}
use Rattle.spec_engine.specs.Signatures.{line}
use Rattle.spec_engine.specs.Flights.{Flight, Flights, first_slot, bounces}
use Rattle.dl_chunk.specs.Stores.{Notes, with_read, with_written}

-- the memory with the chunk's words over it; a word whose line hits a flight that the core was told of is held up by the least
abbrev pub shown : (memory : List ℕ) → List (Option Flight) → (core : ℕ) → Notes → Sight
shown m slots c n =
    record {
      bytes = lays m n.words.words;
      held = λ a. first_slot (bounces c (line n.sphere a)) slots;
      room = λ a. has_room n.words a;
    }

-- what the instruction leaves stored and marked
abbrev pub left : Sight → Parts → Did → Notes → Notes
left s t d n =
    with_written (store_laid d (store_made s t)) (with_read (load_read d (loads_of t (fetched_word s t))) (with_read (fetch_read s t) n))

-- the memory, the flights, the core, and the reference to what is stored and marked
pub record IsSame (m n : List ℕ) (f g : Flights) (c d name other : ℕ) : Type 0 where
  pub memory : n ≡ m
  pub flights : g ≡ f
  pub core : d ≡ c
  pub store : other ≡ name
