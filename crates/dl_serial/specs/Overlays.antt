-- A memory with a chunk's own stores over it.
use Rattle.std.specs.Prelude.{◌≡◌, ℕ, List, Option, None, Some}
use Rattle.spec_isa.specs.Words.{Stored, lays, put}
use Rattle.dl_wbuf.specs.Buffers.{Words, has_room}
use Rattle.dl_thread.specs.Sight.{Sight}

-- no flight holds it up, and there is room where the buffer has it
abbrev pub sight_of : (memory : List ℕ) → Words → Sight
sight_of m ws = record { bytes = lays m ws.words; held = λ _. None; room = λ a. has_room ws a }

-- a store goes to the buffer
abbrev pub with_word : Words → Stored → Words
with_word ws b = record ws { words = put ws.words b }

abbrev pub with_store : Words → Option Stored → Words
with_store ws None = ws
with_store ws (Some b) = with_word ws b

-- the memory, and the reference to the words
pub record IsSame (m n : List ℕ) (name other : ℕ) : Type 0 where
  pub memory : n ≡ m
  pub words : other ≡ name
