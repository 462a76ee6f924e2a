-- What a chunk stores and marks: its words, over the memory below, and the lines that it reads and stores to.
use Rattle.std.specs.Prelude.{◌≡◌, ℕ, List, [], Option, Some, None, IfSome}
use Rattle.spec_isa.specs.Words.{Stored, IsBytes, lays, put}
use Rattle.dl_wbuf.specs.Buffers.{Words}
use Rattle.spec_engine.specs.Signatures.{Signature, nothing, insert, line}

pub record Notes : Type 0 where
  pub sphere : ℕ
  pub words : Words
  pub reads : Signature
  pub writes : Signature

-- with no word and no line
abbrev pub bare : (capacity bits sphere : ℕ) → Notes
bare capacity bits i = record { sphere = i; words = record { capacity = capacity; words = [] }; reads = nothing bits; writes = nothing bits }

-- the same room, emptied, for this sphere
abbrev pub emptied : (sphere : ℕ) → Notes → Notes
emptied i n = bare n.words.capacity n.reads.bits i

-- a word was read, or none
abbrev pub with_read : Option ℕ → Notes → Notes
with_read None n = n
with_read (Some a) n = record n { reads = insert (line n.sphere a) n.reads }

-- a store was made, or none
abbrev pub with_written : Option Stored → Notes → Notes
with_written None n = n
with_written (Some s) n =
    record n { words = record n.words { words = put n.words.words s }; writes = insert (line n.sphere s.number) n.writes }

-- laid over bytes, the words leave bytes
pub record LeaveBytes (words : List Stored) : Type 0 where
  pub each : (m : List ℕ) → IsBytes m → IsBytes (lays m words)

-- the line marked last, if there is one, is marked
abbrev pub IsLast : (last : Option ℕ) → Signature → Type 0
IsLast last g = IfSome last (λ l. insert l g ≡ g)

-- both signatures have one size, and the words are of bytes
pub record AreNotes (words : List Stored) (reads writes : Signature) : Type 0 where
  pub size : writes.bits ≡ reads.bits
  pub bytes : LeaveBytes words
