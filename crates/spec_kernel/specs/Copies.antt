-- The words that the kernel and a DMA store, in rising order of their addresses.
use Rattle.std.specs.Prelude.{ℕ, ◌+◌, List, [], ◌∷◌, ◌++◌, length}
use Rattle.std.specs.Int.{bytes_low_first}
use Rattle.dl_entry.specs.declared.Request.{Request}
use Rattle.spec_isa.specs.Words.{Stored, put}
use Rattle.spec_isa.specs.Operations.{stored}

-- the words stored so far, and then these bytes from an address on, one after the other
unfoldable pub bytes_put : List Stored → (addr : ℕ) → List ℕ → List Stored
bytes_put words a [] = words
bytes_put words a (b ∷ bytes) = bytes_put (put words (stored 1 a b)) (a + 1) bytes

-- a copy of these bytes to an address
abbrev pub copied : (addr : ℕ) → List ℕ → List Stored
copied a bytes = bytes_put [] a bytes

-- a DMA stores the number of its bytes in the first word of the request's buffer, and the bytes after it
abbrev pub dma_words : Request → List ℕ → List Stored
dma_words request bytes = copied request.buf (bytes_low_first 0 4 (length bytes) ++ bytes)
