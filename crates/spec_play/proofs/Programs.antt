-- The small programs of the examples.
use Rattle.std.specs.Prelude.{ℕ, ◌-◌, List, [], ◌∷◌, ◌++◌, length, replicate}
use Rattle.std.specs.Int.{bytes_low_first}

-- words of code, from address 0 on
abbrev pub bytes_of : List ℕ → List ℕ
bytes_of [] = []
bytes_of (w ∷ ws) = bytes_low_first 0 4 w ++ bytes_of ws

-- code in a memory of that many bytes
abbrev pub image : (size : ℕ) → List ℕ → List ℕ
image size ws = let bytes = bytes_of ws in bytes ++ replicate (size - length bytes) 0

-- two instructions, and the call that ends the thread
abbrev pub exits_code : List ℕ
exits_code = bytes_of (0x00000893 ∷ 0x00700513 ∷ 0x00000073 ∷ [])

-- one instruction, and the call that asks for the moment
abbrev pub clock_code : List ℕ
clock_code = bytes_of (0x00500893 ∷ 0x00000073 ∷ [])

-- the call that asks for 4 bytes at 16, after its arguments and before 8 bytes
abbrev pub dma_code : List ℕ
dma_code = image 24 (0x00800893 ∷ 0x01000513 ∷ 0x00400593 ∷ 0x00000073 ∷ [])

-- the call that sets a handler at 20; after it, and in the handler, jumps to themselves
abbrev pub handler_code : List ℕ
handler_code = bytes_of (0x00600893 ∷ 0x01400513 ∷ 0x00000073 ∷ 0x0000006F ∷ 0x00000013 ∷ 0x0000006F ∷ [])

-- the call that sets a handler at 20, the call that ends the thread, and the handler
abbrev pub handler_exits_code : List ℕ
handler_exits_code = bytes_of (0x00600893 ∷ 0x01400513 ∷ 0x00000073 ∷ 0x00000893 ∷ 0x00000073 ∷ 0x0000006F ∷ [])
