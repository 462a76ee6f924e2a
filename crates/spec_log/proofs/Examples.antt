-- Logs of small recordings, and what the definitions make of them.
use Rattle.std.proofs.Common.{◌≡◌, ℕ, true, false, List, [], ◌∷◌, Some, None, refl}
use Rattle.dl_entry.specs.declared.actor.Actor.{Actor}
use Rattle.dl_entry.specs.declared.actor.Actor.TheVariants.{Thread, Dma}
use Rattle.spec_log.specs.declared.mode_name.ModeName.{ModeName}
use Rattle.spec_log.specs.declared.mode_name.ModeName.TheVariants.{OrderSize, OrderOnly, Picolog}
use Rattle.spec_log.specs.declared.sizes.Sizes.{Sizes}
use Rattle.spec_log.specs.declared.sizes.Sizes.TheVariants.{Each, Short}
use Rattle.spec_log.specs.declared.log.LogParts.{LogParts}
use Rattle.spec_log.specs.Bytes.{log_bytes, nibbles}
use Rattle.spec_log.specs.Head.{head}
use Rattle.spec_log.specs.Size.{size_in}

-- a log with standard chunks of 100, and no interrupt, input or DMA
abbrev plain_log : ModeName → ℕ → List Actor → Sizes → LogParts
plain_log mode count order sizes =
    record { version = 1; threads = 15; mode = mode; s = 100; count = count; order = order; sizes = sizes; interrupts = []; inputs = []; dmas = [] }

-- thread 0 runs two instructions and then exits
abbrev exits : LogParts
exits = plain_log OrderSize 2 (Thread 0 ∷ Thread 0 ∷ []) (Each (2 ∷ 0 ∷ []))

-- its bytes in order-size: header, two actors, the sizes 2 and 0, and no other entry
pub exits-bytes : log_bytes exits
    ≡ 0x44 ∷ 0x4C ∷ 0x52 ∷ 0x4E ∷ 1 ∷ 0 ∷ 0 ∷ 0 ∷ 0x64 ∷ 0 ∷ 0 ∷ 0 ∷ 2 ∷ 0 ∷ 0 ∷ 0
    ∷ 2 ∷ 0 ∷ 0 ∷ 0 ∷ 0
    ∷ 2 ∷ 0 ∷ 0 ∷ 0 ∷ 2 ∷ 0 ∷ 0 ∷ 0
    ∷ 0 ∷ 0 ∷ 0 ∷ 0 ∷ 0 ∷ 0 ∷ 0 ∷ 0 ∷ 0 ∷ 0 ∷ 0 ∷ 0 ∷ []
exits-bytes = refl

-- the same in picolog has no order and no size
pub exits_in_turn-bytes : log_bytes (plain_log Picolog 2 [] (Short []))
    ≡ 0x44 ∷ 0x4C ∷ 0x52 ∷ 0x4E ∷ 1 ∷ 2 ∷ 0 ∷ 0 ∷ 0x64 ∷ 0 ∷ 0 ∷ 0 ∷ 2 ∷ 0 ∷ 0 ∷ 0
    ∷ 0 ∷ 0 ∷ 0 ∷ 0 ∷ 0 ∷ 0 ∷ 0 ∷ 0 ∷ 0 ∷ 0 ∷ 0 ∷ 0 ∷ 0 ∷ 0 ∷ 0 ∷ 0 ∷ 0 ∷ 0 ∷ 0 ∷ 0 ∷ []
exits_in_turn-bytes = refl

-- thread 0's first chunk was closed after three instructions
abbrev closes_early : LogParts
closes_early =
    plain_log OrderOnly 3 (Thread 0 ∷ Thread 0 ∷ Thread 0 ∷ []) (Short (record { thread = 0; index = 0; size = 3 } ∷ []))

-- its bytes in order-only: of sizes, just the short one, by thread, index and size
pub closes_early-bytes : log_bytes closes_early
    ≡ 0x44 ∷ 0x4C ∷ 0x52 ∷ 0x4E ∷ 1 ∷ 1 ∷ 0 ∷ 0 ∷ 0x64 ∷ 0 ∷ 0 ∷ 0 ∷ 3 ∷ 0 ∷ 0 ∷ 0
    ∷ 3 ∷ 0 ∷ 0 ∷ 0 ∷ 0 ∷ 0
    ∷ 1 ∷ 0 ∷ 0 ∷ 0 ∷ 0 ∷ 0 ∷ 0 ∷ 0 ∷ 0 ∷ 3 ∷ 0
    ∷ 0 ∷ 0 ∷ 0 ∷ 0 ∷ 0 ∷ 0 ∷ 0 ∷ 0 ∷ 0 ∷ 0 ∷ 0 ∷ 0 ∷ []
closes_early-bytes = refl

-- the first actor of two stands in the low half, and a spare half is 0
pub nibbles-three : nibbles (Thread 1 ∷ Dma ∷ Thread 2 ∷ []) ≡ 0xF1 ∷ 2 ∷ []
nibbles-three = refl

-- two threads and a DMA; the second thread's commits are the second and the fourth
abbrev races : LogParts
races = plain_log OrderSize 4 (Thread 0 ∷ Thread 1 ∷ Dma ∷ Thread 1 ∷ []) (Each (3 ∷ 2 ∷ 0 ∷ 5 ∷ []))

-- a thread's sizes are counted by its own commits: thread 1's second is the log's fourth
pub size_in-second_of_thread : size_in races (Thread 1) 1 ≡ Some 5
size_in-second_of_thread = refl

-- the log has no size past a thread's last commit
pub size_in-past_the_last : size_in races (Thread 1) 2 ≡ None
size_in-past_the_last = refl

-- a DMA's size is found by its position in the log, and is 0
pub size_in-dma : size_in races Dma 2 ≡ Some 0
size_in-dma = refl

-- a chunk that was closed early has the size that its short size says
pub size_in-closed_early : size_in closes_early (Thread 0) 0 ≡ Some 3
size_in-closed_early = refl

-- in order-only a commit that isn't among the short ones has no size
pub size_in-whole : size_in closes_early (Thread 0) 1 ≡ None
size_in-whole = refl

-- in a log with an order the head is the actor that the order has there
pub head-ordered : head races 2 (Some 1) (true ∷ true ∷ []) ≡ Some Dma
head-ordered = refl

-- in picolog the turn goes on from the last thread, over ended ones and round to thread 0; a DMA has its position
abbrev in_turn : LogParts
in_turn = record (plain_log Picolog 9 [] (Short [])) { dmas = record { position = 4; bytes = 0x41 ∷ [] } ∷ [] }

-- before any commit it is the turn of the first live thread
pub head-first_turn : head in_turn 0 None (false ∷ true ∷ true ∷ []) ≡ Some (Thread 1)
head-first_turn = refl

-- the turn passes over a thread that has ended
pub head-next_turn : head in_turn 2 (Some 0) (true ∷ false ∷ true ∷ []) ≡ Some (Thread 2)
head-next_turn = refl

-- after the last thread it is thread 0's turn again
pub head-turn_goes_round : head in_turn 3 (Some 2) (true ∷ false ∷ true ∷ []) ≡ Some (Thread 0)
head-turn_goes_round = refl

-- a thread that is the only live one has the turn again after its own commit
pub head-alone : head in_turn 3 (Some 1) (false ∷ true ∷ []) ≡ Some (Thread 1)
head-alone = refl

-- at a position that a DMA is logged for, the head is the DMA
pub head-dma : head in_turn 4 (Some 1) (true ∷ true ∷ []) ≡ Some Dma
head-dma = refl

-- with no live thread and no DMA logged there, nobody is the head
pub head-none_live : head in_turn 5 (Some 1) (false ∷ false ∷ []) ≡ None
head-none_live = refl
