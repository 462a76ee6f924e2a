-- The bytes of a log: a header, and five sections, each a count and its entries. Numbers stand low byte first.
use Rattle.std.specs.Prelude.{ℕ, ◌+◌, ◌*◌, List, [], ◌∷◌, ◌++◌, length, map}
use Rattle.std.specs.Int.{bytes_low_first}
use Rattle.std.specs.List.{flat_map}
use Rattle.dl_entry.specs.Actor.{code}
use Rattle.dl_entry.specs.Numbers.{dma_half}
use Rattle.dl_entry.specs.declared.actor.Actor.{Actor}
use Rattle.dl_entry.specs.declared.actor.Actor.TheVariants.{Thread, Dma}
use Rattle.dl_entry.specs.declared.input.Input.{Input}
use Rattle.spec_log.specs.declared.records.Interrupt.{Interrupt}
use Rattle.spec_log.specs.declared.records.DmaRecord.{DmaRecord}
use Rattle.spec_log.specs.declared.sizes.ShortSize.{ShortSize}
use Rattle.spec_log.specs.declared.sizes.Sizes.{Sizes}
use Rattle.spec_log.specs.declared.sizes.Sizes.TheVariants.{Each, Short}
use Rattle.spec_log.specs.declared.log.LogParts.{LogParts}
use Rattle.spec_log.specs.Mode.{mode_code}
use Rattle.spec_log.specs.Versions.{by_version, size_width}

-- a number in so many bytes, the low one first
abbrev pub little : ℕ → ℕ → List ℕ
little width number = bytes_low_first 0 width number

abbrev pub u8 : ℕ → List ℕ
u8 number = little 1 number

abbrev pub u16 : ℕ → List ℕ
u16 number = little 2 number

abbrev pub u32 : ℕ → List ℕ
u32 number = little 4 number

-- "DLRN"
abbrev pub magic : List ℕ
magic = 0x44 ∷ 0x4C ∷ 0x52 ∷ 0x4E ∷ []

-- version 1 doesn't say how many threads the log may have: it has two zero bytes there
abbrev pub threads_bytes : (version threads : ℕ) → List ℕ
threads_bytes version threads = u16 (by_version version 0 threads)

-- the magic word, the version, the mode, the threads, the standard chunk size and the number of commits
abbrev pub header_bytes : LogParts → List ℕ
header_bytes log =
    magic ++ u8 log.version ++ u8 (mode_code log.mode) ++ threads_bytes log.version log.threads ++ u32 log.s ++ u32 log.count

-- a section is the count of its entries, and then each entry's bytes
abbrev pub section : {X : Type 0} → (X → List ℕ) → List X → List ℕ
section entry entries = u32 (length entries) ++ flat_map entry entries

-- an actor in half a byte: a thread's number, or a DMA's code
abbrev pub half : Actor → ℕ
half (Thread number) = number
half Dma = dma_half

-- two actors to a byte, the first in its low half; a spare half is 0
abbrev pub nibbles : List Actor → List ℕ
nibbles [] = []
nibbles (last ∷ []) = half last ∷ []
nibbles (low ∷ high ∷ rest) = (half low + 16 * half high) ∷ nibbles rest

-- version 1 has half a byte for an actor, version 2 a byte
abbrev pub actor_bytes : (version : ℕ) → List Actor → List ℕ
actor_bytes version order = by_version version (nibbles order) (map code order)

abbrev pub order_bytes : (version : ℕ) → List Actor → List ℕ
order_bytes version order = u32 (length order) ++ actor_bytes version order

abbrev pub size_bytes : (version : ℕ) → ℕ → List ℕ
size_bytes version size = little (size_width version) size

abbrev pub short_size_bytes : (version : ℕ) → ShortSize → List ℕ
short_size_bytes version short = u8 short.thread ++ u32 short.index ++ size_bytes version short.size

abbrev pub sizes_bytes : (version : ℕ) → Sizes → List ℕ
sizes_bytes version (Each sizes) = section (size_bytes version) sizes
sizes_bytes version (Short sizes) = section (short_size_bytes version) sizes

abbrev pub interrupt_bytes : Interrupt → List ℕ
interrupt_bytes interrupt = u8 interrupt.thread ++ u32 interrupt.index ++ u32 interrupt.value

-- bytes follow their number
abbrev pub counted_bytes : List ℕ → List ℕ
counted_bytes bytes = u16 (length bytes) ++ bytes

abbrev pub input_bytes : Input → List ℕ
input_bytes input = u8 input.kind ++ u32 input.result ++ counted_bytes input.bytes

abbrev pub dma_bytes : DmaRecord → List ℕ
dma_bytes dma = u32 dma.position ++ counted_bytes dma.bytes

-- the bytes of a whole log
abbrev pub log_bytes : LogParts → List ℕ
log_bytes log =
    header_bytes log ++ order_bytes log.version log.order ++ sizes_bytes log.version log.sizes
    ++ section interrupt_bytes log.interrupts ++ section input_bytes log.inputs ++ section dma_bytes log.dmas
