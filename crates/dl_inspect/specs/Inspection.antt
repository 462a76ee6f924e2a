-- A log as text: a line for its header, in version 2 one for its threads, and one for each entry of its sections.
use Rattle.std.specs.Prelude.{ℕ, nat_eq, if◌then◌else◌, List, [], ◌∷◌, ◌++◌, length, codes, decimal, flat_map}
use Rattle.std.specs.List.{zip}
use Rattle.dl_entry.specs.Actor.{code}
use Rattle.dl_entry.specs.declared.actor.Actor.{Actor}
use Rattle.dl_entry.specs.declared.input.Input.{Input}
use Rattle.spec_log.specs.declared.log.LogParts.{LogParts}
use Rattle.spec_log.specs.declared.mode_name.ModeName.{ModeName}
use Rattle.spec_log.specs.declared.mode_name.ModeName.TheVariants.{OrderSize, OrderOnly, Picolog}
use Rattle.spec_log.specs.declared.records.DmaRecord.{DmaRecord}
use Rattle.spec_log.specs.declared.records.Interrupt.{Interrupt}
use Rattle.spec_log.specs.declared.sizes.ShortSize.{ShortSize}
use Rattle.spec_log.specs.declared.sizes.Sizes.{Sizes}
use Rattle.spec_log.specs.declared.sizes.Sizes.TheVariants.{Each, Short}
use Rattle.spec_log.specs.Versions.{by_version}
use Rattle.dl_account.specs.Lines.{hex_bytes, hex_word, line, numbered}

abbrev pub mode_word : ModeName → List ℕ
mode_word OrderSize = codes "order-size"
mode_word OrderOnly = codes "order-only"
mode_word Picolog = codes "picolog"

-- `log VERSION MODE S COMMITS`: the version, the mode, the standard chunk size and the number of commits
abbrev pub head_line : LogParts → List ℕ
head_line log = line (codes "log") (decimal log.version ∷ mode_word log.mode ∷ decimal log.s ∷ decimal log.count ∷ [])

-- `threads N`: how many threads the log may have, which version 1 doesn't say
abbrev pub threads_lines : LogParts → List ℕ
threads_lines log = by_version log.version [] (line (codes "threads") (decimal log.threads ∷ []))

-- the sizes, if each commit has one
abbrev pub each_of : Sizes → List ℕ
each_of (Each sizes) = sizes
each_of (Short sizes) = []

-- the sizes, if only commits that were closed early have one
abbrev pub short_of : Sizes → List ShortSize
short_of (Each sizes) = []
short_of (Short sizes) = sizes

-- `p I ACTOR SIZE`
abbrev pub sized_line : ℕ → Actor × ℕ → List ℕ
sized_line position commit =
    line (codes "p") (decimal position ∷ decimal (code commit.0) ∷ decimal commit.1 ∷ [])

-- `p I ACTOR -`
abbrev pub unsized_line : ℕ → Actor → List ℕ
unsized_line position actor = line (codes "p") (decimal position ∷ decimal (code actor) ∷ codes "-" ∷ [])

-- the order's entries by position, in order-size with their sizes; picolog has none
abbrev pub order_lines : ModeName → List Actor → Sizes → List ℕ
order_lines OrderSize order sizes = numbered sized_line 0 (zip order (each_of sizes))
order_lines OrderOnly order sizes = numbered unsized_line 0 order
order_lines Picolog order sizes = []

-- `z THREAD INDEX SIZE`
abbrev pub size_line : ShortSize → List ℕ
size_line short = line (codes "z") (decimal short.thread ∷ decimal short.index ∷ decimal short.size ∷ [])

-- the sizes of commits that were closed early; in order-size the sizes are in the order's lines
abbrev pub size_lines : ModeName → Sizes → List ℕ
size_lines OrderSize sizes = []
size_lines OrderOnly sizes = flat_map size_line (short_of sizes)
size_lines Picolog sizes = flat_map size_line (short_of sizes)

-- `i THREAD INDEX VALUE`
abbrev pub interrupt_line : Interrupt → List ℕ
interrupt_line interrupt =
    line (codes "i") (decimal interrupt.thread ∷ decimal interrupt.index ∷ hex_word interrupt.value ∷ [])

-- no bytes are written as `-`
abbrev pub bytes_word : List ℕ → List ℕ
bytes_word bytes = if nat_eq (length bytes) 0 then codes "-" else hex_bytes bytes

-- `n KIND RESULT HEX`
abbrev pub input_line : Input → List ℕ
input_line input = line (codes "n") (decimal input.kind ∷ hex_word input.result ∷ bytes_word input.bytes ∷ [])

-- `d POSITION HEX`
abbrev pub dma_line : DmaRecord → List ℕ
dma_line dma = line (codes "d") (decimal dma.position ∷ bytes_word dma.bytes ∷ [])

-- the header with its threads, the order, the sizes, the interrupts, the inputs and the DMAs
abbrev pub inspection_of : LogParts → List ℕ
inspection_of log =
    head_line log
    ++ threads_lines log
    ++ order_lines log.mode log.order log.sizes
    ++ size_lines log.mode log.sizes
    ++ flat_map interrupt_line log.interrupts
    ++ flat_map input_line log.inputs
    ++ flat_map dma_line log.dmas
