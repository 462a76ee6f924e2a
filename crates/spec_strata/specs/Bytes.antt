-- The bytes of strata: a header, the runs of commits, and the four sections that a log has after its order. Numbers are low
-- byte first.
use Rattle.std.specs.Prelude.{ℕ, List, [], ◌∷◌, ◌++◌, length}
use Rattle.std.specs.List.{flat_map}
use Rattle.spec_log.specs.Bytes.{u8, u16, u32, section, short_size_bytes, interrupt_bytes, input_bytes, dma_bytes}
use Rattle.spec_strata.specs.declared.stratum.Stratum.{Stratum}
use Rattle.spec_strata.specs.declared.stratum.Stratum.TheVariants.{Chunks, Serial, Dma}
use Rattle.spec_strata.specs.declared.strata.StrataParts.{StrataParts}

-- "DLRS"
abbrev pub magic : List ℕ
magic = 0x44 ∷ 0x4C ∷ 0x52 ∷ 0x53 ∷ []

-- the magic word, the version of the file, the threads that are counted, those that the sphere may have, the standard chunk
-- size and the number of strata
abbrev pub header_bytes : StrataParts → List ℕ
header_bytes v = magic ++ u8 1 ++ u8 v.counted ++ u16 v.threads ++ u32 v.s ++ u32 (length v.strata)

-- chunks have a byte for each thread that is counted, a serial step has its thread
abbrev pub stratum_bytes : Stratum → List ℕ
stratum_bytes (Chunks counts) = u8 0 ++ counts
stratum_bytes (Serial thread) = u8 1 ++ u8 thread
stratum_bytes Dma = u8 2

-- the bytes of all
abbrev pub strata_bytes : StrataParts → List ℕ
strata_bytes v =
    header_bytes v ++ flat_map stratum_bytes v.strata ++ section (short_size_bytes 2) v.sizes
    ++ section interrupt_bytes v.interrupts ++ section input_bytes v.inputs ++ section dma_bytes v.dmas
