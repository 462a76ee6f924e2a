-- What bytes say as strata: their parts, or the first field that isn't good.
use Rattle.std.specs.Prelude.{ℕ, ◌+◌, ◌^◌, ◌==◌, nat_lt, nat_le, Bool, true, ◌&&◌, ◌||◌, List, [], ◌∷◌, ◌++◌, length, Result, Ok, if◌then◌else◌}
use Rattle.dl_entry.specs.Numbers.{least_chunk, most_threads, plain_threads}
use Rattle.spec_log.specs.declared.fault.Fault.{Fault}
use Rattle.spec_log.specs.declared.records.Interrupt.{Interrupt}
use Rattle.spec_log.specs.declared.shape.Shape.{Shape}
use Rattle.spec_log.specs.declared.sizes.ShortSize.{ShortSize}
use Rattle.spec_log.specs.Fields.{Read, Reader, Stage, fails, continues, gives, read, number, raw, passes}
use Rattle.spec_log.specs.Fields.{field, at_most, from_to, one_more, once, listed, all_of}
use Rattle.spec_log.specs.Versions.{most_standard}
use Rattle.spec_log.specs.Reading.{is_earlier, short_size, interrupt, input, dma}
use Rattle.spec_strata.specs.declared.draft.StrataDraft.{StrataDraft}
use Rattle.spec_strata.specs.declared.stratum.Stratum.{Stratum}
use Rattle.spec_strata.specs.declared.stratum.Stratum.TheVariants.{Chunks, Serial, Dma}
use Rattle.spec_strata.specs.declared.strata.StrataParts.{StrataParts}
use Rattle.spec_strata.specs.Strata.{commits_in}

-- Faults of strata: 1 the bytes end inside a field, 2 the magic word, 3 the version, 5 another value out of its range, 6 an
-- entry that doesn't come after the one before it, 7 bytes after the last section.

-- ---- the header

-- "DLRS"
abbrev pub magic : Stage StrataDraft
magic = once (λ d. read (number 4 2 (λ x. x == 0x53524C44)) (λ x. gives d))

-- the version of the file is 1
abbrev pub version : Stage StrataDraft
version = once (λ d. read (number 1 3 (λ x. x == 1)) (λ x. gives d))

abbrev pub counted : Stage StrataDraft
counted = once (λ d. read (field 1 (from_to 1 most_threads)) (λ counted. gives (record d { counted = counted })))

-- the sphere may have at least the threads that are counted
abbrev pub are_threads : (counted threads : ℕ) → Bool
are_threads counted threads = ((threads == plain_threads) || (threads == most_threads)) && nat_le counted threads

abbrev pub threads : Stage StrataDraft
threads = once (λ d. read (field 2 (are_threads d.counted)) (λ threads. gives (record d { threads = threads })))

abbrev pub chunk_size : Stage StrataDraft
chunk_size = once (λ d. read (field 4 (from_to least_chunk (most_standard 2))) (λ s. gives (record d { s = s })))

-- ---- the runs of commits

-- what follows the byte that says which kind of stratum it is
abbrev pub stratum_after : (counted tag : ℕ) → Reader Stratum
stratum_after counted tag =
    if tag == 0 then read (raw counted) (λ counts. gives (Chunks counts))
    else if tag == 1 then read (field 1 (λ thread. nat_lt thread counted)) (λ thread. gives (Serial thread))
    else gives Dma

abbrev pub stratum : (counted : ℕ) → Reader Stratum
stratum counted = read (field 1 (at_most 2)) (stratum_after counted)

-- a stratum has commits, and with them they are not too many
abbrev pub are_commits : (before more : ℕ) → Bool
are_commits before more = nat_lt 0 more && nat_le (before + more) (2 ^ 24)

-- if it doesn't, the fault is at its first byte
abbrev pub next_stratum : StrataDraft → Reader Stratum
next_stratum d bytes start =
    read (stratum d.counted) (λ x. passes (are_commits d.commits (commits_in x)) 5 start x) bytes start

abbrev pub strata : Stage StrataDraft
strata =
    listed (λ d. read (next_stratum d) (λ x.
    gives (record d { strata = d.strata ++ x ∷ []; commits = d.commits + commits_in x })))

-- ---- the sections

-- whether a thread's size or interrupt comes before another
abbrev pub sizes_rise : ShortSize → ShortSize → Bool
sizes_rise x y = is_earlier x.thread x.index y.thread y.index

abbrev pub interrupts_rise : Interrupt → Interrupt → Bool
interrupts_rise x y = is_earlier x.thread x.index y.thread y.index

-- entries are as in a log of version 2, of the threads that are counted
abbrev pub shape_of : StrataDraft → Shape
shape_of d = record { version = 2; threads = d.counted; s = d.s }

abbrev pub sizes : Stage StrataDraft
sizes =
    listed (λ d. read (one_more sizes_rise (short_size (shape_of d)) d.sizes) (λ sizes.
    gives (record d { sizes = sizes })))

abbrev pub interrupts : Stage StrataDraft
interrupts =
    listed (λ d. read (one_more interrupts_rise (interrupt (shape_of d)) d.interrupts) (λ interrupts.
    gives (record d { interrupts = interrupts })))

abbrev pub inputs : Stage StrataDraft
inputs = listed (λ d. read (one_more (λ x y. true) input d.inputs) (λ inputs. gives (record d { inputs = inputs })))

abbrev pub dmas : Stage StrataDraft
dmas =
    listed (λ d. read (one_more (λ x y. nat_lt x.position y.position) dma d.dmas) (λ dmas.
    gives (record d { dmas = dmas })))

-- ---- all of them

abbrev pub stages : List (Stage StrataDraft)
stages =
    magic ∷ version ∷ counted ∷ threads ∷ chunk_size ∷ strata ∷ sizes ∷ interrupts ∷ inputs ∷ dmas ∷ []

-- nothing was read
abbrev pub blank : StrataDraft
blank =
    record {
      counted = 0;
      threads = 0;
      s = 0;
      strata = [];
      commits = 0;
      sizes = [];
      interrupts = [];
      inputs = [];
      dmas = [];
    }

-- the strata that were read
abbrev pub strata_of : StrataDraft → StrataParts
strata_of d =
    record {
      counted = d.counted;
      threads = d.threads;
      s = d.s;
      strata = d.strata;
      sizes = d.sizes;
      interrupts = d.interrupts;
      inputs = d.inputs;
      dmas = d.dmas;
    }

-- strata, after which nothing follows
abbrev pub ended : List ℕ → Result (Read StrataDraft) Fault → Result StrataParts Fault
ended bytes reading =
    continues reading (λ d after. if nat_lt after (length bytes) then fails 7 after else Ok (strata_of d))

abbrev pub read_of : List ℕ → Result StrataParts Fault
read_of bytes = ended bytes (all_of stages blank bytes 0)
