-- When a running chunk is current: if no flight of its sphere that its core wasn't told of hits what it has read, it is what its
-- instructions do on the current memory, for a younger chunk with the older's stores over it.
use Rattle.std.specs.Prelude.{◌≡◌, ℕ, Bool, false, List, Option, Some, None}
use Rattle.spec_isa.specs.Runs.{Run, run}
use Rattle.spec_engine.specs.declared.answers.How.{How}
use Rattle.spec_engine.specs.Signatures.{Signature, line, covers, hits}
use Rattle.spec_engine.specs.Flights.{Flight, at, told_at}
use Rattle.spec_engine.specs.Chunks.{Chunk}
use Rattle.spec_play.specs.Touching.{RunTouches}
use Rattle.spec_sphere.specs.promises.Currency.{MeetsSerial, MeetsStore}

-- ---- what is looked at

-- whether a chunk's reads cover a word
abbrev pub seen_by : Chunk → (number : ℕ) → Bool
seen_by ch a = covers ch.reads (line ch.sphere a)

-- ---- a current chunk

-- what comes after a run that was closed so
abbrev pub Meets : (seen : ℕ → Bool) → List ℕ → Run → Option How → Type 0
Meets seen m r None = Unit {0}
Meets seen m r (Some How.Limit) = Unit {0}
Meets seen m r (Some How.Serial) = MeetsSerial seen m r
Meets seen m r (Some How.Overflow) = MeetsStore seen m r
Meets seen m r (Some How.Cut) = Unit {0}

-- on this memory the chunk's instructions, from its start, give what it has, and its reads cover what they fetch and load.
-- Where it was closed before a serial instruction, or before one whose store finds no room, they cover that one's too, and
-- it comes next
pub record IsCurrent (m : List ℕ) (ch : Chunk) : Type 0 where
  pub runs : run m ch.start ch.done.n ≡ ch.done
  pub touches : RunTouches (seen_by ch) m ch.start ch.done.n
  pub next : Meets (seen_by ch) m ch.done ch.closed

-- no flight of sphere i that core c was not told of hits these reads
pub record IsQuiet (slots : List (Option Flight)) (i c : ℕ) (reads : Signature) : Type 0 where
  pub misses : (k : ℕ) (f : Flight) → at slots k ≡ Some f → f.sphere ≡ i → told_at f.told c ≡ false
      → hits f.writes reads ≡ false
