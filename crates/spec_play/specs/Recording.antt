-- What a recording notes: the log grows by what each commit and each interrupt leaves in it.
use Rattle.std.specs.Prelude.{ℕ, ◌+◌, Bool, List, [], ◌∷◌, ◌++◌, Option, Some, None}
use Rattle.dl_entry.specs.declared.Commit.{Commit}
use Rattle.dl_entry.specs.declared.Input.{Input}
use Rattle.spec_log.specs.declared.ModeName.{ModeName}
use Rattle.spec_log.specs.declared.LogParts.{LogParts}
use Rattle.spec_log.specs.Versions.{new_threads}
use Rattle.spec_log.specs.Noting.{Note, no_sizes, order_with, sizes_at, insert_interrupt}

-- before the first commit
abbrev pub new_log : (version : ℕ) → ModeName → (s : ℕ) → LogParts
new_log version mode s =
    record {
      version = version;
      threads = new_threads version;
      mode = mode;
      s = s;
      count = 0;
      order = [];
      sizes = no_sizes mode;
      interrupts = [];
      inputs = [];
      dmas = [];
    }

-- ---- a commit

abbrev pub note_of : Commit → (short : Bool) → Note
note_of c short = record { actor = c.actor; size = c.size; short = short }

-- one more commit; the index of a thread's commit is the number of that thread's commits before it
abbrev pub noted : Commit → (index : ℕ) → (short : Bool) → LogParts → LogParts
noted c i short log =
    record log {
      count = log.count + 1;
      order = order_with log.mode log.order c.actor;
      sizes = sizes_at log.sizes i (note_of c short);
    }

-- ---- what came from outside

-- the records with one more, if there is one
abbrev pub inputs_with : List Input → Option Input → List Input
inputs_with inputs None = inputs
inputs_with inputs (Some r) = inputs ++ r ∷ []

abbrev pub input_noted : Option Input → LogParts → LogParts
input_noted o log = record log { inputs = inputs_with log.inputs o }

-- the position is the index of the DMA's commit
abbrev pub dma_noted : (position : ℕ) → (bytes : List ℕ) → LogParts → LogParts
dma_noted position bytes log = record log { dmas = log.dmas ++ record { position = position; bytes = bytes } ∷ [] }

-- a thread took an interrupt after that many of its commits
abbrev pub interrupt_noted : (thread commits value : ℕ) → LogParts → LogParts
interrupt_noted k i value log =
    record log { interrupts = insert_interrupt (record { thread = k; index = i; value = value }) log.interrupts }
