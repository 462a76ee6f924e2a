-- What a commit of a thread leaves, before any log has a say.
use Rattle.std.specs.Prelude.{ℕ, ◌+◌, List, [], map, Option, None}
use Rattle.dl_entry.specs.declared.Actor.{Actor}
use Rattle.dl_entry.specs.declared.Commit.{Commit}
use Rattle.dl_entry.specs.declared.CommitKind.{CommitKind}
use Rattle.dl_entry.specs.declared.Load.{Load as EntryLoad}
use Rattle.dl_entry.specs.declared.Output.{Output}
use Rattle.dl_entry.specs.declared.Request.{Request}
use Rattle.spec_isa.specs.declared.thread.Parts.{Parts}
use Rattle.spec_isa.specs.declared.thread.Load.{Load}
use Rattle.spec_isa.specs.Words.{Stored}
use Rattle.spec_isa.specs.Runs.{Run}
use Rattle.spec_kernel.specs.Serving.{StepResult}

-- the thread, the threads that it spawned, the words to be stored, the outstanding DMA request, and the commit as
-- accounts tell it
pub record Effect : Type 0 where
  pub thread : Parts
  pub spawned : List Parts
  pub words : List Stored
  pub request : Option Request
  pub commit : Commit

-- the end of a thread's commit: its reservation is gone, and it counts one more commit
abbrev pub counted : Parts → Parts
counted t = record t { reservation = None; commits = t.commits + 1 }

-- a load as accounts tell it
abbrev pub entry_of : Load → EntryLoad
entry_of l = record { address = l.addr; value = l.value }

abbrev pub chunk_commit : (thread : ℕ) → Run → Commit
chunk_commit k r =
    record { actor = Actor.Thread k; kind = CommitKind.Chunk; size = r.n; loads = map entry_of r.loads; outputs = [] }

-- of a chunk of thread k, which is a run
abbrev pub chunk_effect : (thread : ℕ) → Option Request → Run → Effect
chunk_effect k request r =
    record { thread = counted r.thread; spawned = []; words = r.words; request = request; commit = chunk_commit k r }

abbrev pub serial_commit : (thread : ℕ) → List EntryLoad → List Output → Commit
serial_commit k loads outputs =
    record { actor = Actor.Thread k; kind = CommitKind.Serial; size = 0; loads = loads; outputs = outputs }

-- of a serial step of thread k
abbrev pub serial_effect : (thread : ℕ) → StepResult → Effect
serial_effect k v =
    record {
      thread = counted v.thread;
      spawned = v.spawned;
      words = v.words;
      request = v.request;
      commit = serial_commit k v.loads v.outputs;
    }

-- a DMA, which has no size
abbrev pub dma_commit : Commit
dma_commit = record { actor = Actor.Dma; kind = CommitKind.Dma; size = 0; loads = []; outputs = [] }
