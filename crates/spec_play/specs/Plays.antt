-- A log played on a memory, one whole commit at a time.
use Rattle.std.specs.Prelude.{◌≡◌, ℕ, zero, suc, List, [], ◌∷◌, ◌++◌, slice_get, slice_set, Option, Some, None}
use Rattle.dl_entry.specs.declared.Actor.{Actor}
use Rattle.dl_entry.specs.declared.End.{End}
use Rattle.spec_isa.specs.declared.thread.Parts.{Parts}
use Rattle.spec_isa.specs.declared.thread.Kind.{Kind}
use Rattle.spec_isa.specs.Words.{lays}
use Rattle.spec_isa.specs.Runs.{run}
use Rattle.spec_isa.specs.Threads.{started}
use Rattle.spec_log.specs.declared.LogParts.{LogParts}
use Rattle.spec_log.specs.Size.{size_in}
use Rattle.spec_kernel.specs.Needs.{next_kind}
use Rattle.spec_play.specs.Effects.{Effect}
use Rattle.spec_play.specs.Progress.{Progress, no_progress, position, with_effect, with_dma, nothing_used, with_dma_used}
use Rattle.spec_play.specs.declared.used.Used.{Used}
use Rattle.spec_play.specs.Turns.{TurnOrEnd, Turn, TurnOfDma, Ended, now_at}
use Rattle.spec_play.specs.Verdicts.{LogVerdict, Goes, Fails, chunk_verdict, serial_verdict}
use Rattle.spec_play.specs.Transfers.{DmaVerdict, DmaGoes, DmaFails, dma_verdict}

-- the state of a play between two commits
pub record Played : Type 0 where
  pub memory : List ℕ
  pub threads : List Parts
  pub progress : Progress
  pub used : Used
  pub now : TurnOrEnd

-- before the first commit: a memory, and thread 0 alone at an entry
abbrev pub opened : LogParts → (memory : List ℕ) → (entry : ℕ) → Played
opened log memory entry =
    let threads = started entry ∷ [] in
    record {
      memory = memory;
      threads = threads;
      progress = no_progress;
      used = nothing_used;
      now = now_at log no_progress nothing_used threads;
    }

-- ---- one commit

-- thread k is now as the effect says, and the spawned threads come after all others
abbrev pub with_threads : (thread : ℕ) → Effect → List Parts → List Parts
with_threads k e threads = slice_set threads k e.thread ++ e.spawned

abbrev pub settled : LogParts → Played → (thread : ℕ) → LogVerdict → Played
settled log y k (Fails why) = record y { now = Ended (End.Diverged (position y.progress) why) }
settled log y k (Goes e u) =
    let threads = with_threads k e y.threads in
    let progress = with_effect k e y.progress in
    record {
      memory = lays y.memory e.words;
      threads = threads;
      progress = progress;
      used = u;
      now = now_at log progress u threads;
    }

-- the size of a commit, or the standard size if none is logged
abbrev pub size_or_standard : LogParts → (thread commits : ℕ) → ℕ
size_or_standard log k commits = elim (size_in log (Actor.Thread k) commits) [ None ↦ log.s | Some z ↦ z ]

-- the serial step of thread k, which is t, if its next instruction is serial; else as many instructions as are logged
abbrev pub thread_verdict : LogParts → Played → (thread : ℕ) → Parts → Option Kind → LogVerdict
thread_verdict log y k t (Some kind) = serial_verdict log y.progress y.used k y.threads t y.memory
thread_verdict log y k t None =
    chunk_verdict log y.progress y.used k (run y.memory t (size_or_standard log k t.commits))

abbrev pub play_thread : LogParts → Played → (thread : ℕ) → Option Parts → Played
play_thread log y k None = y
play_thread log y k (Some t) = settled log y k (thread_verdict log y k t (next_kind t y.memory))

abbrev pub dma_settled : LogParts → Played → DmaVerdict → Played
dma_settled log y (DmaFails why) = record y { now = Ended (End.Diverged (position y.progress) why) }
dma_settled log y (DmaGoes words) =
    let progress = with_dma y.progress in
    let used = with_dma_used y.used in
    record {
      memory = lays y.memory words;
      threads = y.threads;
      progress = progress;
      used = used;
      now = now_at log progress used y.threads;
    }

abbrev pub play_turn : LogParts → Played → TurnOrEnd → Played
play_turn log y (Ended how) = y
play_turn log y TurnOfDma = dma_settled log y (dma_verdict log y.progress y.used)
play_turn log y (Turn k) = play_thread log y k (slice_get y.threads k)

-- one more commit, or the end if that diverges; a play that has ended stays as it is
unfoldable pub play_one : LogParts → Played → Played
play_one log y = play_turn log y y.now

-- ---- the play

-- after i commits
abbrev pub plays : LogParts → Played → (i : ℕ) → Played
plays log y zero = y
plays log y (suc i) = play_one log (plays log y i)

-- all of it
abbrev pub play : LogParts → (memory : List ℕ) → (entry : ℕ) → Played
play log memory entry = plays log (opened log memory entry) log.count

-- a log fits an image if its play there is complete
abbrev pub FitsImage : LogParts → (memory : List ℕ) → (entry : ℕ) → Type 0
FitsImage log memory entry = (play log memory entry).now ≡ Ended (End.Complete log.count)
