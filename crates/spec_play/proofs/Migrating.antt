-- A play looks at each field of its log except the version.
use Rattle.std.proofs.Common.{◌≡◌, ℕ, zero, suc, Bool, cond, List, Option, Some, None, refl, ap, ◌∙◌}
use Rattle.std.specs.Prelude.{nat_lt, map, slice_get}
use Rattle.dl_entry.specs.declared.Actor.{Actor}
use Rattle.spec_isa.specs.declared.thread.Parts.{Parts}
use Rattle.spec_isa.specs.declared.thread.Kind.{Kind}
use Rattle.spec_isa.specs.Runs.{Run, run}
use Rattle.spec_log.specs.declared.ModeName.{ModeName}
use Rattle.spec_log.specs.declared.LogParts.{LogParts}
use Rattle.spec_log.specs.Migration.{migrated}
use Rattle.spec_log.specs.Head.{head_in}
use Rattle.spec_log.specs.Size.{size_in}
use Rattle.spec_kernel.specs.Interrupts.{is_live}
use Rattle.spec_kernel.specs.Needs.{next_kind, need}
use Rattle.spec_play.specs.Progress.{Progress, position, with_effect, with_dma, with_dma_used}
use Rattle.spec_play.specs.declared.used.Used.{Used}
use Rattle.spec_play.specs.Turns.{TurnOrEnd, Turn, TurnOfDma, Ended, has_left_over, at_end, turn_of, now_at}
use Rattle.spec_play.specs.Verdicts.{LogVerdict, Goes, Fails, unless, serial_why, TakenRecord, given, served_verdict, chunk_verdict, serial_verdict}
use Rattle.spec_play.specs.Transfers.{DmaVerdict, DmaGoes, DmaFails, dma_verdict}
use Rattle.spec_play.specs.Plays.{Played, opened, with_threads, settled, size_or_standard, thread_verdict, play_thread, dma_settled, play_turn, play_one, plays, play}
use Rattle.spec_play.specs.Migration.{MigrationKeepsPlays}

-- ---- whose turn it is

head_alike : (mode : ModeName) (log : LogParts) (i : ℕ) (last : Option ℕ) (live : List Bool) → head_in mode (migrated log) i last live ≡ head_in mode log i last live
head_alike ModeName.OrderSize log i last live = refl
head_alike ModeName.OrderOnly log i last live = refl
head_alike ModeName.Picolog log i last live = refl

now_alike : (log : LogParts) (p : Progress) (u : Used) (ts : List Parts) → now_at (migrated log) p u ts ≡ now_at log p u ts
unfolding now_at has_left_over
now_alike log p u ts =
    ap (λ (o : Option Actor). cond (nat_lt (position p) log.count) (turn_of (position p) ts o) (at_end (position p) (has_left_over log u ts)))
    (head_alike log.mode log (position p) p.last (map is_live ts))

-- ---- one commit

served_alike : (log : LogParts) (p : Progress) (k : ℕ) (ts : List Parts) (t : Parts) (m : List ℕ) (o : Option TakenRecord) → served_verdict (migrated log) p k ts t m o ≡ served_verdict log p k ts t m o
served_alike log p k ts t m None = refl
served_alike log p k ts t m (Some g) = refl

chunk_alike : (log : LogParts) (p : Progress) (u : Used) (k : ℕ) (r : Run) → chunk_verdict (migrated log) p u k r ≡ chunk_verdict log p u k r
unfolding chunk_verdict
chunk_alike log p u k r = refl

serial_alike : (log : LogParts) (p : Progress) (u : Used) (k : ℕ) (ts : List Parts) (t : Parts) (m : List ℕ) → serial_verdict (migrated log) p u k ts t m ≡ serial_verdict log p u k ts t m
unfolding serial_verdict
serial_alike log p u k ts t m =
    ap (unless (serial_why (size_in log (Actor.Thread k) t.commits))) (served_alike log p k ts t m (given (need t m) (slice_get log.inputs u.inputs) u))

dma_alike : (log : LogParts) (p : Progress) (u : Used) → dma_verdict (migrated log) p u ≡ dma_verdict log p u
unfolding dma_verdict
dma_alike log p u = refl

verdict_alike : (log : LogParts) (y : Played) (k : ℕ) (t : Parts) (o : Option Kind) → thread_verdict (migrated log) y k t o ≡ thread_verdict log y k t o
verdict_alike log y k t None = chunk_alike log y.progress y.used k (run y.memory t (size_or_standard log k t.commits))
verdict_alike log y k t (Some kind) = serial_alike log y.progress y.used k y.threads t y.memory

settled_alike : (log : LogParts) (y : Played) (k : ℕ) (v : LogVerdict) → settled (migrated log) y k v ≡ settled log y k v
settled_alike log y k (Fails why) = refl
settled_alike log y k (Goes e u) =
    ap (λ (now : TurnOrEnd). record (settled log y k (Goes e u)) { now = now }) (now_alike log (with_effect k e y.progress) u (with_threads k e y.threads))

dma_settled_alike : (log : LogParts) (y : Played) (v : DmaVerdict) → dma_settled (migrated log) y v ≡ dma_settled log y v
dma_settled_alike log y (DmaFails why) = refl
dma_settled_alike log y (DmaGoes words) =
    ap (λ (now : TurnOrEnd). record (dma_settled log y (DmaGoes words)) { now = now }) (now_alike log (with_dma y.progress) (with_dma_used y.used) y.threads)

thread_alike : (log : LogParts) (y : Played) (k : ℕ) (o : Option Parts) → play_thread (migrated log) y k o ≡ play_thread log y k o
thread_alike log y k None = refl
thread_alike log y k (Some t) =
    ap (settled (migrated log) y k) (verdict_alike log y k t (next_kind t y.memory)) ∙ settled_alike log y k (thread_verdict log y k t (next_kind t y.memory))

turn_alike : (log : LogParts) (y : Played) (now : TurnOrEnd) → play_turn (migrated log) y now ≡ play_turn log y now
turn_alike log y (Ended how) = refl
turn_alike log y TurnOfDma =
    ap (dma_settled (migrated log) y) (dma_alike log y.progress y.used) ∙ dma_settled_alike log y (dma_verdict log y.progress y.used)
turn_alike log y (Turn k) = thread_alike log y k (slice_get y.threads k)

one_alike : (log : LogParts) (y : Played) → play_one (migrated log) y ≡ play_one log y
unfolding play_one
one_alike log y = turn_alike log y y.now

-- ---- plays

opened_alike : (log : LogParts) (memory : List ℕ) (entry : ℕ) → opened (migrated log) memory entry ≡ opened log memory entry
opened_alike log memory entry =
    let y = opened log memory entry in ap (λ (now : TurnOrEnd). record y { now = now }) (now_alike log y.progress y.used y.threads)

plays_alike : (log : LogParts) (memory : List ℕ) (entry i : ℕ) → plays (migrated log) (opened (migrated log) memory entry) i ≡ plays log (opened log memory entry) i
plays_alike log memory entry zero = opened_alike log memory entry
plays_alike log memory entry (suc i) =
    ap (play_one (migrated log)) (plays_alike log memory entry i) ∙ one_alike log (plays log (opened log memory entry) i)

play_alike : (log : LogParts) (memory : List ℕ) (entry : ℕ) → play (migrated log) memory entry ≡ play log memory entry
play_alike log memory entry = plays_alike log memory entry log.count

-- the play of a log in version 2 is that of the log
pub migration_keeps_plays : MigrationKeepsPlays
migration_keeps_plays =
    record {
      each = plays_alike;
      whole = play_alike;
      fits = λ log memory entry fits. ap (λ (y : Played). y.now) (play_alike log memory entry) ∙ fits;
    }
