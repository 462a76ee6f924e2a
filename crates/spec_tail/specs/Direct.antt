-- The play of a tail, told directly. From the state at its base the interrupts that are logged for its threads' next commits are
-- applied first. Then its log is played as any log, with the base as the first position: all that is logged is looked up as
-- it stands there, counted from the recording's start, and only the order, and the sizes of order-size, begin at the base.
use Rattle.std.specs.Prelude.{ℕ, zero, suc, ◌+◌, ◌-◌, ◌||◌, ◌&&◌, nat_lt, nat_le, Bool, true, false, not, List, [], length, map}
use Rattle.std.specs.Prelude.{slice_get, Option, Some, None, if◌then◌else◌}
use Rattle.std.specs.List.{list_all}
use Rattle.dl_entry.specs.declared.Actor.{Actor}
use Rattle.dl_entry.specs.declared.End.{End}
use Rattle.dl_entry.specs.declared.Why.{Why}
use Rattle.spec_isa.specs.declared.thread.Parts.{Parts}
use Rattle.spec_isa.specs.declared.thread.Kind.{Kind}
use Rattle.spec_isa.specs.Words.{lays}
use Rattle.spec_isa.specs.Runs.{Run, run}
use Rattle.spec_log.specs.declared.ModeName.{ModeName}
use Rattle.spec_log.specs.declared.ShortSize.{ShortSize}
use Rattle.spec_log.specs.declared.Sizes.{Sizes}
use Rattle.spec_log.specs.Head.{head_by_turn, is_dma_at}
use Rattle.spec_log.specs.Size.{dma_size, thread_size}
use Rattle.spec_kernel.specs.Interrupts.{is_live}
use Rattle.spec_kernel.specs.Needs.{need, next_kind}
use Rattle.spec_play.specs.declared.used.Used.{Used}
use Rattle.spec_play.specs.declared.WalkEnd.{WalkEnd}
use Rattle.spec_play.specs.Effects.{chunk_effect}
use Rattle.spec_play.specs.Plays.{Played, with_threads}
use Rattle.spec_play.specs.Progress.{Progress, nothing_used, position, with_dma, with_dma_used, with_effect}
use Rattle.spec_play.specs.Transfers.{DmaVerdict, DmaGoes, DmaFails, dma_unless, transferred}
use Rattle.spec_play.specs.Turns.{TurnOrEnd, Turn, TurnOfDma, Ended, at_end, is_size_used, turn_of}
use Rattle.spec_play.specs.Verdicts.{LogVerdict, Goes, Fails, chunk_why, ended, given, serial_why, served_verdict, unless}
use Rattle.spec_play.specs.Walks.{Walked}
use Rattle.spec_tail.specs.Tails.{Tail}
use Rattle.spec_tail.specs.Playing.{begun, raised}

-- ---- what is logged

-- the actor of the commit at a position
abbrev pub head_in : ModeName → Tail → (position : ℕ) → (last : Option ℕ) → List Bool → Option Actor
head_in ModeName.OrderSize t i last live = slice_get t.log.order (i - t.base)
head_in ModeName.OrderOnly t i last live = slice_get t.log.order (i - t.base)
head_in ModeName.Picolog t i last live = head_by_turn (is_dma_at t.log.dmas i) last live

-- the size of a thread's commit with so many of its commits before
abbrev pub size_in : Sizes → Tail → (thread commits : ℕ) → Option ℕ
size_in (Sizes.Each sizes) t k i = thread_size t.log.order (Sizes.Each sizes) k (i - begun t.threads k)
size_in (Sizes.Short sizes) t k i = thread_size t.log.order (Sizes.Short sizes) k i

abbrev pub size_of : Tail → (thread commits : ℕ) → Option ℕ
size_of t k i = size_in t.log.sizes t k i

-- the size of the DMA at a position
abbrev pub size_of_dma : Tail → (position : ℕ) → Option ℕ
size_of_dma t i = dma_size t.log.sizes (i - t.base)

-- ---- what is left over

-- a size is used by a commit from the base on
abbrev pub is_used : Tail → List Parts → ShortSize → Bool
is_used t threads x = nat_le (begun t.threads x.thread) x.index && is_size_used (slice_get threads x.thread) x

abbrev pub are_used : Sizes → Tail → List Parts → Bool
are_used (Sizes.Each sizes) t threads = true
are_used (Sizes.Short sizes) t threads = list_all (is_used t threads) sizes

unfoldable pub has_left : Tail → Used → List Parts → Bool
has_left t u threads =
    not (are_used t.log.sizes t threads) || nat_lt u.interrupts (length t.log.interrupts)
    || nat_lt u.inputs (length t.log.inputs) || nat_lt u.dmas (length t.log.dmas)

-- ---- turns

unfoldable pub now_at : Tail → Progress → Used → List Parts → TurnOrEnd
now_at t p u threads =
    if nat_lt (position p) (t.base + t.log.count)
    then turn_of (position p) threads (head_in t.log.mode t (position p) p.last (map is_live threads))
    else at_end (position p) (has_left t u threads)

-- ---- one commit

unfoldable pub chunk_verdict : Tail → Progress → Used → (thread : ℕ) → Run → LogVerdict
chunk_verdict t p u k r = unless (chunk_why (size_of t k r.thread.commits) r.n) (ended t.log k (chunk_effect k p.request r) u)

unfoldable pub serial_verdict : Tail → Progress → Used → (thread : ℕ) → List Parts → Parts → List ℕ → LogVerdict
serial_verdict t p u k threads x m =
    unless (serial_why (size_of t k x.commits))
    (served_verdict t.log p k threads x m (given (need x m) (slice_get t.log.inputs u.inputs) u))

abbrev pub size_or_standard : Tail → (thread commits : ℕ) → ℕ
size_or_standard t k i = elim (size_of t k i) [ None ↦ t.log.s | Some z ↦ z ]

abbrev pub thread_verdict : Tail → Played → (thread : ℕ) → Parts → Option Kind → LogVerdict
thread_verdict t y k x (Some kind) = serial_verdict t y.progress y.used k y.threads x y.memory
thread_verdict t y k x None = chunk_verdict t y.progress y.used k (run y.memory x (size_or_standard t k x.commits))

abbrev pub settled : Tail → Played → (thread : ℕ) → LogVerdict → Played
settled t y k (Fails why) = record y { now = Ended (End.Diverged (position y.progress) why) }
settled t y k (Goes e u) =
    let threads = with_threads k e y.threads in
    let progress = with_effect k e y.progress in
    record {
      memory = lays y.memory e.words;
      threads = threads;
      progress = progress;
      used = u;
      now = now_at t progress u threads;
    }

abbrev pub play_thread : Tail → Played → (thread : ℕ) → Option Parts → Played
play_thread t y k None = y
play_thread t y k (Some x) = settled t y k (thread_verdict t y k x (next_kind x y.memory))

unfoldable pub dma_verdict : Tail → Progress → Used → DmaVerdict
dma_verdict t p u =
    dma_unless (serial_why (size_of_dma t (position p)))
    (transferred (position p) p.request (slice_get t.log.dmas u.dmas))

abbrev pub dma_settled : Tail → Played → DmaVerdict → Played
dma_settled t y (DmaFails why) = record y { now = Ended (End.Diverged (position y.progress) why) }
dma_settled t y (DmaGoes words) =
    let progress = with_dma y.progress in
    let used = with_dma_used y.used in
    record {
      memory = lays y.memory words;
      threads = y.threads;
      progress = progress;
      used = used;
      now = now_at t progress used y.threads;
    }

abbrev pub play_turn : Tail → Played → TurnOrEnd → Played
play_turn t y (Ended how) = y
play_turn t y TurnOfDma = dma_settled t y (dma_verdict t y.progress y.used)
play_turn t y (Turn k) = play_thread t y k (slice_get y.threads k)

unfoldable pub play_one : Tail → Played → Played
play_one t y = play_turn t y y.now

-- ---- the play

-- no commit since the base
abbrev pub progress_at_base : Tail → Progress
progress_at_base t = record { first = t.base; commits = []; last = t.last; request = t.request }

-- if an interrupt can't be taken there, the play has ended before its first commit
abbrev pub now_at_base : Tail → (refused : Bool) → Used → List Parts → TurnOrEnd
now_at_base t true u threads = Ended (End.Diverged t.base Why.Interrupt)
now_at_base t false u threads = now_at t (progress_at_base t) u threads

-- the interrupts are applied first
abbrev pub opened : Tail → Played
opened t =
    let r = raised t.log.interrupts 0 t.threads in
    let used = record nothing_used { interrupts = r.count } in
    record {
      memory = t.memory;
      threads = r.threads;
      progress = progress_at_base t;
      used = used;
      now = now_at_base t r.refused used r.threads;
    }

-- after i commits of its log
abbrev pub played : Tail → (i : ℕ) → Played
played t zero = opened t
played t (suc i) = play_one t (played t i)

-- ---- the walk

abbrev pub walk_end : (position : ℕ) → TurnOrEnd → WalkEnd
walk_end i (Ended how) = WalkEnd.Ended how
walk_end i (Turn k) = WalkEnd.Reached i
walk_end i TurnOfDma = WalkEnd.Reached i

-- of the whole tail
abbrev pub walked : Tail → Walked
walked t =
    let y = played t t.log.count in
    record {
      commits = y.progress.commits;
      threads = y.threads;
      memory = y.memory;
      request = y.progress.request;
      end = walk_end (position y.progress) y.now;
    }
