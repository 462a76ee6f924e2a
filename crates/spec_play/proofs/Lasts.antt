-- Each commit of a thread makes that thread the last one, and a DMA changes nothing.
use Rattle.std.proofs.Common.{◌≡◌, ℕ, zero, suc, Bool, true, false, cond, List, [], ◌∷◌, ◌++◌, Option, Some, None, refl, sym, ap, ◌∙◌}
use Rattle.std.specs.Prelude.{slice_get}
use Rattle.std.specs.Option.{option_or}
use Rattle.dl_entry.specs.declared.Actor.{Actor}
use Rattle.dl_entry.specs.declared.Commit.{Commit}
use Rattle.dl_entry.specs.declared.Why.{Why}
use Rattle.spec_isa.specs.declared.thread.Parts.{Parts}
use Rattle.spec_isa.specs.declared.thread.Kind.{Kind}
use Rattle.spec_isa.specs.Runs.{Run, run}
use Rattle.spec_log.specs.declared.LogParts.{LogParts}
use Rattle.spec_log.specs.Size.{size_in}
use Rattle.spec_kernel.specs.Needs.{next_kind, need}
use Rattle.spec_kernel.specs.Interrupts.{takes_interrupt, interrupted}
use Rattle.spec_kernel.specs.Serving.{serve}
use Rattle.spec_play.specs.Effects.{Effect, chunk_effect, serial_effect, dma_commit}
use Rattle.spec_play.specs.Progress.{Progress, thread_of, last_thread, with_effect, with_dma, with_interrupt}
use Rattle.spec_play.specs.declared.used.Used.{Used}
use Rattle.spec_play.specs.Turns.{TurnOrEnd, Turn, TurnOfDma, Ended}
use Rattle.spec_play.specs.Verdicts.{LogVerdict, Goes, Fails, unless, interrupt_at, with_interrupted, ended, chunk_why, chunk_verdict, TakenRecord, given, serial_why, served_verdict, serial_verdict}
use Rattle.spec_play.specs.Transfers.{DmaVerdict, DmaGoes, DmaFails, dma_verdict}
use Rattle.spec_play.specs.Plays.{Played, opened, settled, size_or_standard, thread_verdict, play_thread, dma_settled, play_turn, play_one, plays}
use Rattle.spec_play.specs.Lasts.{IsOfCommits, PlaysKeepLasts}

-- ---- one more commit

pushed_thread : (k : ℕ) (cs : List Commit) (c : Commit) → c.actor ≡ Actor.Thread k → last_thread (cs ++ c ∷ []) ≡ Some k
pushed_thread k [] c e = ap thread_of e
pushed_thread k (d ∷ cs) c e = ap (λ (o : Option ℕ). option_or o (thread_of d.actor)) (pushed_thread k cs c e)

pushed_dma : (cs : List Commit) (c : Commit) → c.actor ≡ Actor.Dma → last_thread (cs ++ c ∷ []) ≡ last_thread cs
pushed_dma [] c e = ap thread_of e
pushed_dma (d ∷ cs) c e = ap (λ (o : Option ℕ). option_or o (thread_of d.actor)) (pushed_dma cs c e)

-- with a thread's commit added, the last thread of the progress is the last among its commits
pub last-effect : (k : ℕ) (e : Effect) (p : Progress) → e.commit.actor ≡ Actor.Thread k → IsOfCommits (with_effect k e p)
last-effect k e p is = sym (pushed_thread k p.commits e.commit is)

-- with a DMA's commit added, the last thread of the progress is the last among its commits, if it was so before
pub last-dma : (p : Progress) → IsOfCommits p → IsOfCommits (with_dma p)
last-dma p last = last ∙ sym (pushed_dma p.commits dma_commit refl)

-- ---- a verdict's commit is its thread's

-- the commit of a verdict that goes is that thread's
abbrev pub IsOf : (thread : ℕ) → LogVerdict → Type 0
IsOf k (Goes e u) = e.commit.actor ≡ Actor.Thread k
IsOf k (Fails why) = Unit {0}

unless_of : (k : ℕ) (o : Option Why) (v : LogVerdict) → IsOf k v → IsOf k (unless o v)
unless_of k None v is = is
unless_of k (Some why) v is = tt

taken_of : (k value : ℕ) (e : Effect) (u : Used) (b : Bool) → e.commit.actor ≡ Actor.Thread k → IsOf k (cond b (Goes (record e { thread = interrupted value e.thread }) (with_interrupt u)) (Fails Why.Interrupt))
taken_of k value e u true is = is
taken_of k value e u false is = tt

interrupted_of : (k : ℕ) (o : Option ℕ) (e : Effect) (u : Used) → e.commit.actor ≡ Actor.Thread k → IsOf k (with_interrupted o e u)
interrupted_of k None e u is = is
interrupted_of k (Some value) e u is = taken_of k value e u (takes_interrupt e.thread) is

-- the commit of a chunk's verdict is of the thread that ran it
pub chunk-of : (log : LogParts) (p : Progress) (u : Used) (k : ℕ) (r : Run) → IsOf k (chunk_verdict log p u k r)
unfolding chunk_verdict
chunk-of log p u k r =
    let e = chunk_effect k p.request r in
    unless_of k (chunk_why (size_in log (Actor.Thread k) r.thread.commits) r.n) (ended log k e u) (interrupted_of k (interrupt_at log.interrupts k e.thread.commits) e u refl)

served_of : (log : LogParts) (p : Progress) (k : ℕ) (ts : List Parts) (t : Parts) (m : List ℕ) (o : Option TakenRecord) → IsOf k (served_verdict log p k ts t m o)
served_of log p k ts t m None = tt
served_of log p k ts t m (Some g) =
    let e = serial_effect k (serve log.threads k ts p.request t m g.input) in
    interrupted_of k (interrupt_at log.interrupts k e.thread.commits) e g.used refl

-- the commit of a serial step's verdict is of the thread that did it
pub serial-of : (log : LogParts) (p : Progress) (u : Used) (k : ℕ) (ts : List Parts) (t : Parts) (m : List ℕ) → IsOf k (serial_verdict log p u k ts t m)
unfolding serial_verdict
serial-of log p u k ts t m =
    let o = given (need t m) (slice_get log.inputs u.inputs) u in
    unless_of k (serial_why (size_in log (Actor.Thread k) t.commits)) (served_verdict log p k ts t m o) (served_of log p k ts t m o)

-- ---- plays

verdict_of : (log : LogParts) (y : Played) (k : ℕ) (t : Parts) (o : Option Kind) → IsOf k (thread_verdict log y k t o)
verdict_of log y k t None = chunk-of log y.progress y.used k (run y.memory t (size_or_standard log k t.commits))
verdict_of log y k t (Some kind) = serial-of log y.progress y.used k y.threads t y.memory

settled_last : (log : LogParts) (y : Played) (k : ℕ) (v : LogVerdict) → IsOf k v → IsOfCommits y.progress → IsOfCommits (settled log y k v).progress
settled_last log y k (Goes e u) is last = last-effect k e y.progress is
settled_last log y k (Fails why) is last = last

thread_last : (log : LogParts) (y : Played) (k : ℕ) (o : Option Parts) → IsOfCommits y.progress → IsOfCommits (play_thread log y k o).progress
thread_last log y k None last = last
thread_last log y k (Some t) last = settled_last log y k (thread_verdict log y k t (next_kind t y.memory)) (verdict_of log y k t (next_kind t y.memory)) last

dma_last : (log : LogParts) (y : Played) (v : DmaVerdict) → IsOfCommits y.progress → IsOfCommits (dma_settled log y v).progress
dma_last log y (DmaGoes words) last = last-dma y.progress last
dma_last log y (DmaFails why) last = last

now_last : (log : LogParts) (y : Played) (now : TurnOrEnd) → IsOfCommits y.progress → IsOfCommits (play_turn log y now).progress
now_last log y (Ended how) last = last
now_last log y TurnOfDma last = dma_last log y (dma_verdict log y.progress y.used) last
now_last log y (Turn k) last = thread_last log y k (slice_get y.threads k) last

-- after any number of commits of a play, the last thread of its progress is the last among its commits
pub plays_keep_lasts : PlaysKeepLasts
unfolding play_one
plays_keep_lasts log memory entry zero = refl
plays_keep_lasts log memory entry (suc i) =
    let y = plays log (opened log memory entry) i in now_last log y y.now (plays_keep_lasts log memory entry i)
