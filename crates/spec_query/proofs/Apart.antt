-- No commit of a play lays a word twice.
use Rattle.std.proofs.Common.{ℕ, zero, suc, Bool, true, false, cond, List, [], ◌++◌, length, Option, Some, None}
use Rattle.std.specs.Prelude.{slice_get}
use Rattle.std.specs.Int.{bytes_low_first}
use Rattle.dl_entry.specs.declared.Actor.{Actor}
use Rattle.dl_entry.specs.declared.Request.{Request}
use Rattle.dl_entry.specs.declared.Why.{Why}
use Rattle.spec_isa.specs.declared.thread.Parts.{Parts}
use Rattle.spec_isa.specs.declared.thread.Kind.{Kind}
use Rattle.spec_isa.specs.Words.{Apart, lays}
use Rattle.spec_isa.specs.Instruction.{InstructionOutcome, Next, Serial, one}
use Rattle.spec_isa.specs.Runs.{Run, followed, run}
use Rattle.spec_log.specs.declared.DmaRecord.{DmaRecord}
use Rattle.spec_log.specs.declared.LogParts.{LogParts}
use Rattle.spec_log.specs.Size.{size_in}
use Rattle.spec_kernel.specs.Copies.{dma_words}
use Rattle.spec_kernel.specs.Interrupts.{takes_interrupt, interrupted}
use Rattle.spec_kernel.specs.Needs.{need}
use Rattle.spec_kernel.specs.Serving.{serve}
use Rattle.spec_play.specs.Effects.{Effect, chunk_effect, serial_effect}
use Rattle.spec_play.specs.Progress.{Progress, position, with_interrupt}
use Rattle.spec_play.specs.declared.used.Used.{Used}
use Rattle.spec_play.specs.Verdicts.{LogVerdict, Goes, Fails, unless, interrupt_at, with_interrupted, ended, chunk_why, chunk_verdict, TakenRecord, given, serial_why, served_verdict, serial_verdict}
use Rattle.spec_play.specs.Transfers.{DmaVerdict, DmaGoes, DmaFails, is_for, transferred, dma_unless, dma_verdict}
use Rattle.spec_play.specs.Plays.{Played, size_or_standard, thread_verdict}
use Rattle.spec_play.proofs.Local.Joining.{Apart-store}
use Rattle.spec_sphere.proofs.Moves.Granted.{bytes_apart, serve-apart}

-- ---- a thread's commit

abbrev pub GoesApart : LogVerdict → Type 0
GoesApart (Goes e u) = Apart e.words
GoesApart (Fails why) = Unit {0}

unless_apart : (o : Option Why) (v : LogVerdict) → GoesApart v → GoesApart (unless o v)
unless_apart None v apart = apart
unless_apart (Some why) v apart = tt

taken_apart : (value : ℕ) (e : Effect) (u : Used) (b : Bool) → Apart e.words → GoesApart (cond b (Goes (record e { thread = interrupted value e.thread }) (with_interrupt u)) (Fails Why.Interrupt))
taken_apart value e u true apart = apart
taken_apart value e u false apart = tt

interrupted_apart : (o : Option ℕ) (e : Effect) (u : Used) → Apart e.words → GoesApart (with_interrupted o e u)
interrupted_apart None e u apart = apart
interrupted_apart (Some value) e u apart = taken_apart value e u (takes_interrupt e.thread) apart

followed_apart : (r : Run) (o : InstructionOutcome) → Apart r.words → Apart (followed r o).words
followed_apart r (Serial kind) apart = apart
followed_apart r (Next t load store) apart = Apart-store r.words store apart

run_apart : (m : List ℕ) (t : Parts) (n : ℕ) → Apart (run m t n).words
run_apart m t zero = tt
run_apart m t (suc n) = let r = run m t n in followed_apart r (one r.thread (lays m r.words)) (run_apart m t n)

chunk_apart : (log : LogParts) (p : Progress) (u : Used) (k : ℕ) (r : Run) → Apart r.words → GoesApart (chunk_verdict log p u k r)
unfolding chunk_verdict
chunk_apart log p u k r apart =
    let e = chunk_effect k p.request r in
    unless_apart (chunk_why (size_in log (Actor.Thread k) r.thread.commits) r.n) (ended log k e u) (interrupted_apart (interrupt_at log.interrupts k e.thread.commits) e u apart)

served_apart : (log : LogParts) (p : Progress) (k : ℕ) (ts : List Parts) (t : Parts) (m : List ℕ) (o : Option TakenRecord) → GoesApart (served_verdict log p k ts t m o)
served_apart log p k ts t m None = tt
served_apart log p k ts t m (Some g) =
    let e = serial_effect k (serve log.threads k ts p.request t m g.input) in
    interrupted_apart (interrupt_at log.interrupts k e.thread.commits) e g.used (serve-apart log.threads k ts p.request t m g.input)

serial_apart : (log : LogParts) (p : Progress) (u : Used) (k : ℕ) (ts : List Parts) (t : Parts) (m : List ℕ) → GoesApart (serial_verdict log p u k ts t m)
unfolding serial_verdict
serial_apart log p u k ts t m =
    let o = given (need t m) (slice_get log.inputs u.inputs) u in
    unless_apart (serial_why (size_in log (Actor.Thread k) t.commits)) (served_verdict log p k ts t m o) (served_apart log p k ts t m o)

-- a chunk's run and a serial step lay each word once
pub thread_apart : (log : LogParts) (y : Played) (k : ℕ) (t : Parts) (o : Option Kind) → GoesApart (thread_verdict log y k t o)
thread_apart log y k t None =
    let n = size_or_standard log k t.commits in
    chunk_apart log y.progress y.used k (run y.memory t n) (run_apart y.memory t n)
thread_apart log y k t (Some kind) = serial_apart log y.progress y.used k y.threads t y.memory

-- ---- a DMA

abbrev pub TransfersApart : DmaVerdict → Type 0
TransfersApart (DmaGoes words) = Apart words
TransfersApart (DmaFails why) = Unit {0}

dma_unless_apart : (o : Option Why) (v : DmaVerdict) → TransfersApart v → TransfersApart (dma_unless o v)
dma_unless_apart None v apart = apart
dma_unless_apart (Some why) v apart = tt

words_apart : (request : Request) (bytes : List ℕ) → Apart (dma_words request bytes)
words_apart request bytes = bytes_apart [] request.buf (bytes_low_first 0 4 (length bytes) ++ bytes) tt

fitting_apart : (request : Request) (dma : DmaRecord) (b : Bool) → TransfersApart (cond b (DmaGoes (dma_words request dma.bytes)) (DmaFails Why.Dma))
fitting_apart request dma true = words_apart request dma.bytes
fitting_apart request dma false = tt

transferred_apart : (i : ℕ) (o : Option Request) (next : Option DmaRecord) → TransfersApart (transferred i o next)
transferred_apart i None next = tt
transferred_apart i (Some request) None = tt
transferred_apart i (Some request) (Some dma) = fitting_apart request dma (is_for i request dma)

-- a DMA lays each word once
pub dma_apart : (log : LogParts) (p : Progress) (u : Used) → TransfersApart (dma_verdict log p u)
unfolding dma_verdict
dma_apart log p u =
    let next = slice_get log.dmas u.dmas in
    dma_unless_apart (serial_why (size_in log Actor.Dma (position p))) (transferred (position p) p.request next) (transferred_apart (position p) p.request next)
