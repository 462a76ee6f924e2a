-- Within the limits of a setup a run is short: each commit of a play and each event of a schedule has little work.
use Rattle.std.proofs.Common.{◌≡◌, ℕ, zero, suc, ◌+◌, ◌*◌, ◌≤◌, List, [], ◌∷◌, ◌++◌, length, Option, Some, None, refl, arith}
use Rattle.std.specs.Prelude.{slice_get}
use Rattle.std.specs.Int.{bytes_low_first}
use Rattle.dl_entry.specs.declared.Actor.{Actor}
use Rattle.dl_entry.specs.declared.Input.{Input}
use Rattle.dl_entry.specs.declared.Request.{Request}
use Rattle.dl_entry.specs.declared.Why.{Why}
use Rattle.spec_isa.specs.declared.thread.Parts.{Parts}
use Rattle.spec_isa.specs.declared.thread.Kind.{Kind}
use Rattle.spec_isa.specs.declared.operation.Operation.{Operation}
use Rattle.spec_isa.specs.Words.{Stored, put}
use Rattle.spec_isa.specs.Operations.{stored}
use Rattle.spec_log.specs.declared.DmaRecord.{DmaRecord}
use Rattle.spec_log.specs.declared.LogParts.{LogParts}
use Rattle.spec_log.specs.Log.{IsInput, IsDmaRecord, IsLog}
use Rattle.spec_log.specs.Size.{size_in}
use Rattle.spec_log.proofs.Threads.{standard-few}
use Rattle.spec_kernel.specs.Copies.{bytes_put, copied, dma_words}
use Rattle.spec_kernel.specs.Needs.{Need, Write, Read, Random, Clock, MomentWord, InputWord, need, next_kind, next_operation}
use Rattle.spec_kernel.specs.Calls.{called}
use Rattle.spec_kernel.specs.Serving.{StepResult, copy_of, outside_called, inside_called, is_outside, device_loaded, device_stored, serve_kind, serve}
use Rattle.spec_play.specs.Effects.{Effect, serial_effect}
use Rattle.spec_play.specs.Progress.{Progress, position}
use Rattle.spec_play.specs.declared.used.Used.{Used}
use Rattle.spec_play.specs.Turns.{TurnOrEnd, Turn, TurnOfDma, Ended}
use Rattle.spec_play.specs.Verdicts.{LogVerdict, Goes, Fails, unless, interrupt_at, with_interrupted, TakenRecord, given, serial_why, served_verdict, serial_verdict}
use Rattle.spec_play.specs.Transfers.{DmaVerdict, DmaGoes, DmaFails, is_for, transferred, dma_unless, dma_verdict}
use Rattle.spec_play.specs.Plays.{Played, size_or_standard, plays}
use Rattle.spec_kernel.specs.Records.{fits}
use Rattle.spec_play.proofs.Threads.{branch}
use Rattle.spec_sphere.proofs.Moves.Granted.{either_serve}
use Rattle.spec_sphere.proofs.Sound.Words.{put-length}
use Rattle.spec_sphere.proofs.Sound.Limits.{all-in, get-in, size-most}
use Rattle.spec_finishing.specs.Work.{stored as words_stored, dma_stored, thread_work, turn_work, next_work, commit_work, commits_work}
use Rattle.spec_finishing.proofs.Paying.Runs.{run-most}

-- ---- copies

-- no more words than bytes
copy-most : (ws : List Stored) (a : ℕ) (bytes : List ℕ) → length (bytes_put ws a bytes) ≤ length ws + length bytes
unfolding bytes_put
copy-most ws a [] = omega arith
copy-most ws a (b ∷ bytes) =
    let r = copy-most (put ws (stored 1 a b)) (a + 1) bytes in let l = put-length ws (stored 1 a b) in omega (arith, r, l)

copied-most : (a : ℕ) (bytes : List ℕ) → length (copied a bytes) ≤ length bytes
copied-most a bytes = let l = copy-most [] a bytes in omega (arith, l)

-- a DMA of at most 4,096 bytes stores at most 4,100 words
pub dma-most : (request : Request) (bytes : List ℕ) → length bytes ≤ 4096 → length (dma_words request bytes) ≤ 4100
dma-most request bytes few =
    let l = copied-most request.buf (bytes_low_first 0 4 (length bytes) ++ bytes) in
    let e = dma-length (length bytes) bytes in
    omega (arith, l, e, few)
  where
    dma-length : (n : ℕ) (bs : List ℕ) → length (bytes_low_first 0 4 n ++ bs) ≡ 4 + length bs
    dma-length n bs = omega arith

-- ---- a serial step

-- what came is at most 4,096 bytes, if it is copied
abbrev pub FewIf : Option Need → Option Input → Type 0
FewIf o None = Unit {0}
FewIf o (Some r) = length (copy_of o r) ≤ 4096

outside-most : (o : Option Need) (request : Option Request) (t : Parts) (input : Option Input) → FewIf o input → length (outside_called o request t input).words ≤ 4096
outside-most o request t None few = omega arith
outside-most o request t (Some r) few = few

loaded-most : (request : Option Request) (t : Parts) (p : Operation) (input : Option Input) → length (device_loaded request t p input).words ≤ 4096
loaded-most request t (Operation.Load op rd a) (Some r) = omega arith
loaded-most request t (Operation.Load op rd a) None = omega arith
loaded-most request t (Operation.Go rd value pc) input = omega arith
loaded-most request t (Operation.Stop kind) input = omega arith
loaded-most request t (Operation.Store op a v) input = omega arith
loaded-most request t (Operation.LoadReserved rd a) input = omega arith
loaded-most request t (Operation.StoreConditional rd a v) input = omega arith
loaded-most request t (Operation.Amo op rd a v) input = omega arith

stored-most : (request : Option Request) (t : Parts) (p : Operation) → length (device_stored request t p).words ≤ 4096
stored-most request t (Operation.Load op rd a) = omega arith
stored-most request t (Operation.Go rd value pc) = omega arith
stored-most request t (Operation.Stop kind) = omega arith
stored-most request t (Operation.Store op a v) = omega arith
stored-most request t (Operation.LoadReserved rd a) = omega arith
stored-most request t (Operation.StoreConditional rd a v) = omega arith
stored-most request t (Operation.Amo op rd a v) = omega arith

abbrev FewWords : StepResult → Type 0
FewWords v = length v.words ≤ 4096

kind-most : (o : Option Kind) (most k : ℕ) (ts : List Parts) (request : Option Request) (t : Parts) (m : List ℕ) (input : Option Input) → FewIf (need t m) input → FewWords (serve_kind most o k ts request t m input)
kind-most None most k ts request t m input few = omega arith
kind-most (Some Kind.Call) most k ts request t m input few =
    either_serve FewWords (is_outside t) (outside_called (need t m) request t input) (inside_called (called most (length m) k ts request t)) (outside-most (need t m) request t input few) (omega arith)
kind-most (Some Kind.Break) most k ts request t m input few = omega arith
kind-most (Some Kind.DeviceLoad) most k ts request t m input few = loaded-most request t (next_operation t m) input
kind-most (Some Kind.DeviceStore) most k ts request t m input few = stored-most request t (next_operation t m)
kind-most (Some (Kind.Fault cause)) most k ts request t m input few = omega arith

-- a serial step stores at most 4,096 words
pub serve-most : (most k : ℕ) (ts : List Parts) (request : Option Request) (t : Parts) (m : List ℕ) (input : Option Input) → FewIf (need t m) input → length (serve most k ts request t m input).words ≤ 4096
unfolding serve
serve-most most k ts request t m input few = kind-most (next_kind t m) most k ts request t m input few

-- a record of few bytes makes few words
pub record-few : (o : Option Need) (r : Input) → length r.bytes ≤ 4096 → length (copy_of o r) ≤ 4096
record-few None r few = omega arith
record-few (Some (Write channel bytes)) r few = omega arith
record-few (Some (Read channel buf len)) r few = let l = copied-most buf r.bytes in omega (arith, l, few)
record-few (Some (Random buf len)) r few = let l = copied-most buf r.bytes in omega (arith, l, few)
record-few (Some Clock) r few = omega arith
record-few (Some MomentWord) r few = omega arith
record-few (Some InputWord) r few = omega arith

-- ---- a play's commit

interrupted-words : (o : Option ℕ) (e : Effect) (u : Used) → length e.words ≤ 4096 → words_stored (with_interrupted o e u) ≤ 4096
interrupted-words None e u few = few
interrupted-words (Some value) e u few = branch (λ (x : LogVerdict). words_stored x ≤ 4096) _ (Goes _ _) (Fails Why.Interrupt) (λ _. few) (λ _. omega arith)

unless-words : (o : Option Why) (x : LogVerdict) → words_stored x ≤ 4096 → words_stored (unless o x) ≤ 4096
unless-words None x few = few
unless-words (Some why) x few = omega arith

abbrev GivenFew : Option Need → Option TakenRecord → Type 0
GivenFew o None = Unit {0}
GivenFew o (Some g) = FewIf o g.input

given-few : (log : LogParts) (o : Option Need) (next : Option Input) (u : Used) → ((r : Input) → next ≡ Some r → length r.bytes ≤ 4096) → GivenFew o (given o next u)
given-few log None next u few = tt
given-few log (Some n) None u few = tt
given-few log (Some n) (Some r) u few = branch (GivenFew (Some n)) (fits n r) (Some (record { input = Some r; used = _ })) None (λ _. record-few (Some n) r (few r refl)) (λ _. tt)

served-words : (log : LogParts) (p : Progress) (k : ℕ) (ts : List Parts) (t : Parts) (m : List ℕ) (o : Option TakenRecord) → GivenFew (need t m) o → words_stored (served_verdict log p k ts t m o) ≤ 4096
served-words log p k ts t m None few = omega arith
served-words log p k ts t m (Some g) few =
    let e = serial_effect k (serve log.threads k ts p.request t m g.input) in
    interrupted-words (interrupt_at log.interrupts k e.thread.commits) e g.used (serve-most log.threads k ts p.request t m g.input few)

serial-words : (log : LogParts) (p : Progress) (u : Used) (k : ℕ) (ts : List Parts) (t : Parts) (m : List ℕ) → IsLog log → words_stored (serial_verdict log p u k ts t m) ≤ 4096
unfolding serial_verdict
serial-words log p u k ts t m is =
    let g = given (need t m) (slice_get log.inputs u.inputs) u in
    unless-words (serial_why (size_in log (Actor.Thread k) t.commits)) (served_verdict log p k ts t m g)
    (served-words log p k ts t m g (given-few log (need t m) (slice_get log.inputs u.inputs) u (λ r e. (get-in IsInput log.inputs u.inputs r (all-in IsInput log.inputs is.inputs.each) e).2.0)))

dma-unless-words : (o : Option Why) (x : DmaVerdict) → dma_stored x ≤ 4100 → dma_stored (dma_unless o x) ≤ 4100
dma-unless-words None x few = few
dma-unless-words (Some why) x few = omega arith

transferred-words : (i : ℕ) (o : Option Request) (next : Option DmaRecord) → ((dma : DmaRecord) → next ≡ Some dma → length dma.bytes ≤ 4096) → dma_stored (transferred i o next) ≤ 4100
transferred-words i None next few = omega arith
transferred-words i (Some q) None few = omega arith
transferred-words i (Some q) (Some dma) few =
    branch (λ (x : DmaVerdict). dma_stored x ≤ 4100) (is_for i q dma) (DmaGoes (dma_words q dma.bytes)) (DmaFails Why.Dma) (λ _. dma-most q dma.bytes (few dma refl)) (λ _. omega arith)

dma-verdict-words : (log : LogParts) (p : Progress) (u : Used) → IsLog log → dma_stored (dma_verdict log p u) ≤ 4100
unfolding dma_verdict
dma-verdict-words log p u is =
    dma-unless-words (serial_why (size_in log Actor.Dma (position p))) (transferred (position p) p.request (slice_get log.dmas u.dmas))
    (transferred-words (position p) p.request (slice_get log.dmas u.dmas) (λ dma e. (get-in IsDmaRecord log.dmas u.dmas dma (all-in IsDmaRecord log.dmas is.dmas.each) e).1.0))

-- ---- a commit's work

abbrev size_with : (s : ℕ) → Option ℕ → ℕ
size_with s o = elim o [ None ↦ s | Some z ↦ z ]

size-with-most : (s : ℕ) (o : Option ℕ) → ((z : ℕ) → o ≡ Some z → z ≤ s) → size_with s o ≤ s
size-with-most s None each = omega arith
size-with-most s (Some z) each = each z refl

run-size_most : (log : LogParts) (k n : ℕ) → IsLog log → size_or_standard log k n ≤ log.s
run-size_most log k n is =
    size-with-most log.s (size_in log (Actor.Thread k) n) (λ z e. size-most log.mode log.threads log.s log.count k n z log.order log.sizes is.sizes e)

thread-few : (log : LogParts) (y : Played) (k : ℕ) (t : Parts) (o : Option Kind) → IsLog log → thread_work log y k t o ≤ 65536
thread-few log y k t (Some kind) is = let l = serial-words log y.progress y.used k y.threads t y.memory is in omega (arith, l)
thread-few log y k t None is =
    let l = run-most y.memory t (size_or_standard log k t.commits) in
    let m = run-size_most log k t.commits is in
    let n = standard-few log.version log.threads log.s is.version is.s in
    omega (arith, l, m, n)

turn-few : (log : LogParts) (y : Played) (k : ℕ) (o : Option Parts) → IsLog log → turn_work log y k o ≤ 65541
turn-few log y k None is = omega arith
turn-few log y k (Some t) is = let l = thread-few log y k t (next_kind t y.memory) is in omega (arith, l)

now-few : (log : LogParts) (y : Played) (now : TurnOrEnd) → IsLog log → next_work log y now ≤ 65541
now-few log y (Ended how) is = omega arith
now-few log y TurnOfDma is = let l = dma-verdict-words log y.progress y.used is in omega (arith, l)
now-few log y (Turn k) is = turn-few log y k (slice_get y.threads k) is

commit-few : (log : LogParts) (y : Played) → IsLog log → commit_work log y ≤ 65541
unfolding commit_work
commit-few log y is = now-few log y y.now is

-- n commits of a play have at most 65,541 * n to do
pub commits-few : (log : LogParts) (y : Played) (i n : ℕ) → IsLog log → commits_work log y i n ≤ 65541 * n
commits-few log y i zero is = omega arith
commits-few log y i (suc n) is =
    let a = commit-few log (plays log y i) is in let b = commits-few log y (suc i) n is in omega (arith, a, b)
