-- A commit that goes leaves words inside the memory, the commit that it is, and a sound request.
use Rattle.std.proofs.Common.{◌≡◌, ℕ, ◌%◌, Bool, true, false, cond, List, length, Option, Some, None, sym, ap, ◌∙◌, subst, arith}
use Rattle.std.specs.Prelude.{slice_get}
use Rattle.std.proofs.lemmas.Bool.{true≢false}
use Rattle.dl_elf.specs.Images.{IsSize}
use Rattle.dl_entry.specs.declared.Commit.{Commit}
use Rattle.dl_entry.specs.declared.Input.{Input}
use Rattle.dl_entry.specs.declared.Request.{Request}
use Rattle.dl_entry.specs.declared.Why.{Why}
use Rattle.spec_isa.specs.declared.thread.Parts.{Parts}
use Rattle.spec_isa.specs.Words.{Stored}
use Rattle.spec_isa.specs.Runs.{Run}
use Rattle.spec_isa.specs.Threads.{IsThread}
use Rattle.spec_log.specs.declared.LogParts.{LogParts}
use Rattle.spec_isa.specs.Inside.{AreInside}
use Rattle.spec_kernel.specs.Needs.{Need, need}
use Rattle.spec_kernel.specs.Records.{fits}
use Rattle.spec_kernel.specs.Serving.{StepResult, serve}
use Rattle.spec_kernel.specs.Interrupts.{takes_interrupt, interrupted}
use Rattle.spec_play.specs.Effects.{Effect, chunk_commit, chunk_effect, serial_commit, serial_effect}
use Rattle.spec_play.specs.Progress.{Progress, with_input, with_interrupt}
use Rattle.spec_play.specs.declared.used.Used.{Used}
use Rattle.spec_play.specs.Transfers.{DmaVerdict, DmaGoes, dma_verdict}
use Rattle.spec_play.specs.Verdicts.{LogVerdict, Goes, Fails, TakenRecord, given, with_interrupted, interrupt_at, chunk_verdict, unless, served_verdict, serial_verdict}
use Rattle.spec_sphere.specs.promises.Sound.{IsSoundIf}
use Rattle.spec_play.proofs.Threads.{branch}
use Rattle.spec_sphere.proofs.Sound.Threads.{BringsIf, IsSoundStepResult, serve-sound}
use Rattle.spec_sphere.proofs.Sound.Moves.{fits-brings}
use Rattle.spec_sphere.proofs.Sound.Transfers.{IfDmaGoes, dma-goes}

goes : LogVerdict → Bool
goes (Goes e u) = true
goes (Fails why) = false

effect_of : Effect → LogVerdict → Effect
effect_of d (Goes e u) = e
effect_of d (Fails why) = d

-- ---- an interrupt changes the thread alone

abbrev IsLike : Effect → Effect → Type 0
IsLike e f = record f { thread = e.thread } ≡ e

-- an interrupt that a commit takes at its end changes only the thread of its effect
pub interrupted-like : (o : Option ℕ) (e : Effect) (u : Used) (f : Effect) (w : Used) → with_interrupted o e u ≡ Goes f w → IsLike e f
unfolding goes effect_of
interrupted-like None e u f w is = ap (λ (x : Effect). record x { thread = e.thread }) (sym (ap (effect_of e) is))
interrupted-like (Some value) e u f w is =
    (elim (takes_interrupt e.thread) as (λ (b : Bool). cond b (Goes (record e { thread = interrupted value e.thread }) (with_interrupt u)) (Fails Why.Interrupt) ≡ Goes f w → IsLike e f) [
      | true ↦ λ h. ap (λ (x : Effect). record x { thread = e.thread }) (sym (ap (effect_of e) h))
      | false ↦ λ h. absurd (true≢false (sym (ap goes h)))
    ]) is

-- a commit that passes a check goes by the verdict that it has without the check
pub unless-goes : (o : Option Why) (v : LogVerdict) (f : Effect) (w : Used) → unless o v ≡ Goes f w → v ≡ Goes f w
unfolding goes
unless-goes None v f w is = is
unless-goes (Some why) v f w is = absurd (true≢false (sym (ap goes is)))

-- ---- chunks

chunk-like : (log : LogParts) (p : Progress) (u : Used) (k : ℕ) (r : Run) (f : Effect) (w : Used) → chunk_verdict log p u k r ≡ Goes f w → IsLike (chunk_effect k p.request r) f
unfolding chunk_verdict
chunk-like log p u k r f w is =
    let e : Effect = chunk_effect k p.request r in
    interrupted-like (interrupt_at log.interrupts k e.thread.commits) e u f w (unless-goes _ _ f w is)

-- what a chunk leaves beside its thread
pub record LeftByChunk (k : ℕ) (p : Progress) (r : Run) (e : Effect) : Type 0 where
  pub words : e.words ≡ r.words
  pub commit : e.commit ≡ chunk_commit k r
  pub request : e.request ≡ p.request

-- a chunk that goes leaves its run's words and commit, and the request as it was
pub chunk-left : (log : LogParts) (p : Progress) (u : Used) (k : ℕ) (r : Run) (e : Effect) (w : Used) → chunk_verdict log p u k r ≡ Goes e w → LeftByChunk k p r e
chunk-left log p u k r e w is =
    let like = chunk-like log p u k r e w is in
    record {
      words = ap (λ (x : Effect). x.words) like;
      commit = ap (λ (x : Effect). x.commit) like;
      request = ap (λ (x : Effect). x.request) like;
    }

-- ---- serial steps

-- what a serial step leaves beside its thread, in a memory of that size
pub record LeftByStep (size k : ℕ) (e : Effect) : Type 0 where
  pub inside : AreInside size e.words
  pub commit : e.commit ≡ serial_commit k e.commit.loads e.commit.outputs
  pub request : IsSoundIf size e.request

left-like : (size k : ℕ) (v : StepResult) (f : Effect) → IsSoundStepResult size v → IsLike (serial_effect k v) f → LeftByStep size k f
left-like size k v f sound like =
    let same : f.commit ≡ serial_commit k v.loads v.outputs = ap (λ (x : Effect). x.commit) like in
    record {
      inside = subst (AreInside size) (sym (ap (λ (x : Effect). x.words) like)) sound.words.inside;
      commit = same ∙ ap (λ (c : Commit). serial_commit k c.loads c.outputs) (sym same);
      request = subst (IsSoundIf size) (sym (ap (λ (x : Effect). x.request) like)) sound.request;
    }

-- what is given is no longer than what is wanted
abbrev IfBrings : Option Need → Option TakenRecord → Type 0
IfBrings o None = Unit {0}
IfBrings o (Some g) = BringsIf o g.input

given-brings : (o : Option Need) (next : Option Input) (u : Used) → IfBrings o (given o next u)
given-brings None next u = tt
given-brings (Some n) None u = tt
given-brings (Some n) (Some r) u = branch (IfBrings (Some n)) (fits n r) (Some (record { input = Some r; used = with_input u })) None (λ e. fits-brings n r e) (λ _. tt)

-- a sound thread, on a memory of whole words, with a sound request
pub record CanStep (t : Parts) (m : List ℕ) (request : Option Request) : Type 0 where
  pub whole : length m % 4 ≡ 0
  pub thread : IsThread t
  pub request_sound : IsSoundIf (length m) request

served-left : (log : LogParts) (p : Progress) (k : ℕ) (ts : List Parts) (t : Parts) (m : List ℕ) (o : Option TakenRecord) (f : Effect) (w : Used) → CanStep t m p.request → IfBrings (need t m) o → served_verdict log p k ts t m o ≡ Goes f w → LeftByStep (length m) k f
unfolding goes
served-left log p k ts t m None f w can brings is = absurd (true≢false (sym (ap goes is)))
served-left log p k ts t m (Some g) f w can brings is =
    let v : StepResult = serve log.threads k ts p.request t m g.input in
    let e : Effect = serial_effect k v in
    left-like (length m) k v f
    (serve-sound log.threads k ts p.request t m g.input can.whole brings can.thread can.request_sound)
    (interrupted-like (interrupt_at log.interrupts k e.thread.commits) e g.used f w is)

-- a serial step that goes stores inside the memory, and leaves its commit and a sound request
pub step-left : (log : LogParts) (p : Progress) (u : Used) (k : ℕ) (ts : List Parts) (t : Parts) (m : List ℕ) (e : Effect) (w : Used) → CanStep t m p.request → serial_verdict log p u k ts t m ≡ Goes e w → LeftByStep (length m) k e
unfolding serial_verdict
step-left log p u k ts t m e w can is =
    served-left log p k ts t m (given (need t m) (slice_get log.inputs u.inputs) u) e w can (given-brings (need t m) (slice_get log.inputs u.inputs) u) (unless-goes _ _ e w is)

-- ---- DMAs

dma-words-in : (size : ℕ) (log : LogParts) (u : Used) (v : DmaVerdict) (ws : List Stored) → IfDmaGoes size log u v → v ≡ DmaGoes ws → AreInside size ws
dma-words-in size log u v ws h is = (subst (IfDmaGoes size log u) is h).words_sound.inside

-- the words of a DMA that goes are inside the memory
pub dma-inside : (size : ℕ) (log : LogParts) (p : Progress) (u : Used) (ws : List Stored) → size % 4 ≡ 0 → IsSoundIf size p.request → dma_verdict log p u ≡ DmaGoes ws → AreInside size ws
dma-inside size log p u ws whole request is = dma-words-in size log u (dma_verdict log p u) ws (dma-goes size log p u whole request) is

-- ---- memories

-- a memory of whole pages has whole words
pub whole-words : (size : ℕ) → IsSize size → size % 4 ≡ 0
whole-words size is = let pages = is.pages in omega arith
