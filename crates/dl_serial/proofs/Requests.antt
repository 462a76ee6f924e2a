-- At every place of a play the outstanding request is sound, and the size of the memory never changes.
use Rattle.std.proofs.Common.{◌≡◌, ℕ, zero, suc, Bool, true, false, List, length, Option, Some, None, refl, sym, ap, ◌∙◌, subst}
use Rattle.std.specs.Prelude.{slice_get}
use Rattle.std.proofs.lemmas.Bool.{true≢false}
use Rattle.spec_isa.specs.declared.thread.Parts.{Parts}
use Rattle.spec_isa.specs.declared.thread.Kind.{Kind}
use Rattle.spec_isa.specs.Runs.{run}
use Rattle.spec_isa.proofs.MemoryLaws.{length_lays}
use Rattle.spec_log.specs.declared.LogParts.{LogParts}
use Rattle.spec_kernel.specs.Needs.{next_kind, need}
use Rattle.spec_kernel.specs.Serving.{StepResult, serve}
use Rattle.spec_play.specs.Effects.{Effect, serial_effect}
use Rattle.spec_play.specs.Progress.{Progress}
use Rattle.spec_play.specs.declared.used.Used.{Used}
use Rattle.spec_play.specs.States.{State, state_after}
use Rattle.spec_play.specs.Resuming.{IsStateOf}
use Rattle.spec_play.specs.Turns.{TurnOrEnd, Turn, TurnOfDma, Ended}
use Rattle.spec_play.specs.Transfers.{DmaVerdict, DmaGoes, DmaFails, dma_verdict}
use Rattle.spec_play.specs.Verdicts.{LogVerdict, Goes, Fails, TakenRecord, given, interrupt_at, served_verdict, serial_verdict}
use Rattle.spec_play.specs.Plays.{Played, opened, settled, dma_settled, size_or_standard, thread_verdict, play_thread, play_turn, play_one, plays}
use Rattle.spec_sphere.specs.promises.Sound.{IsSoundIf}
use Rattle.dl_replay.proofs.Requests.{serve-request}
use Rattle.dl_serial.proofs.Goes.{chunk-left, interrupted-like, unless-goes}

-- ---- verdicts

going : LogVerdict → Bool
going (Goes e u) = true
going (Fails why) = false

served_request : (log : LogParts) (p : Progress) (k : ℕ) (ts : List Parts) (t : Parts) (m : List ℕ) (o : Option TakenRecord) (e : Effect) (u : Used) → IsSoundIf (length m) p.request → served_verdict log p k ts t m o ≡ Goes e u → IsSoundIf (length m) e.request
unfolding going
served_request log p k ts t m None e u sound is = absurd (true≢false (sym (ap going is)))
served_request log p k ts t m (Some g) e u sound is =
    let v : StepResult = serve log.threads k ts p.request t m g.input in
    let f : Effect = serial_effect k v in
    subst (IsSoundIf (length m)) (sym (ap (λ (x : Effect). x.request) (interrupted-like (interrupt_at log.interrupts k f.thread.commits) f g.used e u is)))
    (serve-request log.threads k ts p.request t m g.input sound)

-- a serial step that goes leaves a sound request
pub step-request : (log : LogParts) (p : Progress) (u : Used) (k : ℕ) (ts : List Parts) (t : Parts) (m : List ℕ) (e : Effect) (w : Used) → IsSoundIf (length m) p.request → serial_verdict log p u k ts t m ≡ Goes e w → IsSoundIf (length m) e.request
unfolding serial_verdict
step-request log p u k ts t m e w sound is =
    served_request log p k ts t m (given (need t m) (slice_get log.inputs u.inputs) u) e w sound (unless-goes _ _ e w is)

verdict_request : (log : LogParts) (y : Played) (k : ℕ) (t : Parts) (o : Option Kind) (e : Effect) (w : Used) → IsSoundIf (length y.memory) y.progress.request → thread_verdict log y k t o ≡ Goes e w → IsSoundIf (length y.memory) e.request
verdict_request log y k t (Some kind) e w sound is = step-request log y.progress y.used k y.threads t y.memory e w sound is
verdict_request log y k t None e w sound is =
    let r = run y.memory t (size_or_standard log k t.commits) in
    subst (IsSoundIf (length y.memory)) (sym (chunk-left log y.progress y.used k r e w is).request) sound

-- ---- plays

-- one whose memory has this size, with a sound request
record IsSized (size : ℕ) (y : Played) : Type 0 where
  memory : length y.memory ≡ size
  request : IsSoundIf size y.progress.request

settled_sized : (size : ℕ) (log : LogParts) (y : Played) (k : ℕ) (v : LogVerdict) → ((e : Effect) (u : Used) → v ≡ Goes e u → IsSoundIf size e.request) → IsSized size y → IsSized size (settled log y k v)
settled_sized size log y k (Fails why) sound s = record { memory = s.memory; request = s.request }
settled_sized size log y k (Goes e u) sound s = record { memory = length_lays y.memory e.words ∙ s.memory; request = sound e u refl }

thread_sized : (size : ℕ) (log : LogParts) (y : Played) (k : ℕ) (o : Option Parts) → IsSized size y → IsSized size (play_thread log y k o)
thread_sized size log y k None s = s
thread_sized size log y k (Some t) s =
    let kind = next_kind t y.memory in
    let request : IsSoundIf (length y.memory) y.progress.request = subst (λ (n : ℕ). IsSoundIf n y.progress.request) (sym s.memory) s.request in
    settled_sized size log y k (thread_verdict log y k t kind)
    (λ e u is. subst (λ (n : ℕ). IsSoundIf n e.request) s.memory (verdict_request log y k t kind e u request is)) s

dma_sized : (size : ℕ) (log : LogParts) (y : Played) (v : DmaVerdict) → IsSized size y → IsSized size (dma_settled log y v)
dma_sized size log y (DmaFails why) s = record { memory = s.memory; request = s.request }
dma_sized size log y (DmaGoes words) s = record { memory = length_lays y.memory words ∙ s.memory; request = tt }

now_sized : (size : ℕ) (log : LogParts) (y : Played) (now : TurnOrEnd) → IsSized size y → IsSized size (play_turn log y now)
now_sized size log y (Ended how) s = s
now_sized size log y TurnOfDma s = dma_sized size log y (dma_verdict log y.progress y.used) s
now_sized size log y (Turn k) s = thread_sized size log y k (slice_get y.threads k) s

one_sized : (size : ℕ) (log : LogParts) (y : Played) → IsSized size y → IsSized size (play_one log y)
unfolding play_one
one_sized size log y s = now_sized size log y y.now s

plays_sized : (size : ℕ) (log : LogParts) (y : Played) (i : ℕ) → IsSized size y → IsSized size (plays log y i)
plays_sized size log y zero s = s
plays_sized size log y (suc i) s = one_sized size log (plays log y i) (plays_sized size log y i s)

-- a state of a play has a sound request
pub state-request : (log : LogParts) (s : State) → IsStateOf log s → IsSoundIf (length s.memory) s.request
state-request log s is =
    let y = plays_sized (length is.memory) log (opened log is.memory is.entry) is.commits (record { memory = refl; request = tt }) in
    subst (λ (x : State). IsSoundIf (length x.memory) x.request) (sym is.state)
    (subst (λ (n : ℕ). IsSoundIf n (state_after log is.memory is.entry is.commits).request) (sym y.memory) y.request)
