-- What a verdict by which a commit goes on says of the commit and of its words.
use Rattle.std.proofs.Common.{◌≡◌, ℕ, Bool, true, false, List, Option, Some, None, refl, sym, ap, ◌∙◌, cond}
use Rattle.std.proofs.lemmas.Bool.{true≢false}
use Rattle.dl_entry.specs.declared.Commit.{Commit}
use Rattle.dl_entry.specs.declared.Why.{Why}
use Rattle.spec_isa.specs.declared.thread.Parts.{Parts}
use Rattle.spec_isa.specs.Runs.{Run}
use Rattle.spec_isa.specs.Words.{Stored}
use Rattle.spec_log.specs.declared.LogParts.{LogParts}
use Rattle.spec_kernel.specs.Interrupts.{takes_interrupt, interrupted}
use Rattle.spec_play.specs.Effects.{Effect, chunk_commit, chunk_effect, serial_commit, serial_effect}
use Rattle.spec_kernel.specs.Serving.{serve}
use Rattle.spec_play.specs.Progress.{Progress, with_interrupt}
use Rattle.spec_play.specs.declared.used.Used.{Used}
use Rattle.dl_replay.specs.Left.{Served, served_by}
use Rattle.spec_play.specs.Verdicts.{LogVerdict, Goes, Fails, TakenRecord, with_interrupted, interrupt_at, chunk_verdict, unless, served_verdict, serial_verdict}

-- ---- the commit of a verdict

goes : LogVerdict → Bool
goes (Goes e u) = true
goes (Fails why) = false

effect_of : Effect → LogVerdict → Effect
effect_of d (Goes e u) = e
effect_of d (Fails why) = d

-- an interrupt changes no commit
interrupted-keeps : (o : Option ℕ) (e : Effect) (u : Used) (f : Effect) (w : Used) → with_interrupted o e u ≡ Goes f w → f.commit ≡ e.commit
unfolding goes effect_of
interrupted-keeps None e u f w is = ap (λ (x : Effect). x.commit) (sym (ap (effect_of e) is))
interrupted-keeps (Some value) e u f w is =
    (elim (takes_interrupt e.thread) as (λ (b : Bool). cond b (Goes (record e { thread = interrupted value e.thread }) (with_interrupt u)) (Fails Why.Interrupt) ≡ Goes f w → f.commit ≡ e.commit) [
      | true ↦ λ h. ap (λ (x : Effect). x.commit) (sym (ap (effect_of e) h))
      | false ↦ λ h. absurd (true≢false (sym (ap goes h)))
    ]) is

-- nor the words to be stored
words-keep : (o : Option ℕ) (e : Effect) (u : Used) (f : Effect) (w : Used) → with_interrupted o e u ≡ Goes f w → f.words ≡ e.words
unfolding goes effect_of
words-keep None e u f w is = ap (λ (x : Effect). x.words) (sym (ap (effect_of e) is))
words-keep (Some value) e u f w is =
    (elim (takes_interrupt e.thread) as (λ (b : Bool). cond b (Goes (record e { thread = interrupted value e.thread }) (with_interrupt u)) (Fails Why.Interrupt) ≡ Goes f w → f.words ≡ e.words) [
      | true ↦ λ h. ap (λ (x : Effect). x.words) (sym (ap (effect_of e) h))
      | false ↦ λ h. absurd (true≢false (sym (ap goes h)))
    ]) is

unless-keeps : (o : Option Why) (v : LogVerdict) (f : Effect) (w : Used) → unless o v ≡ Goes f w → v ≡ Goes f w
unfolding goes
unless-keeps None v f w is = is
unless-keeps (Some why) v f w is = absurd (true≢false (sym (ap goes is)))

-- a chunk that goes on commits its run
chunk_commits : (log : LogParts) (p : Progress) (u : Used) (k : ℕ) (r : Run) (f : Effect) (w : Used) → chunk_verdict log p u k r ≡ Goes f w → f.commit ≡ chunk_commit k r
unfolding chunk_verdict
chunk_commits log p u k r f w is =
    let e : Effect = chunk_effect k p.request r in
    interrupted-keeps (interrupt_at log.interrupts k e.thread.commits) e u f w (unless-keeps _ _ f w is)

-- a chunk that goes on stores the words of its run
chunk_words : (log : LogParts) (p : Progress) (u : Used) (k : ℕ) (r : Run) (f : Effect) (w : Used) → chunk_verdict log p u k r ≡ Goes f w → f.words ≡ r.words
unfolding chunk_verdict
chunk_words log p u k r f w is =
    let e : Effect = chunk_effect k p.request r in
    words-keep (interrupt_at log.interrupts k e.thread.commits) e u f w (unless-keeps _ _ f w is)

served-commits : (log : LogParts) (p : Progress) (k : ℕ) (ts : List Parts) (t : Parts) (m : List ℕ) (o : Option TakenRecord) (f : Effect) (w : Used) → served_verdict log p k ts t m o ≡ Goes f w
    → f.commit ≡ serial_commit k f.commit.loads f.commit.outputs
unfolding goes
served-commits log p k ts t m None f w is = absurd (true≢false (sym (ap goes is)))
served-commits log p k ts t m (Some g) f w is =
    let e : Effect = serial_effect k (serve log.threads k ts p.request t m g.input) in
    let same : f.commit ≡ e.commit = interrupted-keeps (interrupt_at log.interrupts k e.thread.commits) e g.used f w is in
    same ∙ ap (λ (c : Commit). serial_commit k c.loads c.outputs) (sym same)

-- a serial step that goes on commits what it loaded and put out
serial_commits : (log : LogParts) (p : Progress) (u : Used) (k : ℕ) (ts : List Parts) (t : Parts) (m : List ℕ) (f : Effect) (w : Used) → serial_verdict log p u k ts t m ≡ Goes f w
    → f.commit ≡ serial_commit k f.commit.loads f.commit.outputs
unfolding serial_verdict
serial_commits log p u k ts t m f w is = served-commits log p k ts t m _ f w (unless-keeps _ _ f w is)

-- ---- the effect of a verdict

-- it is of this commit and stores these words
pub record IsOf (c : Commit) (words : List Stored) (e : Effect) : Type 0 where
  pub commit : e.commit ≡ c
  pub stored : e.words ≡ words

abbrev pub IfGoes : Commit → List Stored → LogVerdict → Type 0
IfGoes c words (Goes e u) = IsOf c words e
IfGoes c words (Fails why) = Unit {0}

chunk-is : (log : LogParts) (p : Progress) (u : Used) (k : ℕ) (r : Run) (v : LogVerdict) → chunk_verdict log p u k r ≡ v → IfGoes (chunk_commit k r) r.words v
chunk-is log p u k r (Goes e w) is = record { commit = chunk_commits log p u k r e w is; stored = chunk_words log p u k r e w is }
chunk-is log p u k r (Fails why) is = tt

-- of a chunk
pub chunk_is : (log : LogParts) (p : Progress) (u : Used) (k : ℕ) (r : Run) → IfGoes (chunk_commit k r) r.words (chunk_verdict log p u k r)
chunk_is log p u k r = chunk-is log p u k r (chunk_verdict log p u k r) refl

serial-is : (log : LogParts) (p : Progress) (u : Used) (k : ℕ) (ts : List Parts) (t : Parts) (m : List ℕ) (x : Served) (v : LogVerdict) → serial_verdict log p u k ts t m ≡ v → x ≡ served_by v
    → IfGoes (serial_commit k x.loads x.outputs) x.words v
serial-is log p u k ts t m x (Goes e w) is served =
    record {
      commit = serial_commits log p u k ts t m e w is ∙ ap (λ (y : Served). serial_commit k y.loads y.outputs) (sym served);
      stored = ap (λ (y : Served). y.words) (sym served);
    }
serial-is log p u k ts t m x (Fails why) is served = tt

-- of a serial step, which has served this
pub serial_is : (log : LogParts) (p : Progress) (u : Used) (k : ℕ) (ts : List Parts) (t : Parts) (m : List ℕ) (x : Served) → x ≡ served_by (serial_verdict log p u k ts t m)
    → IfGoes (serial_commit k x.loads x.outputs) x.words (serial_verdict log p u k ts t m)
serial_is log p u k ts t m x served = serial-is log p u k ts t m x (serial_verdict log p u k ts t m) refl served
