-- By the replayer's answer a commit went as its verdict says, or the replay leaves its log before it.
use Rattle.std.proofs.Common.{◌≡◌, ℕ, ◌+◌, Bool, true, false, Option, Some, None, refl, sym, ap, ◌∙◌}
use Rattle.std.proofs.lemmas.Bool.{true≢false}
use Rattle.dl_entry.specs.declared.Why.{Why}
use Rattle.spec_isa.specs.Words.{Stored}
use Rattle.std.specs.Prelude.{List}
use Rattle.spec_play.specs.Effects.{Effect}
use Rattle.spec_play.specs.Progress.{Progress, with_effect, with_dma, with_dma_used}
use Rattle.spec_play.specs.declared.used.Used.{Used}
use Rattle.spec_play.specs.Plays.{with_threads}
use Rattle.spec_play.specs.Transfers.{DmaVerdict, DmaGoes, DmaFails}
use Rattle.spec_play.specs.Verdicts.{LogVerdict, Goes, Fails}
use Rattle.spec_strata.specs.Standing.{Standing}
use Rattle.dl_kernel.specs.States.{PlayState as State}
use Rattle.dl_replay.specs.declared.verdict.Verdict.{Verdict}
use Rattle.dl_replay.specs.Following.{Following, diverged, followed}
use Rattle.dl_replay.specs.Judged.{Judged, judged, dma_judged}

went : Verdict → Bool
went Verdict.Went = true
went (Verdict.Diverged why) = false

why_in : Why → Verdict → Why
why_in d Verdict.Went = d
why_in d (Verdict.Diverged why) = why

-- The replay r judges the commit after progress p, of a sphere in state s, and leaves the replay new and the state t.
module _ (r : Following) (s : State) (p : Progress) (new : Following) (t : State) where
  -- a commit of thread k went: the verdict goes, and the replay and the state are as its effect says
  pub record HasGone (k : ℕ) (v : LogVerdict) : Type 0 where
    pub effect : Effect
    pub used : Used
    pub verdict : v ≡ Goes effect used
    pub replay : new ≡ followed r.log r.interval None (with_effect k effect p) used (with_threads k effect s.threads)
    pub state : t ≡ record s { threads = with_threads k effect s.threads; request = effect.request; last = Some k; commits = s.commits + 1; used = used }

  -- a DMA went
  pub record HasTransferred (v : DmaVerdict) : Type 0 where
    pub words : List Stored
    pub verdict : v ≡ DmaGoes words
    pub replay : new ≡ followed r.log r.interval None (with_dma p) (with_dma_used s.used) s.threads
    pub state : t ≡ record s { request = None; commits = s.commits + 1; used = with_dma_used s.used }

  -- it didn't: only the end is noted
  pub record HasFailed (why : Why) : Type 0 where
    pub replay : new ≡ diverged why s.commits r
    pub state : t ≡ s

  -- what the replayer has answered
  abbrev answered : Verdict → Judged
  answered verdict = record { verdict = verdict; replay = new; state = t }

  -- a commit that the replayer lets go, in no strata, has a verdict that goes
  pub gone : (k : ℕ) (v : LogVerdict) → r.strata ≡ None → answered Verdict.Went ≡ judged r s p k v → HasGone k v
  unfolding went
  gone k (Fails why) none is = absurd (true≢false (ap (λ (j : Judged). went j.verdict) is))
  gone k (Goes e u) none is =
      let so = is ∙ ap (λ (o : Option Standing). judged (record r { strata = o }) s p k (Goes e u)) none in
      record { effect = e; used = u; verdict = refl; replay = ap (λ (j : Judged). j.replay) so; state = ap (λ (j : Judged). j.state) so }

  -- one at which the replayer diverges has a verdict that fails, for that reason
  pub fails : (k : ℕ) (v : LogVerdict) (because : Why) → answered (Verdict.Diverged because) ≡ judged r s p k v → v ≡ Fails because
  unfolding went why_in
  fails k (Goes e u) because is = absurd (true≢false (sym (ap (λ (j : Judged). went j.verdict) is)))
  fails k (Fails why) because is = ap (λ w. Fails w) (sym (ap (λ (j : Judged). why_in because j.verdict) is))

  -- and then only the end is noted
  pub failed : (k : ℕ) (v : LogVerdict) (because : Why) → answered (Verdict.Diverged because) ≡ judged r s p k v → HasFailed because
  unfolding went why_in
  failed k (Goes e u) because is = absurd (true≢false (sym (ap (λ (j : Judged). went j.verdict) is)))
  failed k (Fails why) because is =
      let same : why ≡ because = sym (ap (λ (j : Judged). why_in because j.verdict) is) in
      record { replay = ap (λ (j : Judged). j.replay) is ∙ ap (λ w. diverged w s.commits r) same; state = ap (λ (j : Judged). j.state) is }

  -- a DMA that the replayer lets go, in no strata, has a verdict that goes
  pub dma-gone : (v : DmaVerdict) → r.strata ≡ None → answered Verdict.Went ≡ dma_judged r s p v → HasTransferred v
  unfolding went
  dma-gone (DmaFails why) none is = absurd (true≢false (ap (λ (j : Judged). went j.verdict) is))
  dma-gone (DmaGoes words) none is =
      let so = is ∙ ap (λ (o : Option Standing). dma_judged (record r { strata = o }) s p (DmaGoes words)) none in
      record { words = words; verdict = refl; replay = ap (λ (j : Judged). j.replay) so; state = ap (λ (j : Judged). j.state) so }

  -- one at which the replayer diverges has a verdict that fails, for that reason
  pub dma-fails : (v : DmaVerdict) (because : Why) → answered (Verdict.Diverged because) ≡ dma_judged r s p v → v ≡ DmaFails because
  unfolding went why_in
  dma-fails (DmaGoes words) because is = absurd (true≢false (sym (ap (λ (j : Judged). went j.verdict) is)))
  dma-fails (DmaFails why) because is = ap (λ w. DmaFails w) (sym (ap (λ (j : Judged). why_in because j.verdict) is))

  -- and then only the end is noted
  pub dma-failed : (v : DmaVerdict) (because : Why) → answered (Verdict.Diverged because) ≡ dma_judged r s p v → HasFailed because
  unfolding went why_in
  dma-failed (DmaGoes words) because is = absurd (true≢false (sym (ap (λ (j : Judged). went j.verdict) is)))
  dma-failed (DmaFails why) because is =
      let same : why ≡ because = sym (ap (λ (j : Judged). why_in because j.verdict) is) in
      record { replay = ap (λ (j : Judged). j.replay) is ∙ ap (λ w. diverged w s.commits r) same; state = ap (λ (j : Judged). j.state) is }
