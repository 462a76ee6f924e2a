use Rattle.std.proofs.Common.{◌≡◌, ◌∙◌, ◌++◌, List, [], ◌∷◌, Some, ap, sym, subst, All, take}
use Rattle.std.specs.Prelude.{slice_get}
use Rattle.spec_isa.specs.declared.thread.Parts.{Parts}
use Rattle.dl_run.specs.Tails.{AreWords}
use Rattle.dl_run.proofs.Words.{all-more, take-next}
use Rattle.dl_run.proofs.tails.parts_of.Goals as goal

pub loop-number-preserved : goal.loop-number-preserved
loop-number-preserved c =
    let ts = c.args.threads.now in
    let n = c.loop-number.number in
    let t = c.parts-thread.result in
    let inv = c.loop-number.invariant in
    let pushed = c.in_ok-push.ensures.ok in
    let there : slice_get ts n ≡ Some t = c.thread_at.ensures.thread ∙ ap (λ (u : Parts). Some u) (sym c.parts-thread.ensures.value) in (
      pushed ∙ ap (λ (xs : List Parts). xs ++ t ∷ []) inv.0 ∙ sym (take-next ts n t there),
      subst (All AreWords) (sym pushed) (all-more AreWords c.loop-number.parts t inv.1 (record { words = c.see_words.ensures.words; code = c.see_words.ensures.code })),
    )
