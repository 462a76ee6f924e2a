use Rattle.std.proofs.Common.{◌≡◌, map, ap, sym, subst, ◌∙◌, arith}
use Rattle.spec_log.specs.declared.log.LogParts.{LogParts}
use Rattle.spec_log.specs.declared.mode_name.ModeName.TheVariants.{OrderOnly}
use Rattle.spec_log.specs.Log.{IsLog}
use Rattle.spec_log.specs.Noting.{Kept, log_of}
use Rattle.spec_strata.specs.declared.strata.StrataParts.{StrataParts}
use Rattle.spec_strata.specs.Canonical.{canonical}
use Rattle.spec_strata.specs.Strata.{AreStrata}
use Rattle.spec_strata.proofs.Images.Canonical.{canonical_is_log}
use Rattle.dl_input.specs.Tracked.{interrupt_of}
use Rattle.dl_replay.proofs.lookup.Lookup+StrataMode.of_strata.Goals as goal

pub invariant_of-result : goal.invariant_of-result
invariant_of-result c =
    let v = c.args.strata.now.value in
    let here : c.deref.result.now ≡ v = grind arith in
    let threads : c.parts-parts.result.now.threads ≡ v.threads = ap (λ (x : StrataParts). x.threads) c.parts-parts.ensures.parts ∙ ap (λ (x : StrataParts). x.threads) here in
    let s : c.parts-parts.result.now.s ≡ v.s = ap (λ (x : StrataParts). x.s) c.parts-parts.ensures.parts ∙ ap (λ (x : StrataParts). x.s) here in
    let good = subst AreStrata here c.parts-parts.ensures.good in
    let kept = c.in_ok-log.ensures.kept in
    let interrupts : map interrupt_of c.in_ok-interrupts_of.field-0.entries ≡ v.interrupts = grind arith in
    let inputs : c.in_ok-inputs_of.field-0.inputs ≡ v.inputs = grind arith in
    let dmas : c.in_ok-dmas_of.field-0.dmas ≡ v.dmas = grind arith in
    let same : log_of 2 c.parts-parts.result.now.threads OrderOnly c.in_ok-log.log.logged.kept (map interrupt_of c.in_ok-interrupts_of.field-0.entries)
    c.in_ok-inputs_of.field-0.inputs c.in_ok-dmas_of.field-0.dmas ≡ canonical v =
    λ i. log_of 2 (threads i) OrderOnly (kept i) (interrupts i) (inputs i) (dmas i)
    in (
      subst (λ (l : LogParts). IsLog l) (sym same) (canonical_is_log v good),
      s ∙ sym (ap (λ (k : Kept). k.s) kept),
      c.count.ensures,
    )
