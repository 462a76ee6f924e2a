use Rattle.std.proofs.Common.{◌≡◌, List, [], drop, length, refl, sym, ap, ◌∙◌, subst, arith}
use Rattle.std.proofs.Math.ListN.{drop_of_length-le}
use Rattle.std.proofs.lemmas.Result.{err_from_is_err_and}
use Rattle.spec_log.specs.declared.LogParts.{LogParts}
use Rattle.spec_play.specs.Plays.{opened}
use Rattle.spec_strata.specs.declared.stratum.Stratum.{Stratum}
use Rattle.spec_strata.specs.declared.strata.StrataParts.{StrataParts}
use Rattle.dl_serial.specs.Playing.{Playing}
use Rattle.dl_strata.specs.Checking.{conflicts}
use Rattle.dl_strata.specs.Conflicts.{IsBetween}
use Rattle.dl_strata.proofs.Checks.{can-check-next, checked-next, checked-error}
use Rattle.dl_strata.proofs.Conflicts.{before-first, left-none}
use Rattle.dl_strata.proofs.Fitting.{strata-come}
use Rattle.dl_strata.proofs.checking.check_conflicts.Goals as goal

pub loop-stratum-init : goal.loop-stratum-init
loop-stratum-init c =
    let v = c.args.v.now in
    let i = c.args.image.now in
    let all = conflicts v i.bytes i.entry in
    let checker = c.in_ok-checker.checker in
    let strata = c.as_slice-strata.ensures ∙ ap (λ (p : StrataParts). p.strata) c.parts.ensures.parts in
    let stratum = c.in_ok-checker.ensures.stratum in
    let least = c.parts.ensures.good.s.0 in
    let player = c.in_ok-checker.ensures.player ∙ ap (λ (l : LogParts). let p : Playing = record { log = l; played = opened l i.bytes i.entry; stores = [] } in p) c.requires.log in
    record {
      strata = omega (arith, stratum);
      left = subst (λ (xs : List Stratum). IsBetween all checker.player checker.touches.touches xs) (sym strata)
          (subst (λ (p : Playing). IsBetween all p checker.touches.touches v.strata) (sym player)
          (before-first v i.bytes i.entry checker.touches.touches (omega (arith, least)) c.in_ok-checker.ensures.words (strata-come v i.bytes i.entry c.requires.fits)));
    }

pub check-requires-clause-strata : goal.check-requires-clause-strata
check-requires-clause-strata c =
    let strata = ap (λ (xs : List Stratum). length xs) (c.as_slice-strata.ensures ∙ ap (λ (p : StrataParts). p.strata) c.parts.ensures.parts) in
    let few = c.parts.ensures.good.few in
    let below = c.loop-stratum-test.true in
    let done = c.loop-stratum.invariant.strata in
    omega (arith, strata, few, below, done)

pub check-requires-clause-next : goal.check-requires-clause-next
check-requires-clause-next c =
    let v = c.args.v.now in
    let i = c.args.image.now in
    can-check-next (conflicts v i.bytes i.entry) c.loop-stratum.checker c.as_slice-strata.result.now c.loop-stratum.stratum-index c.stratum-item.result c.loop-stratum-test.true c.stratum-item.is c.loop-stratum.invariant.left

pub loop-stratum-preserved : goal.loop-stratum-preserved
loop-stratum-preserved c =
    let v = c.args.v.now in
    let i = c.args.image.now in
    let done = c.loop-stratum.invariant.strata in
    let grown = c.in_ok-check.ensures.strata in
    record {
      strata = omega (arith, done, grown);
      left = checked-next (conflicts v i.bytes i.entry) c.loop-stratum.checker c.check.new.self c.as_slice-strata.result.now c.loop-stratum.stratum-index c.stratum-item.result c.loop-stratum-test.true c.stratum-item.is
          c.loop-stratum.invariant.left c.in_ok-check.ensures.checked;
    }

pub returns-in_err-check : goal.returns-in_err-check
returns-in_err-check c =
    let v = c.args.v.now in
    let i = c.args.image.now in
    let p = err_from_is_err_and c.from_residual-in_err-check.result c.from_residual-in_err-check.ensures.1 in
    rw (p.1, p.2)
    (checked-error (conflicts v i.bytes i.entry) c.loop-stratum.checker c.check.new.self c.as_slice-strata.result.now c.loop-stratum.stratum-index c.stratum-item.result _ c.loop-stratum-test.true c.stratum-item.is
    c.loop-stratum.invariant.left c.in_err-check.ensures.checked)

pub returns : goal.returns
returns c =
    let v = c.args.v.now in
    let i = c.args.image.now in
    let none : drop c.loop-stratum.stratum-index c.as_slice-strata.result.now ≡ [] = drop_of_length-le c.as_slice-strata.result.now c.loop-stratum-test.false in
    let checker = c.loop-stratum.checker in
    let end = subst (λ (xs : List Stratum). IsBetween (conflicts v i.bytes i.entry) checker.player checker.touches.touches xs) none c.loop-stratum.invariant.left in
    left-none (conflicts v i.bytes i.entry) _ _ (λ j. refl) end.left
