use Rattle.std.proofs.Common.{◌≡◌, ℕ, ◌+◌, ◌-◌, [], ◌∷◌, refl, ap, ◌∙◌, arith}
use Rattle.std.specs.Prelude.{replicate}
use Rattle.std.proofs.lemmas.Result.{err_from_is_err_and}
use Rattle.dl_strata.proofs.Checks.{leads-start, can-check, leads-more, leads-error, leads-end, one-of}
use Rattle.dl_strata.proofs.checker.Checker.check_thread.Goals as goal

pub loop-init : goal.loop-init
loop-init c =
    let all : c.args.count ≡ c.args.count - 0 = omega arith in
    record {
      strata = refl;
      left = leads-start c.args.self.now _ _ (ap (λ (n : ℕ). replicate n c.args.thread) all);
    }

pub check_chunk-requires : goal.check_chunk-requires
check_chunk-requires c =
    let n = c.args.count in
    let i : ℕ = c.loop.counter in
    let k = c.args.thread in
    can-check c.args.self.now c.loop.self (replicate n k) (replicate (n - i) k) (k ∷ []) (replicate (n - (i + 1)) k) (one-of n i k (omega (arith, c.loop-test.true))) c.loop.invariant.left c.requires

pub loop-preserved : goal.loop-preserved
loop-preserved c =
    let n = c.args.count in
    let i : ℕ = c.loop.counter in
    let k = c.args.thread in
    record {
      strata = c.in_ok-check_chunk.ensures.strata ∙ c.loop.invariant.strata;
      left = leads-more c.args.self.now c.loop.self c.check_chunk.new.self (replicate n k) (replicate (n - i) k) (k ∷ []) (replicate (n - (i + 1)) k) (one-of n i k (omega (arith, c.loop-test.true))) c.loop.invariant.left c.in_ok-check_chunk.ensures.checked;
    }

pub returns-in_err-check_chunk-clause-checked : goal.returns-in_err-check_chunk-clause-checked
returns-in_err-check_chunk-clause-checked c =
    let n = c.args.count in
    let i : ℕ = c.loop.counter in
    let k = c.args.thread in
    let p = err_from_is_err_and c.from_residual.result c.from_residual.ensures.1 in
    rw (p.1, p.2)
    (leads-error c.args.self.now c.loop.self c.check_chunk.new.self c.check_chunk.new.self (replicate n k) (replicate (n - i) k) (k ∷ []) (replicate (n - (i + 1)) k) _ (one-of n i k (omega (arith, c.loop-test.true))) c.loop.invariant.left
    c.in_err-check_chunk.ensures.checked)

pub returns-clause-checked : goal.returns-clause-checked
returns-clause-checked c =
    let n = c.args.count in
    let i : ℕ = c.loop.counter in
    let k = c.args.thread in
    let none : n - i ≡ 0 = omega (arith, c.loop.auto.counter-end, c.loop-test.false) in
    leads-end c.args.self.now c.loop.self (replicate n k) (replicate (n - i) k) (ap (λ (m : ℕ). replicate m k) none) c.loop.invariant.left
