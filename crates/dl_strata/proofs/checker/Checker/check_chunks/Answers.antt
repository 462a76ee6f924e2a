use Rattle.std.proofs.Common.{◌≡◌, ℕ, ◌+◌, List, [], drop, get_or, refl, ap, ◌∙◌, arith}
use Rattle.std.specs.Prelude.{replicate}
use Rattle.std.proofs.Math.ListN.{drop_of_length-le}
use Rattle.std.proofs.lemmas.Result.{err_from_is_err_and}
use Rattle.spec_strata.specs.Canonical.{rising}
use Rattle.dl_strata.proofs.Checks.{leads-start, can-check, leads-more, leads-error, leads-end, thread-of}
use Rattle.dl_strata.proofs.checker.Checker.check_chunks.Goals as goal

pub loop-count-init : goal.loop-count-init
loop-count-init c =
    record {
      thread = refl;
      strata = refl;
      left = leads-start c.args.self.now (rising 0 c.args.counts.now) (rising 0 c.args.counts.now) refl;
    }

pub check_thread-requires : goal.check_thread-requires
check_thread-requires c =
    let now = c.loop-count in
    let i : ℕ = now.count-index in
    let xs : List ℕ = c.args.counts.now in
    can-check c.args.self.now now.self (rising 0 xs) (rising i (drop i xs)) (replicate (get_or xs i 0) now.thread) (rising (i + 1) (drop (i + 1) xs)) (thread-of xs i now.thread 0 now.invariant.thread c.loop-count-test.true) now.invariant.left c.requires.next

pub loop-count-preserved : goal.loop-count-preserved
loop-count-preserved c =
    let now = c.loop-count in
    let i : ℕ = now.count-index in
    let xs : List ℕ = c.args.counts.now in
    let thread = now.invariant.thread in
    record {
      thread = omega (arith, thread);
      strata = c.in_ok-check_thread.ensures.strata ∙ now.invariant.strata;
      left = leads-more c.args.self.now now.self c.check_thread.new.self (rising 0 xs) (rising i (drop i xs)) (replicate (get_or xs i 0) now.thread) (rising (i + 1) (drop (i + 1) xs)) (thread-of xs i now.thread 0 thread c.loop-count-test.true) now.invariant.left
          c.in_ok-check_thread.ensures.checked;
    }

pub returns-in_err-check_thread-clause-checked : goal.returns-in_err-check_thread-clause-checked
returns-in_err-check_thread-clause-checked c =
    let now = c.loop-count in
    let i : ℕ = now.count-index in
    let xs : List ℕ = c.args.counts.now in
    let p = err_from_is_err_and c.from_residual.result c.from_residual.ensures.1 in
    rw (p.1, p.2)
    (leads-error c.args.self.now now.self c.check_thread.new.self c.check_thread.new.self (rising 0 xs) (rising i (drop i xs)) (replicate (get_or xs i 0) now.thread) (rising (i + 1) (drop (i + 1) xs)) _ (thread-of xs i now.thread 0 now.invariant.thread c.loop-count-test.true) now.invariant.left
    c.in_err-check_thread.ensures.checked)

pub returns-clause-checked : goal.returns-clause-checked
returns-clause-checked c =
    let now = c.loop-count in
    let i : ℕ = now.count-index in
    let xs : List ℕ = c.args.counts.now in
    let none : drop i xs ≡ [] = drop_of_length-le xs c.loop-count-test.false in
    leads-end c.args.self.now now.self (rising 0 xs) (rising i (drop i xs)) (ap (rising i) none) now.invariant.left
