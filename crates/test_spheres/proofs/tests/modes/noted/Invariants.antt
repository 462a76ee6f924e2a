use Rattle.std.proofs.Common.{◌≡◌, ℕ, ◌≤◌, slice_index}
use Rattle.test_spheres.proofs.tests.modes.noted.Given as goal

abbrev pub invariant-loop-code : goal.invariant-loop-code
invariant-loop-code g l =
    let kept = (g.M.Mode.logged l.log).kept in
    (kept.count ≡ l.code-index) × ((t : ℕ) → slice_index kept.done t ≤ l.code-index)
