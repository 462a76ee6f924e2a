use Rattle.std.proofs.Common.{◌≡◌, ℕ, ◌<◌, map}
use Rattle.dl_strata.specs.Kinds.{IsAsHeld}
use Rattle.dl_strata.proofs.kinds.first_other.Given as goal

-- those so far are as held
abbrev pub invariant-loop-commit : goal.invariant-loop-commit
invariant-loop-commit l = record {
  index : l.index ≡ l.commit-index;
  held : (j : ℕ) → j < l.index → IsAsHeld (map (λ c. c.kind) l.commits) l.kinds j;
}
