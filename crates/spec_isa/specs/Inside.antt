-- Words inside a memory.
use Rattle.std.specs.Prelude.{ℕ, ◌+◌, ◌*◌, ◌≤◌, List, [], ◌∷◌}
use Rattle.spec_isa.specs.Words.{Stored}

-- ---- what calls on one slot require

-- each of these words lies in a memory of that size
abbrev pub AreInside : (size : ℕ) → List Stored → Type 0
AreInside size [] = Unit {0}
AreInside size (s ∷ ss) = (4 * s.number + 4 ≤ size) × AreInside size ss
