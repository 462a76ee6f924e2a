-- Marks, as the table keeps them.
use Rattle.std.specs.Prelude.{ℕ, ◌≤◌, nat_eq, List, All, if◌then◌else◌}
use Rattle.spec_strata.specs.declared.touch.Touch.{Touch}
use Rattle.spec_strata.specs.declared.touch.Touch.TheVariants.{Untouched}
use Rattle.dl_strata.specs.declared.touches.Mark.{Mark}

-- a mark counts in its own stratum
abbrev pub fresh : (stratum : ℕ) → Mark → Touch
fresh n mark = if nat_eq mark.stratum n then mark.touch else Untouched

-- none is of a later one
abbrev pub AreOld : (stratum : ℕ) → List Mark → Type 0
AreOld n marks = All (λ mark. mark.stratum ≤ n) marks
