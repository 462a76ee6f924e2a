-- Walks over whole logs.
use Rattle.spec_play.specs.declared.WalkEnd.{WalkEnd}

-- the walk has come to the end of its log
abbrev pub HasEnded : WalkEnd → Type 0
HasEnded (WalkEnd.Ended how) = Unit {0}
HasEnded (WalkEnd.Reached i) = ⊥
