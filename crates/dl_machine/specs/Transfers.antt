-- What a DMA comes to.
use Rattle.std.specs.Prelude.{◌≡◌, Option, Some, None}
use Rattle.spec_sphere.specs.sphere.Commits.{CommitOutcome, MovedSphere}

-- there is one, with that outcome
abbrev pub ComesTo : CommitOutcome → Option MovedSphere → Type 0
ComesTo o None = ⊥
ComesTo o (Some v) = v.outcome ≡ o
