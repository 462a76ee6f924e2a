-- What a list of values by rising indices is seen as.
use Rattle.std.specs.Prelude.{◌≡◌, ℕ, ◌≤◌, Bool, List, [], slice_index_or}
use Rattle.dl_moments.specs.declared.lane.Mark.{Mark}

-- the values by rising indices, and whether there is room for one more
pub record LaneState (V : Type 0) : Type 0 where
  pub marks : List (Mark V)
  pub room : Bool

-- each thread's values by rising indices, and whether there is room for one more of any thread
pub record By (V : Type 0) : Type 0 where
  pub lanes : List (List (Mark V))
  pub room : Bool

-- from thread n on, none has a value
abbrev pub HaveNone : {V : Type 0} → ℕ → List (List (Mark V)) → Type 0
HaveNone n lanes = (thread : ℕ) → n ≤ thread → slice_index_or lanes thread [] ≡ []
