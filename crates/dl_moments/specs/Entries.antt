-- The values of all threads in one list, by thread and index.
use Rattle.std.specs.Prelude.{ℕ, suc, List, [], ◌∷◌, ◌++◌, map}
use Rattle.dl_moments.specs.declared.lane.Mark.{Mark}

-- the entries of a thread's values, and of the values of the threads after it
abbrev pub entries_from : {V X : Type 0} → (ℕ → Mark V → X) → ℕ → List (List (Mark V)) → List X
entries_from entry thread [] = []
entries_from entry thread (lane ∷ lanes) = map (entry thread) lane ++ entries_from entry (suc thread) lanes
