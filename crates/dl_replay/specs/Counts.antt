-- How many commits each thread has done.
use Rattle.std.specs.Prelude.{ℕ, ◌-◌, List, ◌++◌, length, map, replicate, Option, Some, None}
use Rattle.spec_isa.specs.declared.thread.Parts.{Parts}
use Rattle.spec_isa.specs.Numbers.{row_places}

-- by its place in a row, 0 where there is no thread
abbrev pub commits_of : List Parts → List ℕ
commits_of threads = map (λ t. t.commits) threads ++ replicate (row_places - length threads) 0

abbrev pub commits_at : Option Parts → ℕ
commits_at None = 0
commits_at (Some t) = t.commits
