-- What a stratum costs: its commits and their instructions.
use Rattle.std.specs.Prelude.{◌≡◌, ℕ, suc, List, [], ◌∷◌, ◌≤◌, ◌+◌}
use Rattle.dl_entry.specs.declared.Commit.{Commit}
use Rattle.spec_log.specs.declared.LogParts.{LogParts}
use Rattle.spec_play.specs.Effects.{chunk_commit}
use Rattle.spec_play.specs.Plays.{Played}
use Rattle.spec_strata.specs.Shares.{bump, state_at, shares_at}
use Rattle.spec_strata.specs.Orders.{StepsOn}
use Rattle.spec_strata.specs.InPlay.{rule_of, commits_of}

-- commits and instructions
abbrev pub cost_of : List Commit → ℕ
cost_of [] = 0
cost_of (c ∷ cs) = suc c.size + cost_of cs

-- the stratum's commits, with so many of each thread
abbrev pub stratum_cost : LogParts → Played → (done : ℕ → ℕ) → ℕ
stratum_cost log y done = cost_of (commits_of chunk_commit (shares_at (rule_of log) y.memory y.threads done))

-- With fewer commits done a stratum has cost no more.
abbrev pub CostsGrow : Type 0
CostsGrow =
    (log : LogParts) (y : Played) (done count : ℕ → ℕ) → ((j : ℕ) → done j ≤ count j)
    → stratum_cost log y done ≤ stratum_cost log y count

-- Each commit costs itself and its instructions.
abbrev pub CostsStep : Type 0
CostsStep =
    (log : LogParts) (y z : Played) (done : ℕ → ℕ) (k : ℕ)
    → let at_ = state_at (rule_of log) y.memory y.threads in
    (s : StepsOn log y z (at_ done) (at_ (bump done k)) k)
    → stratum_cost log y (bump done k) ≡ suc s.commit.size + stratum_cost log y done
