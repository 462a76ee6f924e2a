use Rattle.std.proofs.Common.{◌≡◌, ◌-◌, ◌++◌, map, take, replicate}
use Rattle.dl_replay.proofs.counting.commits_of.Given as goal

abbrev pub invariant-loop-number : goal.invariant-loop-number
invariant-loop-number l = l.commits ≡ map (λ t. t.commits) (take l.number l.threads) ++ replicate (63 - l.number) 0
