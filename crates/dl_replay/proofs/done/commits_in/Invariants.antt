use Rattle.std.proofs.Common.{◌≡◌, take}
use Rattle.spec_strata.specs.Strata.{commits_in_all}
use Rattle.dl_replay.proofs.done.commits_in.Given as goal

-- those so far are added
abbrev pub invariant-loop-stratum : goal.invariant-loop-stratum
invariant-loop-stratum l = l.commits ≡ commits_in_all (take l.stratum-index l.strata)
