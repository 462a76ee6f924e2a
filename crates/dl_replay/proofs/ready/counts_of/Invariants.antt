use Rattle.std.proofs.Common.{◌≡◌, take}
use Rattle.std.specs.List.{flat_map}
use Rattle.dl_replay.specs.Standings.{counts_of}
use Rattle.dl_replay.proofs.ready.counts_of.Given as goal

abbrev pub invariant-loop-stratum : goal.invariant-loop-stratum
invariant-loop-stratum l = l.counts.items ≡ flat_map (counts_of l.threads) (take l.stratum-index l.strata)
