use Rattle.std.proofs.Common.{◌≡◌, map, take}
use Rattle.dl_replay.specs.Starts.{start_of}
use Rattle.dl_replay.proofs.ready.starts_of.Given as goal

abbrev pub invariant-loop-stratum : goal.invariant-loop-stratum
invariant-loop-stratum l = l.starts.items ≡ map start_of (take l.stratum-index l.strata)
