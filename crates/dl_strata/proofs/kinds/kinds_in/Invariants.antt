use Rattle.std.proofs.Common.{◌≡◌, take}
use Rattle.std.specs.List.{flat_map}
use Rattle.spec_strata.specs.OnImages.{kinds_of}
use Rattle.dl_strata.proofs.kinds.kinds_in.Given as goal

-- the kinds of those so far
abbrev pub invariant-loop-run : goal.invariant-loop-run
invariant-loop-run l = l.kinds ≡ flat_map kinds_of (take l.run-index l.runs)
