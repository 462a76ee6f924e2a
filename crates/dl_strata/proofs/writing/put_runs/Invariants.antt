use Rattle.std.proofs.Common.{◌≡◌, ◌++◌, take}
use Rattle.std.specs.List.{flat_map}
use Rattle.spec_strata.specs.Bytes.{stratum_bytes}
use Rattle.dl_strata.proofs.writing.put_runs.Given as goal

-- those so far are put
abbrev pub invariant-loop-run : goal.invariant-loop-run
invariant-loop-run l = l.out.items ≡ l.initial.out.items ++ flat_map stratum_bytes (take l.run-index l.runs)
