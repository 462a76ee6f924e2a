use Rattle.std.proofs.Common.{◌≡◌, ◌++◌, take, flat_map}
use Rattle.dl_account.specs.Commits.{output_line}
use Rattle.dl_account.proofs.commits.put_outputs.Given as goal

abbrev pub invariant-loop-output : goal.invariant-loop-output
invariant-loop-output l = l.text ≡ l.initial.text ++ flat_map output_line (take l.output-index l.outputs)
