use Rattle.std.proofs.Common.{◌≡◌, drop}
use Rattle.dl_plan.specs.Names.{all_differ}
use Rattle.dl_plan.specs.Views.{texts}
use Rattle.dl_plan.proofs.names.all_differ.Given as goal

-- the names from here on differ exactly where all do
abbrev pub invariant-loop-i : goal.invariant-loop-i
invariant-loop-i l = all_differ (texts (drop l.i l.names)) ≡ all_differ (texts l.names)
