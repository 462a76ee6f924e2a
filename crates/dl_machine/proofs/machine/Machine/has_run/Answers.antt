use Rattle.std.proofs.Common.{subst}
use Rattle.dl_machine.specs.Runs.{HasRun}
use Rattle.dl_machine.proofs.machine.Machine.has_run.Goals as goal

pub returns : goal.returns
returns g c = subst HasRun c.self.view_is c.self.invariant
