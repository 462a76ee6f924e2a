use Rattle.std.proofs.Common.{◌≡◌, ◌-◌}
use Rattle.spec_protocol.specs.machine.Finishing.{untold}
use Rattle.dl_finish.proofs.next.untold.Given as goal

abbrev pub invariant-loop-core : goal.invariant-loop-core
invariant-loop-core l = untold l.core (l.cores - l.core) l.told ≡ untold 0 l.cores l.told
