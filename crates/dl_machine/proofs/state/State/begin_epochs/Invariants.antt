use Rattle.dl_machine.proofs.Worlds.Begun.{HaveBegun}
use Rattle.dl_machine.proofs.state.State.begin_epochs.Given as goal

abbrev pub invariant-loop-i : goal.invariant-loop-i
invariant-loop-i g l = HaveBegun l.initial.self l.self l.i
