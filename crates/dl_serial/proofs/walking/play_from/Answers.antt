use Rattle.dl_kernel.specs.States.{state_in}
use Rattle.dl_serial.proofs.Resumed.{can-go-on}
use Rattle.dl_serial.proofs.walking.play_from.Goals as goal

pub play_state-requires-clause-state : goal.play_state-requires-clause-state
play_state-requires-clause-state c = can-go-on c.args.log.now (state_in c.args.from) c.requires.state
