use Rattle.spec_engine.proofs.Stepping.{steps_are}
use Rattle.spec_engine.proofs.laws.steps_are_instructions.Goals as goal

pub returns : goal.returns
returns c = steps_are
