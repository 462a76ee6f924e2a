use Rattle.spec_program.proofs.Drilling.{drill_reproduced}
use Rattle.spec_program.proofs.promise.drills_are_reproduced.Goals as goal

pub returns : goal.returns
returns c = drill_reproduced
