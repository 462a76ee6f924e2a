use Rattle.spec_finishing.proofs.Ending.Function.{function_finishes}
use Rattle.spec_finishing.proofs.promise.finishing_is_a_function.Goals as goal

pub returns : goal.returns
returns c = function_finishes
