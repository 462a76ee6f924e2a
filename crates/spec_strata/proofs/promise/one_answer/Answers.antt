use Rattle.spec_strata.proofs.Images.Answers.{one_answer}
use Rattle.spec_strata.proofs.promise.one_answer.Goals as goal

pub returns : goal.returns
returns c = one_answer
