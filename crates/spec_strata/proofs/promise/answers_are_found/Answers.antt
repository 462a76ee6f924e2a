use Rattle.spec_strata.proofs.Images.Found.{answers_are_found}
use Rattle.spec_strata.proofs.promise.answers_are_found.Goals as goal

pub returns : goal.returns
returns c = answers_are_found
