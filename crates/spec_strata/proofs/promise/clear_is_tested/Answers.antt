use Rattle.spec_strata.proofs.Shares.Testing.{clear_is_tested}
use Rattle.spec_strata.proofs.promise.clear_is_tested.Goals as goal

pub returns : goal.returns
returns c = clear_is_tested
