use Rattle.spec_strata.proofs.Images.Canonical.{canonical_is_log}
use Rattle.spec_strata.proofs.promise.canonical_is_log.Goals as goal

pub returns : goal.returns
returns c = canonical_is_log
