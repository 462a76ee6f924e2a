use Rattle.spec_strata.proofs.Local.Stopping.{footprints_stay}
use Rattle.spec_strata.proofs.promise.footprints_stay.Goals as goal

pub returns : goal.returns
returns c = footprints_stay
