use Rattle.spec_interval.proofs.Joining.{slices_are_accounts}
use Rattle.spec_interval.proofs.promise.slices_are_accounts.Goals as goal

pub returns : goal.returns
returns c = slices_are_accounts
