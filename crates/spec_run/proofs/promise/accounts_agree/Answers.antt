use Rattle.spec_run.proofs.Agreeing.{accounts_agree}
use Rattle.spec_run.proofs.promise.accounts_agree.Goals as goal

pub returns : goal.returns
returns c = accounts_agree
