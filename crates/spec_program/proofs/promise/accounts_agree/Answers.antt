use Rattle.spec_program.proofs.Agreeing.{accounts_agree}
use Rattle.spec_program.proofs.promise.accounts_agree.Goals as goal

pub returns : goal.returns
returns c = accounts_agree
