use Rattle.spec_protocol.proofs.Points.Console.{console_is_put_out}
use Rattle.spec_protocol.proofs.promise.console_is_put_out.Goals as goal

pub returns : goal.returns
returns c = console_is_put_out
