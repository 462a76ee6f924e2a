use Rattle.std.proofs.Common.{◌∙◌, ap}
use Rattle.std.proofs.lemmas.Result.{IfOk-weaker}
use Rattle.spec_tail.specs.Reading.{read_of}
use Rattle.dl_tail.proofs.TailLaws.{read_again}
use Rattle.dl_commands.proofs.running.bytes_of.Goals as goal

pub returns-clause-again : goal.returns-clause-again
returns-clause-again c = IfOk-weaker c.write_tail.result _ _ (λ bytes is. ap read_of is ∙ read_again c.args.tail.now c.parts.ensures.good) c.write_tail.ensures
