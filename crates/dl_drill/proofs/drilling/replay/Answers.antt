use Rattle.std.proofs.Common.{◌∙◌}
use Rattle.std.proofs.lemmas.Result.{IfOk-weaker}
use Rattle.dl_drill.proofs.drilling.replay.Goals as goal

pub returns-clause-setup : goal.returns-clause-setup
returns-clause-setup c = IfOk-weaker c.new-2.result _ _ (λ run e. e ∙ c.in_ok-setup.ensures.value) c.new-2.ensures.setup
