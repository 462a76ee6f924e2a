use Rattle.std.proofs.Common.{◌≡◌, Ok, refl, ap, subst, ◌∙◌}
use Rattle.spec_play.specs.Effects.{Effect, serial_effect}
use Rattle.spec_play.specs.Verdicts.{serial_verdict}
use Rattle.dl_kernel.specs.StepResults.{result_in}
use Rattle.dl_kernel.specs.States.{PlayState as State}
use Rattle.dl_replay.specs.Following.{Following}
use Rattle.dl_replay.specs.Judged.{judged}
use Rattle.dl_replay.specs.Judging.{step_verdict}
use Rattle.dl_replay.proofs.replayer.Replayer.serve_step.Goals as goal

pub returns-in-Ok-clause-judged : goal.returns-in-Ok-clause-judged
returns-in-Ok-clause-judged g c p t a is =
    let s : State = c.args.state.now in
    let k = c.args.number in
    let d = c.in-Ok.field-0 in
    let effect : Effect = record (serial_effect k (result_in d.left)) { thread = d.finish.thread } in
    let said = rw c.in-Ok.is at (c.in_ok-left.ensures.verdict p t a is) in
    let verdict = subst (λ (x : Following). step_verdict k (Ok d) ≡ serial_verdict x.log p s.used k s.threads t s.memory) c.self.view_is said in
    c.commit.ensures.judged p effect a refl refl refl ∙ ap (judged c.args.self.now s p k) verdict
