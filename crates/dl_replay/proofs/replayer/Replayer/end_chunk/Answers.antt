use Rattle.std.proofs.Common.{◌≡◌, Ok, refl, ap, subst, ◌∙◌}
use Rattle.spec_play.specs.Effects.{Effect, chunk_effect}
use Rattle.spec_play.specs.Verdicts.{chunk_verdict}
use Rattle.dl_kernel.specs.States.{PlayState as State}
use Rattle.dl_replay.specs.Following.{Following}
use Rattle.dl_replay.specs.Judged.{judged}
use Rattle.dl_replay.specs.Judging.{verdict_of}
use Rattle.dl_replay.proofs.replayer.Replayer.end_chunk.Goals as goal

pub returns-in-Ok-clause-judged : goal.returns-in-Ok-clause-judged
returns-in-Ok-clause-judged g c p run a same long =
    let r : Following = c.args.self.now in
    let s : State = c.args.state.now in
    let k = c.args.number in
    let f = c.in-Ok.finish in
    let said = c.in-Ok.ensures.verdict p run same long in
    let verdict = subst (λ (x : Following). verdict_of (Ok f) (chunk_effect k p.request run) ≡ chunk_verdict x.log p s.used k run) c.self.view_is said in
    let effect : Effect = record (chunk_effect k p.request run) { thread = f.thread } in
    c.commit.ensures.judged p effect a refl refl a.request ∙ ap (judged r s p k) verdict
