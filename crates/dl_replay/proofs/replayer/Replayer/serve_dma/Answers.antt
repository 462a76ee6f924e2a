use Rattle.std.proofs.Common.{◌≡◌, Ok, ap, subst, ◌∙◌}
use Rattle.spec_play.specs.Transfers.{dma_verdict}
use Rattle.dl_kernel.specs.States.{PlayState as State}
use Rattle.dl_replay.specs.Following.{Following}
use Rattle.dl_replay.specs.Judged.{dma_judged}
use Rattle.dl_replay.specs.Judging.{transfer_verdict}
use Rattle.dl_replay.proofs.replayer.Replayer.serve_dma.Goals as goal

pub returns-in-Ok-clause-judged : goal.returns-in-Ok-clause-judged
returns-in-Ok-clause-judged g c p a =
    let r : Following = c.args.self.now in
    let s : State = c.args.state.now in
    let words = c.in-Ok.words in
    let said = rw c.in-Ok.is at (c.in_ok-words.ensures.verdict p a) in
    let verdict = subst (λ (x : Following). transfer_verdict (Ok words) ≡ dma_verdict x.log p s.used) c.self.view_is said in
    c.commit_dma.ensures.judged p words.words a ∙ ap (dma_judged r s p) verdict
