use Rattle.std.proofs.Common.{ap, sym, ◌∙◌}
use Rattle.spec_play.specs.Walks.{Walked}
use Rattle.dl_gather.proofs.Begins.{begins_there, has_come}
use Rattle.dl_gather.proofs.intervals.begin.Goals as goal

pub returns-clause-begun : goal.returns-clause-begun
returns-clause-begun c =
    λ role.
    let log = c.args.log.now in
    let image = c.args.image.now in
    let i = c.args.interval in
    let ends = ap (λ (w : Walked). w.end) c.in_ok-walked.ensures.walked in
    record {
      within = c.requires;
      state = c.in_ok-walked.ensures.state ∙ sym (begins_there log image.bytes image.entry i c.requires);
      come = has_come log image.bytes image.entry i c.requires c.in_ok-walked.walked.end c.diverged_before.result ends c.diverged_before.ensures;
    }
