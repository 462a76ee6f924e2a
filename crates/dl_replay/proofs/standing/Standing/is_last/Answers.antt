use Rattle.std.proofs.Common.{ap, ◌∙◌}
use Rattle.spec_strata.specs.Standing.{is_last}
use Rattle.dl_replay.specs.Standings.{Stood, standing_from}
use Rattle.dl_replay.proofs.Standings.{last-by-greatest}
use Rattle.dl_replay.proofs.standing.Standing.is_last.Goals as goal

pub returns : goal.returns
returns c =
    let a = c.self.inside in
    let x = standing_from a.strata.value.strata a.place a.done.items a.before in
    last-by-greatest a.greatest c.args.thread x.done c.self.invariant.8
    ∙ ap (λ (y : Stood). is_last c.args.thread y.standing) c.self.view_is
