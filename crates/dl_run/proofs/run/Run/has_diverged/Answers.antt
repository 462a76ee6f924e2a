use Rattle.std.proofs.Common.{◌∙◌, ap, sym}
use Rattle.dl_sphere.specs.Setups.{replay_setup, role_setup}
use Rattle.dl_run.proofs.Over.{diverges-replayed}
use Rattle.dl_run.proofs.run.Run.has_diverged.Goals as goal

pub returns-in-Replay : goal.returns-in-Replay
returns-in-Replay c =
    let over = c.role.ensures.over in
    c.is_divergence.ensures
    ∙ diverges-replayed over.0 c.args.self.now c.args.sphere (replay_setup c.in-Replay.field-0) c.end.result over.1 c.requires
    (sym c.role.ensures.value ∙ ap role_setup c.in-Replay.is) c.end.ensures
