use Rattle.std.proofs.Common.{◌∙◌, ap, sym}
use Rattle.dl_entry.specs.declared.SphereLine.{SphereLine}
use Rattle.dl_sphere.specs.Setups.{record_setup, replay_setup, role_setup}
use Rattle.spec_run.specs.Texts.{replay_line}
use Rattle.dl_run.proofs.Over.{line-plain, line-recorded, line-replayed}
use Rattle.dl_run.proofs.run.Run.line.Goals as goal

pub returns-in-Plain : goal.returns-in-Plain
returns-in-Plain c es over =
    ap SphereLine.Plain c.commits.ensures
    ∙ line-plain es c.args.self.now c.args.sphere over c.requires (sym c.role.ensures.value ∙ ap role_setup c.in-Plain.is)

pub returns-in-Record : goal.returns-in-Record
returns-in-Record c es over =
    ap SphereLine.Record c.commits-in-Record.ensures
    ∙ line-recorded es c.args.self.now c.args.sphere (record_setup c.in-Record.version c.in-Record.mode c.in-Record.epochs) over c.requires
    (sym c.role.ensures.value ∙ ap role_setup c.in-Record.is)

pub returns-in-Replay : goal.returns-in-Replay
returns-in-Replay c es over =
    let r = c.in-Replay.replay in
    line-replayed es c.args.self.now c.args.sphere (replay_setup r) c.since_first-commits.result c.end.result c.replay_line.result over c.requires
    (sym c.role.ensures.value ∙ ap role_setup c.in-Replay.is) c.since_first-commits.ensures c.end.ensures
    (λ y n. c.replay_line.ensures y n ∙ ap (λ o. replay_line o y c.end.result) c.interval.ensures)
