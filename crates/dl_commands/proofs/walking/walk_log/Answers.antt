use Rattle.dl_words.specs.Commands.{playback_view as named}
use Rattle.spec_program.specs.commands.Walk.{outcome}
use Rattle.spec_program.specs.Operands.{playback_at, playback_reads}
use Rattle.dl_gather.specs.Halts.{Halts}
use Rattle.dl_gather.proofs.Stopping.{halt_carried, stage_halts}
use Rattle.dl_gather.specs.Inputs.{playback_view}
use Rattle.dl_commands.proofs.walking.walk_log.Goals as goal

pub returns-in_err-read-clause-halt : goal.returns-in_err-read-clause-halt
returns-in_err-read-clause-halt g c =
    let p = named c.args.playback.now in
    let old = g.F.Files.seen c.args.files.now in
    let new = g.F.Files.seen c.read_playback.new.files in
    halt_carried c.from_residual.result c.in_err-read.field-0.0 (Halts (λ m. outcome m p) (λ m. playback_reads p) old new) c.from_residual.ensures.1
    (stage_halts (λ m. playback_reads p) (λ m. playback_at m p) _ old new c.in_err-read.field-0.0 c.in_err-read.ensures.halt)

pub returns-clause-may : goal.returns-clause-may
returns-clause-may g c = (playback_view c.in_ok-read.read, c.in_ok-walk_whole.ensures)
