use Rattle.dl_words.specs.Commands.{query_view}
use Rattle.spec_program.specs.commands.Query.{outcome}
use Rattle.spec_program.specs.Operands.{playback_at, playback_reads}
use Rattle.dl_gather.specs.Halts.{Halts}
use Rattle.dl_gather.proofs.Stopping.{halt_carried, stage_halts}
use Rattle.dl_gather.specs.Inputs.{playback_view}
use Rattle.dl_commands.proofs.querying.answer_query.Goals as goal

pub returns-in_err-read-clause-halt : goal.returns-in_err-read-clause-halt
returns-in_err-read-clause-halt g c =
    let q = query_view c.args.query.now in
    let old = g.F.Files.seen c.args.files.now in
    let new = g.F.Files.seen c.read_playback.new.files in
    halt_carried c.from_residual.result c.in_err-read.field-0.0 (Halts (λ m. outcome m q) (λ m. playback_reads q.playback) old new) c.from_residual.ensures.1
    (stage_halts (λ m. playback_reads q.playback) (λ m. playback_at m q.playback) _ old new c.in_err-read.field-0.0 c.in_err-read.ensures.halt)

pub returns-clause-may : goal.returns-clause-may
returns-clause-may g c = (playback_view c.in_ok-read.read, c.in_ok-answer_read.ensures)
