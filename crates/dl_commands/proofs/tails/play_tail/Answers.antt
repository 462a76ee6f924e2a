use Rattle.spec_program.specs.commands.Tail.{outcome, reads, tail_at}
use Rattle.dl_gather.specs.Halts.{Halts}
use Rattle.dl_gather.proofs.Stopping.{halt_carried, stage_halts}
use Rattle.dl_commands.proofs.tails.play_tail.Goals as goal

pub returns-in_err-tail-clause-halt : goal.returns-in_err-tail-clause-halt
returns-in_err-tail-clause-halt g c =
    let name = c.args.name.now in
    let old = g.F.Files.seen c.args.files.now in
    let new = g.F.Files.seen c.read_good_tail.new.files in
    halt_carried c.from_residual.result c.in_err-tail.field-0.0 (Halts (λ m. outcome m name) (λ m. reads name) old new) c.from_residual.ensures.1
    (stage_halts (λ m. reads name) (λ m. tail_at m name) _ old new c.in_err-tail.field-0.0 c.in_err-tail.ensures.halt)

pub returns-clause-may : goal.returns-clause-may
returns-clause-may g c = (c.in_ok-tail.tail, c.in_ok-tell_tail.ensures)
