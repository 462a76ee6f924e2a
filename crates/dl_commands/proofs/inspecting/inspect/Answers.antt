use Rattle.spec_program.specs.commands.Inspect.{outcome, reads}
use Rattle.spec_program.specs.Operands.{good_log_at}
use Rattle.dl_gather.specs.Halts.{Halts}
use Rattle.dl_gather.proofs.Stopping.{halt_carried, stage_halts}
use Rattle.std.proofs.Common.{List, ℕ, false, ap, ◌∙◌}
use Rattle.spec_program.specs.Outcomes.{said}
use Rattle.dl_commands.proofs.inspecting.inspect.Goals as goal

pub returns-in_err-log-clause-halt : goal.returns-in_err-log-clause-halt
returns-in_err-log-clause-halt g c =
    let log = c.args.log.now in
    let old = g.F.Files.seen c.args.files.now in
    let new = g.F.Files.seen c.read_good_log.new.files in
    halt_carried c.from_residual.result c.in_err-log.field-0.0 (Halts (λ m. outcome m log) (λ m. reads log) old new) c.from_residual.ensures.1
    (stage_halts (λ m. reads log) (λ m. good_log_at m log) _ old new c.in_err-log.field-0.0 c.in_err-log.ensures.halt)

pub returns-clause-may : goal.returns-clause-may
returns-clause-may g c = (c.in_ok-log.log, c.said.ensures ∙ ap (λ (text : List ℕ). said text false) c.in_ok-text.ensures)
