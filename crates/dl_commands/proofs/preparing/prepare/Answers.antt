use Rattle.std.proofs.Common.{ap, sym, ◌∙◌, subst}
use Rattle.std.specs.Prelude.{IfErr, IfOk, ok_or, option_map}
use Rattle.dl_words.specs.Commands.{command_view}
use Rattle.spec_program.specs.Asked.{outcome_for, reads_of_command, usage}
use Rattle.spec_program.specs.Stages.{◌>>◌}
use Rattle.dl_gather.specs.Halts.{Halts}
use Rattle.dl_commands.specs.Jobs.{finish_of}
use Rattle.dl_commands.specs.Untold.{MayFinishIf}
use Rattle.dl_commands.proofs.preparing.prepare.Goals as goal

pub returns-in-Ok-Some-clause-halt : goal.returns-in-Ok-Some-clause-halt
returns-in-Ok-Some-clause-halt g c =
    subst (λ o. IfErr c.compute_command.result (Halts (λ m. ok_or o usage >> outcome_for m) (λ m. reads_of_command m o) (g.F.Files.seen c.args.files.now) (g.F.Files.seen c.compute_command.new.files)))
    (ap (option_map command_view) (sym c.in-Ok-Some.field-0-is) ∙ c.in-Ok-Some.ensures)
    c.compute_command.ensures.halt

pub returns-in-Ok-Some-clause-may : goal.returns-in-Ok-Some-clause-may
returns-in-Ok-Some-clause-may g c =
    subst (λ o. IfOk c.compute_command.result (λ job. MayFinishIf (g.F.Files.seen c.args.files.now).known o (finish_of job)))
    (ap (option_map command_view) (sym c.in-Ok-Some.field-0-is) ∙ c.in-Ok-Some.ensures)
    c.compute_command.ensures.may
