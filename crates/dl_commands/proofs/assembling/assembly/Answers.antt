use Rattle.std.proofs.Common.{◌∙◌, ℕ, List, Result, Err, ap, sym, subst}
use Rattle.dl_asm.specs.Promise.{Refuses}
use Rattle.spec_program.specs.declared.status.Refusal.{Refusal}
use Rattle.spec_program.specs.Lines.{source_line}
use Rattle.spec_program.specs.Stages.{Refused}
use Rattle.dl_commands.proofs.Assembled.{file_made, line_refused}
use Rattle.dl_commands.proofs.assembling.assembly.Goals as goal

pub returns-in-Ok-clause-file : goal.returns-in-Ok-clause-file
returns-in-Ok-clause-file c = file_made c.args.bytes.now c.in-Ok.file.items c.in-Ok.ensures.assembled

refused_by : List ℕ → Result (List ℕ) Refused
refused_by text = Err (record { why = Refusal.Source; line = text })

pub returns-in_ok-source_line-in-Err-Refused-clause-halt : goal.returns-in_ok-source_line-in-Err-Refused-clause-halt
unfolding refused_by
returns-in_ok-source_line-in-Err-Refused-clause-halt c =
    let line = c.in-Err-Refused.line in
    let rule = c.in-Err-Refused.rule in (
      line_refused c.args.bytes.now line rule (subst (Refuses c.args.bytes.now) c.in-Err-Refused.field-0-is c.in-Err-Refused.ensures.refused)
          ∙ ap refused_by (sym (c.in_ok-source_line-in-Err-Refused.ensures ∙ ap (source_line line) c.number.ensures)),
      (λ e. absurd cc),
      (λ e. absurd cc),
      (line, c.number.result, c.in_ok-source_line-in-Err-Refused.ensures),
    )
