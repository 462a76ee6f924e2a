use Rattle.std.proofs.Common.{◌≡◌, ◌∙◌, ◌+◌, ap, drop, false, rules, sym, true}
use Rattle.std.proofs.lemmas.List.{at_drop_more}
use Rattle.clap.specs.Words.{Rule, app_of, rule_of, with_rule}
use Rattle.dl_words.specs.Apps.{with_operands, texts}
use Rattle.dl_words.proofs.Joining.{still}
use Rattle.dl_words.proofs.apps.subcommand.Goals as goal

pub loop-operand-preserved : goal.loop-operand-preserved
loop-operand-preserved c =
    let local : c.required.result.global ≡ false = search rules in
    let rule = ap rule_of c.required.ensures ∙ ap (λ (rule : Rule). record rule { required = true }) c.new.ensures.rule in
    let added = c.in_ok-command.ensures.shape local ∙ ap (with_rule (app_of c.loop-operand.command)) rule in (
      ap (λ app. with_operands app (texts (drop (c.loop-operand.operand-index + 1) c.args.operands.now))) added
          ∙ sym (at_drop_more (λ rest. with_operands (app_of c.loop-operand.command) (texts rest)) c.args.operands.now c.loop-operand.operand-index _ c.loop-operand-test.true)
          ∙ c.loop-operand.invariant.0,
      c.in_ok-command.ensures.globals ∙ still _ c.required.result.global local ∙ c.loop-operand.invariant.1,
    )
