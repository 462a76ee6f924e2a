use Rattle.std.proofs.Common.{◌≡◌, false, drop}
use Rattle.clap.specs.Words.{app_of}
use Rattle.clap.specs.declared.Command.TheViews.{out-Command as fields_of}
use Rattle.dl_words.specs.Apps.{subcommand, with_operands, texts}
use Rattle.dl_words.proofs.apps.subcommand.Given as goal

-- with the operands to come all are there, and no option is global
abbrev pub invariant-loop-operand : goal.invariant-loop-operand
invariant-loop-operand l =
    (with_operands (app_of l.command) (texts (drop l.operand-index l.operands)) ≡ subcommand l.name (texts l.operands))
    × ((fields_of l.command).has_globals ≡ false)
