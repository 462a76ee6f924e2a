use Rattle.std.proofs.Common.{◌∙◌, ◌+◌, ap, drop, map, refl, sym}
use Rattle.std.proofs.lemmas.List.{at_drop_more}
use Rattle.clap.specs.Words.{app_of}
use Rattle.dl_words.specs.Apps.{with_subcommands, app_by}
use Rattle.dl_words.proofs.Joining.{joined}
use Rattle.dl_words.proofs.apps.with_subcommands.Goals as goal

pub loop-name-preserved : goal.loop-name-preserved
loop-name-preserved c =
    let added = joined c.in_ok-command.ensures c.in_ok-subcommand.ensures.local refl c.in_ok-subcommand.ensures.app in
    ap (λ app. with_subcommands app (map app_by (drop (c.loop-name.name-index + 1) c.args.subcommands.now))) added
    ∙ sym (at_drop_more (λ rest. with_subcommands (app_of c.loop-name.command) (map app_by rest)) c.args.subcommands.now c.loop-name.name-index _ c.loop-name-test.true)
    ∙ c.loop-name.invariant
