use Rattle.std.proofs.Common.{◌≡◌, map, drop}
use Rattle.clap.specs.Words.{app_of}
use Rattle.dl_words.specs.Apps.{with_subcommands, app_by}
use Rattle.dl_words.proofs.apps.with_subcommands.Given as goal

-- with the subcommands to come, all are there
abbrev pub invariant-loop-name : goal.invariant-loop-name
invariant-loop-name l = with_subcommands (app_of l.command) (map app_by (drop l.name-index l.subcommands)) ≡ with_subcommands (app_of l.fn.command) (map app_by l.subcommands)
