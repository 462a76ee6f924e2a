use Rattle.spec_play.proofs.Migrating.{migration_keeps_plays}
use Rattle.spec_play.proofs.promise.migration_keeps_plays.Goals as goal

pub returns : goal.returns
returns c = migration_keeps_plays
