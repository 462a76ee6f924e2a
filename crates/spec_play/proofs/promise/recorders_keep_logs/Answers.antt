use Rattle.spec_play.proofs.Keeping.{recorders_keep_logs}
use Rattle.spec_play.proofs.promise.recorders_keep_logs.Goals as goal

pub returns : goal.returns
returns c = recorders_keep_logs
