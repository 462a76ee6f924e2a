use Rattle.spec_tail.proofs.Whole.{whole-tails-play-logs}
use Rattle.spec_tail.proofs.promise.whole_tails_play_logs.Goals as goal

pub returns : goal.returns
returns c = whole-tails-play-logs
