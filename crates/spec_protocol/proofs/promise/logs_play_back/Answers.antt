use Rattle.spec_protocol.proofs.PlayingBack.All.{logs_play_back}
use Rattle.spec_protocol.proofs.promise.logs_play_back.Goals as goal

pub returns : goal.returns
returns c = logs_play_back
