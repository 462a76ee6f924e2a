use Rattle.spec_replay.proofs.Replays.Agreeing.{replays_alike}
use Rattle.spec_replay.proofs.promise.replays_agree.Goals as goal

pub returns : goal.returns
returns c = replays_alike
