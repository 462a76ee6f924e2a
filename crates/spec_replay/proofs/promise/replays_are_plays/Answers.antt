use Rattle.spec_replay.proofs.Replays.All.{replays_follow}
use Rattle.spec_replay.proofs.promise.replays_are_plays.Goals as goal

pub returns : goal.returns
returns c = replays_follow
