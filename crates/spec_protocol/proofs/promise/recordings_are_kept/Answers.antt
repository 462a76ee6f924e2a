use Rattle.spec_protocol.proofs.Kept.Worlds.{recordings_kept}
use Rattle.spec_protocol.proofs.promise.recordings_are_kept.Goals as goal

pub returns : goal.returns
returns c = recordings_kept
