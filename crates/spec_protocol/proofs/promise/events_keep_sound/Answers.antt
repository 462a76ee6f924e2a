use Rattle.spec_protocol.proofs.Sound.Schedules.{happens-sound}
use Rattle.spec_protocol.proofs.promise.events_keep_sound.Goals as goal

pub returns : goal.returns
returns c = happens-sound
