use Rattle.spec_protocol.proofs.Sound.Schedules.{worlds_sound}
use Rattle.spec_protocol.proofs.promise.worlds_are_sound.Goals as goal

pub returns : goal.returns
returns c = worlds_sound
