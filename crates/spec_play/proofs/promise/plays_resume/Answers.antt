use Rattle.spec_play.proofs.Resuming.{plays_resume}
use Rattle.spec_play.proofs.promise.plays_resume.Goals as goal

pub returns : goal.returns
returns c = plays_resume
