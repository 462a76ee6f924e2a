use Rattle.spec_interval.proofs.Slicing.{slices_resume}
use Rattle.spec_interval.proofs.promise.slices_resume.Goals as goal

pub returns : goal.returns
returns c = slices_resume
