use Rattle.spec_protocol.proofs.Sound.Notable.{notes_fit}
use Rattle.spec_protocol.proofs.promise.notes_fit_logs.Goals as goal

pub returns : goal.returns
returns c = notes_fit
