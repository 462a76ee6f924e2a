use Rattle.spec_log.proofs.Threads.{log-among}
use Rattle.dl_replay.proofs.lookup.Lookup.threads.Goals as goal

pub returns-clause-few : goal.returns-clause-few
returns-clause-few g c = (log-among _ c.self.invariant.0).threads
