use Rattle.spec_play.specs.Epochs.{commits_of}
use Rattle.dl_record.proofs.ByThread.{ByThread}
use Rattle.dl_record.proofs.epochs.done_of.Given as goal

abbrev pub invariant-loop-n : goal.invariant-loop-n
invariant-loop-n l = ByThread commits_of l.threads l.n l.done
