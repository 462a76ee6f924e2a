use Rattle.dl_record.specs.Epochs.{unraised_of}
use Rattle.dl_record.proofs.ByThread.{ByThread}
use Rattle.dl_record.proofs.epochs.unraised_of.Given as goal

abbrev pub invariant-loop-n : goal.invariant-loop-n
invariant-loop-n l = ByThread unraised_of l.threads l.n l.starts
