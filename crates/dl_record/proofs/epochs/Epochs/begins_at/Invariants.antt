use Rattle.std.proofs.Common.{◌≡◌, drop}
use Rattle.spec_play.specs.Epochs.{begins_at}
use Rattle.dl_record.proofs.epochs.Epochs.begins_at.Given as goal

abbrev pub invariant-loop-epoch : goal.invariant-loop-epoch
invariant-loop-epoch l = begins_at l.commits l.self.epochs.begun ≡ begins_at l.commits (drop l.epoch-index l.self.epochs.begun)
