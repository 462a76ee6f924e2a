use Rattle.dl_account.proofs.Digits.{IsWritten}
use Rattle.dl_account.proofs.text.Text.put_number.Given as goal

abbrev pub invariant-loop-rest : goal.invariant-loop-rest
invariant-loop-rest l = IsWritten l.field l.start l.rest l.n

abbrev pub decreases-loop-rest : goal.decreases-loop-rest
decreases-loop-rest l = l.rest
