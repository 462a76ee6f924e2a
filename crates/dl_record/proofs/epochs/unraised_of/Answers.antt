use Rattle.std.proofs.Common.{Some, refl, arith}
use Rattle.dl_record.specs.Epochs.{unraised_of}
use Rattle.dl_record.proofs.ByThread.{ByThread-none, ByThread-more, ByThread-skip, ByThread-all}
use Rattle.dl_record.proofs.epochs.unraised_of.Goals as goal
use Rattle.dl_record.proofs.epochs.unraised_of.Goals.{in-Some, in_default}

pub loop-n-init : goal.loop-n-init
loop-n-init c = ByThread-none unraised_of c.args.threads.now _ refl

pub loop-n-preserved : goal.loop-n-preserved
loop-n-preserved c =
    let threads = c.args.threads.now in
    elim c.match-get.branch [
      | in-Some w ↦ rw (w.starts-is, w.from.ensures)
          (ByThread-more unraised_of threads c.loop-n.n c.loop-n.starts (Some w.in-Some.thread.now) w.unraised.result c.loop-n.invariant (omega (arith, c.len-n-end.ensures.few))
          (rw w.in-Some.is at c.get.ensures) w.unraised.ensures)
      | in_default w ↦ rw w.starts-is (ByThread-skip unraised_of threads c.loop-n.n c.loop-n.starts refl c.loop-n.invariant (rw w.in_default.is at c.get.ensures))
    ]

pub returns : goal.returns
returns c = ByThread-all unraised_of c.args.threads.now c.loop-n.n c.loop-n.starts refl c.loop-n.invariant (omega (arith, c.len-n-end.ensures.value))
