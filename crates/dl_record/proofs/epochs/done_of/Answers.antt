use Rattle.std.proofs.Common.{Some, refl, arith}
use Rattle.spec_play.specs.Epochs.{commits_of}
use Rattle.dl_record.proofs.ByThread.{ByThread-none, ByThread-more, ByThread-skip, ByThread-all}
use Rattle.dl_record.proofs.epochs.done_of.Goals as goal
use Rattle.dl_record.proofs.epochs.done_of.Goals.{in-Some, in_default}

pub loop-n-init : goal.loop-n-init
loop-n-init c = ByThread-none commits_of c.args.threads.now _ refl

pub loop-n-preserved : goal.loop-n-preserved
loop-n-preserved c =
    let threads = c.args.threads.now in
    elim c.match-get.branch [
      | in-Some w ↦ rw (w.done-is, w.from.ensures)
          (ByThread-more commits_of threads c.loop-n.n c.loop-n.done (Some w.in-Some.thread.now) w.commits.result c.loop-n.invariant (omega (arith, c.len-n-end.ensures.few))
          (rw w.in-Some.is at c.get.ensures) w.commits.ensures)
      | in_default w ↦ rw w.done-is (ByThread-skip commits_of threads c.loop-n.n c.loop-n.done refl c.loop-n.invariant (rw w.in_default.is at c.get.ensures))
    ]

pub returns : goal.returns
returns c = ByThread-all commits_of c.args.threads.now c.loop-n.n c.loop-n.done refl c.loop-n.invariant (omega (arith, c.len-n-end.ensures.value))
