use Rattle.std.proofs.Common.{◌<◌, ◌≤◌, length, arith}
use Rattle.dl_kernel.proofs.Rows.{row-next}
use Rattle.dl_replay.specs.Counts.{commits_at}
use Rattle.dl_replay.proofs.counting.commits_of.Goals as goal

pub loop-number-preserved : goal.loop-number-preserved
loop-number-preserved c =
    let ts = c.args.threads.now in
    let i = c.loop-number.number in
    let h : i < length ts = omega arith in
    let l : length ts ≤ 63 = omega arith in
    rw (c.from.ensures, c.loop-number.invariant, c.commits_at.ensures) (row-next commits_at 63 ts i h l)
