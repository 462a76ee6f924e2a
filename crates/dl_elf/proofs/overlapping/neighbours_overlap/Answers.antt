-- Each segment is one without bytes, or begins after all before it, or shares its first address.
use Rattle.std.proofs.Common.{arith, sym}
use Rattle.dl_elf.proofs.Sweeping.{swept-empty, swept-next, swept-all, hit-overlaps}
use Rattle.dl_elf.proofs.overlapping.neighbours_overlap.Goals as goal

pub loop-segment-preserved-then-segment-eq0 : goal.loop-segment-preserved-then-segment-eq0
loop-segment-preserved-then-segment-eq0 c =
    swept-empty c.args.sorted.now c.loop-segment.segment-index c.loop-segment.end _ c.loop-segment-test.true c.if-segment-eq0.true c.loop-segment.invariant

pub loop-segment-preserved : goal.loop-segment-preserved
loop-segment-preserved c =
    swept-next c.args.sorted.now c.loop-segment.segment-index c.loop-segment.end _ c.loop-segment-test.true (omega (arith, c.from.ensures)) c.if-segment-eq0.false
    c.end-end.result c.end-end.ensures c.loop-segment.invariant

pub returns-then-from-end : goal.returns-then-from-end
returns-then-from-end c =
    sym (hit-overlaps c.args.sorted.now c.loop-segment.segment-index c.loop-segment.end c.args.size _ c.loop-segment-test.true (omega (arith, c.from.ensures)) c.if-segment-eq0.false c.requires.rising c.requires.inside c.loop-segment.invariant)

pub returns : goal.returns
returns c = sym (swept-all c.args.sorted.now c.loop-segment.segment-index c.loop-segment.end c.args.size c.loop-segment-test.false c.loop-segment.invariant)
