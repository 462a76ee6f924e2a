use Rattle.std.proofs.lemmas.List.{get_or_default}
use Rattle.dl_elf.proofs.Laying.{filled-more, filled-all}
use Rattle.dl_elf.proofs.loading.fill_all.Goals as goal

pub loop-segment-preserved : goal.loop-segment-preserved
loop-segment-preserved c =
    filled-more c.args.file.now c.args.segments.now _ c.loop-segment.segment-index _ c.loop-segment.memory c.fill.new.memory c.requires.apart c.loop-segment-test.true
    (get_or_default c.args.segments.now c.loop-segment.segment-index _ _ c.loop-segment-test.true) c.fill.auto.memory c.fill.ensures c.loop-segment.invariant

pub returns : goal.returns
returns c = filled-all c.args.file.now c.args.segments.now _ c.loop-segment.segment-index c.loop-segment.memory c.loop-segment-test.false c.loop-segment.invariant
