use Rattle.dl_elf.proofs.Sweeping.{Swept}
use Rattle.dl_elf.proofs.overlapping.neighbours_overlap.Given as goal

abbrev pub invariant-loop-segment : goal.invariant-loop-segment
invariant-loop-segment l = Swept l.sorted l.segment-index l.end
