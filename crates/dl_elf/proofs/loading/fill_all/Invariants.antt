use Rattle.std.proofs.Common.{length}
use Rattle.dl_elf.proofs.Laying.{IsFilled}
use Rattle.dl_elf.proofs.loading.fill_all.Given as goal

abbrev pub invariant-loop-segment : goal.invariant-loop-segment
invariant-loop-segment l = IsFilled l.file l.segments (length l.initial.memory) l.segment-index l.memory
