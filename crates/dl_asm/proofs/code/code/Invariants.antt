use Rattle.std.proofs.Common.{length}
use Rattle.dl_asm.specs.Sources.{lines_of}
use Rattle.dl_asm.proofs.Words.Coding.{IsCoded}
use Rattle.dl_asm.proofs.code.code.Given as goal

abbrev pub invariant-loop-text : goal.invariant-loop-text
invariant-loop-text l = IsCoded (lines_of l.source) (length l.yielded) l.index l.words.items
