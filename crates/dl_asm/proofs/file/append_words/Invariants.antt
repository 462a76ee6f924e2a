use Rattle.std.proofs.Common.{◌≡◌, ◌++◌, take}
use Rattle.dl_asm.specs.File.{code_of}
use Rattle.dl_asm.proofs.file.append_words.Given as goal

abbrev pub invariant-loop-word : goal.invariant-loop-word
invariant-loop-word l = l.file.items ≡ l.initial.file.items ++ code_of (take l.word-index l.words)
