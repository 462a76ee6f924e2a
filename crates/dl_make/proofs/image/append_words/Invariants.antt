use Rattle.std.proofs.Common.{◌≡◌, ◌++◌, Some, map, take}
use Rattle.spec_isa.specs.Denoted.{denoted}
use Rattle.spec_isa.specs.Encoding.{spelling}
use Rattle.dl_make.proofs.image.append_words.Given as goal

abbrev pub invariant-loop-instr : goal.invariant-loop-instr
invariant-loop-instr l =
    (l.words.items ≡ l.initial.words.items ++ map spelling (take l.instr-index l.program))
    × (map denoted l.words.items ≡ map denoted l.initial.words.items ++ map Some (take l.instr-index l.program))
