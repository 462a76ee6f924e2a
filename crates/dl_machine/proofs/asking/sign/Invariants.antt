use Rattle.std.proofs.Common.{◌≡◌, drop}
use Rattle.spec_engine.specs.Signatures.{signed}
use Rattle.dl_machine.proofs.asking.sign.Given as goal

abbrev pub invariant-loop-i : goal.invariant-loop-i
invariant-loop-i g l = signed l.sphere (drop l.i l.words.words) (g.G.Sig.marks l.marks) ≡ signed l.sphere l.words.words (g.G.Sig.marks l.initial.marks)
