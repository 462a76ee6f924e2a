-- The tables find what the word denotes, and a word denotes at most one instruction.
use Rattle.std.proofs.Common.{◌∙◌, sym, subst}
use Rattle.spec_isa.specs.Encoding.{IsMeaning}
use Rattle.spec_isa.proofs.RoundTrip.{denotes_denoted}
use Rattle.spec_isa.proofs.Denotation.{denoted_is_meaning}
use Rattle.dl_isa.proofs.decoding.decode.Goals as goal

pub returns-clause-meaning : goal.returns-clause-meaning
returns-clause-meaning c =
    subst (IsMeaning c.args.w) (sym c.by_opcode.ensures) (denoted_is_meaning c.args.w c.ranges.w.fits)

pub returns-clause-only : goal.returns-clause-only
returns-clause-only c = λ i d. c.by_opcode.ensures ∙ denotes_denoted d
