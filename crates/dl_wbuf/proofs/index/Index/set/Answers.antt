use Rattle.dl_wbuf.proofs.Sifting.{IsSifted-set}
use Rattle.dl_wbuf.proofs.index.Index.set.Goals as goal

pub invariant_of-self : goal.invariant_of-self
invariant_of-self c =
    IsSifted-set c.self.inside.lines c.args.number c.args.at c.line_bit.result c.self.inside.table c.set.new.self c.line_bit.ensures.value c.line_bit.ensures.within c.set.ensures.places c.self.invariant
