use Rattle.std.proofs.Common.{◌/◌, sym, ap, ◌∙◌}
use Rattle.spec_engine.specs.Signatures.{Signature}
use Rattle.dl_chunk.proofs.Showing.{stored_leave}
use Rattle.dl_chunk.proofs.store.Store.put.Goals as goal

pub invariant_of-self-2 : goal.invariant_of-self-2
invariant_of-self-2 g c =
    record {
      size = c.self.invariant.size;
      bytes = stored_leave c.put.result c.self.inside.words c.put.new.self (c.args.word / 4) c.args.mask c.args.value c.put.ensures.ok (sym c.is_err.ensures.value ∙ c.if-is_err.false) c.put.ensures.apart c.self.invariant.bytes;
    }

pub invariant_of-self-3 : goal.invariant_of-self-3
invariant_of-self-3 g c =
    record {
      size = ap (λ (s : Signature). s.bits) c.mark.ensures ∙ c.self.invariant.size;
      bytes = stored_leave c.put.result c.self.inside.words c.put.new.self (c.args.word / 4) c.args.mask c.args.value c.put.ensures.ok (sym c.is_err.ensures.value ∙ c.if-is_err.false) c.put.ensures.apart c.self.invariant.bytes;
    }
