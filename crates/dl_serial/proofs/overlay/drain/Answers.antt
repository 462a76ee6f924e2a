use Rattle.std.proofs.Common.{ap, sym, ◌∙◌}
use Rattle.spec_isa.specs.Words.{lay, lays}
use Rattle.dl_wbuf.specs.Buffers.{Words}
use Rattle.dl_serial.proofs.Laying.{first_laid, still_inside}
use Rattle.dl_serial.proofs.overlay.drain.Goals as goal

pub loop-stored-preserved : goal.loop-stored-preserved
loop-stored-preserved c =
    let m = c.loop-stored.memory in
    let ws = c.loop-stored.words.words in
    let laid = c.put.ensures.laid ∙ ap (lay m) c.stored.view_is in
    record {
      laid = (λ i. lays (laid i) ((c.in-Some.ensures.rest i).words)) ∙ first_laid m ws c.in-Some.stored (sym c.in-Some.ensures.value) ∙ c.loop-stored.invariant.laid;
      capacity = ap (λ (w : Words). w.capacity) c.in-Some.ensures.rest ∙ c.loop-stored.invariant.capacity;
      inside = still_inside m ws _ _ c.in-Some.stored laid c.in-Some.ensures.rest c.loop-stored.invariant.inside;
    }
