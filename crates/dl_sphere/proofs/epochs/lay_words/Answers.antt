use Rattle.std.proofs.Common.{ap, ◌∙◌, length, sym, subst}
use Rattle.std.specs.VecDeque.Iter.{deque_iter_rest}
use Rattle.spec_isa.specs.Words.{lay, lays}
use Rattle.spec_isa.specs.Inside.{AreInside}
use Rattle.dl_sphere.proofs.Begins.Laid.{one_laid, others_inside}
use Rattle.dl_sphere.proofs.epochs.lay_words.Goals as goal

pub loop-stored-preserved : goal.loop-stored-preserved
loop-stored-preserved c =
    let m = c.loop-stored.bytes in
    let s = c.in-Some.field-0.now in
    let rest = deque_iter_rest c.next.new.self in
    let laid = c.in_ok-put.ensures.laid ∙ ap (lay m) c.stored.view_is in
    record {
      laid = ap (λ bytes. lays bytes rest) laid ∙ one_laid m _ rest s c.in-Some.ensures.steps ∙ c.loop-stored.invariant.laid;
      inside = subst (λ bytes. AreInside (length bytes) rest) (sym laid) (others_inside m _ rest s c.in-Some.ensures.steps c.loop-stored.invariant.inside);
    }
