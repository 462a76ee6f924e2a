use Rattle.std.proofs.Common.{◌≡◌, ◌+◌, ◌∷◌, ap, ◌∙◌, length, sym, subst}
use Rattle.std.specs.Prelude.{drop}
use Rattle.std.proofs.lemmas.List.{drop_more}
use Rattle.spec_isa.specs.Words.{lays}
use Rattle.spec_isa.proofs.MemoryLaws.{length_lays}
use Rattle.spec_isa.specs.Inside.{AreInside}
use Rattle.spec_engine.specs.Flying.{flying, words_of}
use Rattle.spec_play.proofs.Local.Laying.{lays_append}
use Rattle.dl_sphere.proofs.Begins.Laid.{inside_parts}
use Rattle.dl_sphere.proofs.epochs.current_memory.Goals as goal

pub lay_flight-requires : goal.lay_flight-requires
lay_flight-requires g c =
    let slots = c.slots-slot-items.result.now in
    let k = c.loop-slot.slot-index in
    let n = c.args.number in
    let slot = c.slot-item.result in
    let m = c.loop-slot.bytes in
    let next : drop k slots ≡ slot ∷ drop (k + 1) slots = drop_more slots k slot c.loop-slot-test.true ∙ ap (λ x. x ∷ drop (k + 1) slots) (sym c.slot-item.is) in
    (inside_parts (length m) (words_of n slot) (flying n (drop (k + 1) slots)) (subst (λ xs. AreInside (length m) (flying n xs)) next c.loop-slot.invariant.inside)).0

pub loop-slot-preserved : goal.loop-slot-preserved
loop-slot-preserved g c =
    let slots = c.slots-slot-items.result.now in
    let k = c.loop-slot.slot-index in
    let n = c.args.number in
    let slot = c.slot-item.result in
    let m = c.loop-slot.bytes in
    let rest = flying n (drop (k + 1) slots) in
    let next : drop k slots ≡ slot ∷ drop (k + 1) slots = drop_more slots k slot c.loop-slot-test.true ∙ ap (λ x. x ∷ drop (k + 1) slots) (sym c.slot-item.is) in
    let laid : c.lay_flight.new.bytes ≡ lays m (words_of n slot) = c.in_ok-lay_flight.ensures in
    let inside = (inside_parts (length m) (words_of n slot) rest (subst (λ xs. AreInside (length m) (flying n xs)) next c.loop-slot.invariant.inside)).1 in
    record {
      laid =
          ap (λ bytes. lays bytes rest) laid
          ∙ sym (lays_append m (words_of n slot) rest)
          ∙ ap (λ xs. lays m (flying n xs)) (sym next)
          ∙ c.loop-slot.invariant.laid;
      inside =
          subst (λ bytes. AreInside (length bytes) rest) (sym laid)
          (subst (λ size. AreInside size rest) (sym (length_lays m (words_of n slot))) inside);
    }
