-- Finishing as a function gives the list that finishes.
use Rattle.std.proofs.Common.{◌≡◌, ℕ, zero, suc, ◌≤◌, List, [], ◌∷◌, length, Option, Some, None, refl, sym, ap, ◌∙◌, subst, arith}
use Rattle.spec_protocol.specs.declared.event.Event.{Event}
use Rattle.spec_protocol.specs.machine.World.{World}
use Rattle.spec_protocol.specs.machine.Machine.{happens}
use Rattle.spec_protocol.specs.machine.Finishing.{Finishes}
use Rattle.spec_protocol.specs.promises.Promises.{after}
use Rattle.spec_finishing.specs.Ending.{Ends}
use Rattle.spec_finishing.specs.Function.{finishing, FinishingIsAFunction}
use Rattle.spec_finishing.proofs.Ending.All.{finishing_all}

abbrev then_finishing : (fuel : ℕ) → World → Option Event → List Event
then_finishing n w o = elim o [ None ↦ [] | Some e ↦ e ∷ finishing n (happens w e).world ]

-- with enough fuel it is any list that finishes
finishing-is : (fuel : ℕ) (w : World) (es : List Event) → Finishes w es → length es ≤ fuel → finishing fuel w ≡ es
finishing-is zero w [] ends l = refl
finishing-is zero w (e ∷ es) ends l = absurd (omega arith)
finishing-is (suc n) w [] ends l = ap (then_finishing n w) ends
finishing-is (suc n) w (e ∷ es) ends l =
    ap (then_finishing n w) ends.0 ∙ ap (λ (fs : List Event). e ∷ fs) (finishing-is n (happens w e).world es ends.1 (omega arith))

-- the list that finishing as a function gives is the one that finishes
pub function_finishes : FinishingIsAFunction
function_finishes s es fuel can enough =
    let f = finishing_all s es can in
    let ends = f.1 in
    subst (Ends s es) (sym (finishing-is fuel (after s es) f.0 ends.finishes (let l = ends.few in omega (arith, l, enough)))) ends
