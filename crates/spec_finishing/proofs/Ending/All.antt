-- Finishing ends, within the bound, because each event reduces what is left.
use Rattle.std.proofs.Common.{◌≡◌, ℕ, zero, suc, ◌<◌, ◌≤◌, List, [], ◌∷◌, ◌++◌, length, Option, Some, None, refl, sym, ap, ◌∙◌, subst, arith}
use Rattle.std.proofs.lemmas.Option.{none-some}
use Rattle.spec_protocol.specs.declared.event.Event.{Event}
use Rattle.spec_protocol.specs.machine.World.{World}
use Rattle.spec_protocol.specs.machine.Machine.{Setup, world_of, happens, world_after}
use Rattle.spec_protocol.specs.machine.Finishing.{next, Finishes}
use Rattle.spec_protocol.specs.promises.Promises.{after}
use Rattle.spec_finishing.specs.Rank.{rank}
use Rattle.spec_finishing.specs.Ending.{Falls, OfReplays, IsFinished, CanFinish, FinishingEnds}
use Rattle.spec_finishing.proofs.Ending.Knowing.{Known, known-after, after-event}
use Rattle.spec_finishing.proofs.Ending.Bounding.{potential-bounded}
use Rattle.spec_finishing.proofs.Next.UnderWay.{under_way-most}
use Rattle.spec_finishing.proofs.Next.Events.{Lowers}
use Rattle.spec_finishing.proofs.Next.All.{Goes, next-falls, next-none}

-- at most one list of events finishes a world
finishing_one : (w : World) (es fs : List Event) → Finishes w es → Finishes w fs → es ≡ fs
finishing_one w [] [] e f = refl
finishing_one w [] (x ∷ fs) e f = absurd (none-some x (sym e ∙ f.0))
finishing_one w (x ∷ es) [] e f = absurd (none-some x (sym f ∙ e.0))
finishing_one w (x ∷ es) (y ∷ fs) e f =
    let h : Some x ≡ Some y = sym e.0 ∙ f.0 in
    let same : x ≡ y = cc in
    let rest = finishing_one (happens w x).world es fs e.1 (subst (λ (z : Event). Finishes (happens w z).world fs) (sym same) f.1) in
    (λ i. same i ∷ rest i)

-- events that finish a world, no more than what is left there
record Finishing (s : Setup) (w : World) : Type 0 where
  events : List Event
  finishes : Finishes w events
  few : length events ≤ rank s w
  falls : Falls s w events
  alone : OfReplays w events
  finished : IsFinished (world_after w events)

goes_after : (s : Setup) (es : List Event) → CanFinish s → Goes s (after s es)
goes_after s es can =
    record {
      known = known-after s es can;
      next_known = λ e. subst (Known s) (after-event (world_of s) es e) (known-after s (es ++ e ∷ []) can);
      cores = can.cores;
      window = can.window;
    }

ended : (s : Setup) (w : World) → Known s w → next w ≡ None → Finishing s w
ended s w known none =
    record { events = []; finishes = none; few = omega arith; falls = under_way-most s w known; alone = tt; finished = next-none w none }

one_more : (s : Setup) (w : World) (e : Event) → Known s w → next w ≡ Some e → Lowers s w e → Finishing s (happens w e).world → Finishing s w
one_more s w e known is falls f =
    record {
      events = e ∷ f.events;
      finishes = (is, f.finishes);
      few = (let l = f.few in let m = falls.less in omega (arith, l, m));
      falls = (under_way-most s w known, falls.done, falls.less, f.falls);
      alone = (falls.alone, f.alone);
      finished = f.finished;
    }

finishing_by : (s : Setup) (w : World) (o : Option Event) → Goes s w → next w ≡ o → ((e : Event) → rank s (happens w e).world < rank s w → Finishing s (happens w e).world) → Finishing s w
finishing_by s w None g none deeper = ended s w g.known none
finishing_by s w (Some e) g is deeper =
    let falls = next-falls s w e g is in one_more s w e g.known is falls (deeper e falls.less)

finishing : (s : Setup) → CanFinish s → (n : ℕ) (es : List Event) → rank s (after s es) ≤ n → Finishing s (after s es)
finishing s can zero es few =
    finishing_by s (after s es) (next (after s es)) (goes_after s es can) refl (λ e less. absurd (omega (arith, less, few)))
finishing s can (suc n) es few =
    finishing_by s (after s es) (next (after s es)) (goes_after s es can) refl
    (λ e less.
    let same = after-event (world_of s) es e in
    subst (Finishing s) same (finishing s can n (es ++ e ∷ []) (let h = ap (rank s) same in omega (arith, h, less, few))))

-- after every schedule one list of events finishes, and no other; it is within the bound, and each of them is done
pub finishing_all : FinishingEnds
finishing_all s es can =
    let f = finishing s can (rank s (after s es)) es (omega arith) in
    let bound = potential-bounded s es can in (
      f.events,
      record {
        finishes = f.finishes;
        only = λ others finishes. finishing_one (after s es) others f.events finishes f.finishes;
        falls = f.falls;
        alone = f.alone;
        first = omega (arith, bound);
        few = (let l = f.few in omega (arith, l, bound));
        finished = f.finished;
      },
    )
