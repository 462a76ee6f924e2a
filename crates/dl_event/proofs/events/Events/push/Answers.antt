use Rattle.std.proofs.Common.{◌≡◌, ◌++◌, length, List, ap, sym, ◌∙◌, subst, arith}
use Rattle.std.specs.Prelude.{replicate}
use Rattle.std.proofs.Math.ListN.{length-append, length-replicate}
use Rattle.spec_protocol.specs.declared.event.Event.{Event}
use Rattle.dl_event.specs.declared.events.Repeated.{Repeated}
use Rattle.dl_event.specs.declared.events.Events.TheInside.{Inside}
use Rattle.dl_event.specs.Repeated.{expanded, EndsWith}
use Rattle.dl_event.proofs.Repeats.{expanded-push, expanded-again}
use Rattle.dl_event.proofs.events.Events.push.Goals.{then-ends_with, else-ends_with+in_ok-push}
use Rattle.dl_event.proofs.events.Events.push.Goals as goal

one_more : (c : goal.After-self-2-1) → expanded c.if-ends_with.self-inside.repeated.items ≡ expanded c.self.inside.repeated.items ++ replicate c.args.times c.args.event
one_more c = elim c.if-ends_with.branch [
  | then-ends_with w ↦ (
      let rs = c.self.inside.repeated.items in
      let r = w.index_mut.result.now in
      let held = w.len-last.ensures ∙ sym c.deref.ensures.len ∙ ap (λ (l : List Repeated). length l) c.deref.ensures.value in
      let ends : EndsWith c.args.event rs = subst (EndsWith c.args.event) c.deref.ensures.value (c.ends_with.ensures w.if-ends_with.true) in
      ap (λ (x : Inside). expanded x.repeated.items) w.self-inside-is
      ∙ expanded-again c.args.event rs w.len-last.result c.args.times r ends held w.index_mut.ensures.value
      )
  | else-ends_with+in_ok-push w ↦ (
      ap (λ (x : Inside). expanded x.repeated.items) w.self-inside-is
      ∙ ap expanded w.in_ok-push.ensures.items
      ∙ expanded-push c.self.inside.repeated.items (record { event = c.args.event; times = c.args.times })
      )
]

same_count : (c : goal.After-self-2-1) → c.if-ends_with.self-inside.count ≡ c.self.inside.count
same_count c = elim c.if-ends_with.branch [
  | then-ends_with w ↦ ap (λ (x : Inside). x.count) w.self-inside-is
  | else-ends_with+in_ok-push w ↦ ap (λ (x : Inside). x.count) w.self-inside-is
]

pub invariant_of-self-2 : goal.invariant_of-self-2
invariant_of-self-2 c =
    let same = same_count c in
    let held = c.self.invariant in
    let longer = ap (λ (es : List Event). length es) (one_more c) in
    let l = length-append (expanded c.self.inside.repeated.items) (replicate c.args.times c.args.event) in
    let n = length-replicate c.args.times c.args.event in
    omega arith

pub returns-clause-ok : goal.returns-clause-ok
returns-clause-ok c = one_more c ∙ ap (λ (es : List Event). es ++ replicate c.args.times c.args.event) c.self.view_is
