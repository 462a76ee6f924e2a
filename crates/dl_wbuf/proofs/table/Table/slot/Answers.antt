-- The first slot from the home on that fits, which is before the end.
use Rattle.std.proofs.Common.{◌≡◌, ◌<◌, ◌+◌, ◌-◌, List, Option, length, take, drop, refl, ap, ◌∙◌, arith}
use Rattle.std.specs.List.{position_or_len}
use Rattle.std.specs.Option.{unwrap_or}
use Rattle.std.proofs.lemmas.List.{take_rest}
use Rattle.dl_wbuf.specs.declared.entry.Entry.{Entry}
use Rattle.dl_wbuf.specs.Tables.{fits, slot_of}
use Rattle.dl_wbuf.proofs.Opens.{slot_inside}
use Rattle.dl_wbuf.proofs.Probes.{first_or_len}
use Rattle.dl_wbuf.proofs.table.Table.slot.Goals as goal

sum_is : (c : goal.After-unwrap_or) → c.home-home.result + c.unwrap_or.result ≡ slot_of c.args.self.now c.args.number
sum_is c =
    let slots : List (Option Entry) = c.deref.result.now in
    let rest : List (Option Entry) = take (length slots - c.home-home.result) (drop c.home-home.result slots) in
    let first : c.unwrap_or.result ≡ position_or_len (fits c.args.number) rest = c.unwrap_or.ensures ∙ ap (λ o. unwrap_or o (length rest)) c.first_fit.ensures ∙ first_or_len (fits c.args.number) rest in
    rw (first, take_rest slots c.home-home.result, c.deref.ensures.value, c.home-home.ensures.value, ← c.self.view_is) refl

pub overflow_add-result : goal.overflow_add-result
overflow_add-result c =
    let sum = sum_is c in
    let inside : slot_of c.args.self.now c.args.number < length c.self.inside.slots.items = rw (← c.self.view_is) (slot_inside _ c.args.number c.self.invariant) in
    let most = c.self.invariant.most in
    omega arith

pub returns-clause-value : goal.returns-clause-value
returns-clause-value c = sum_is c

pub returns-clause-within : goal.returns-clause-within
returns-clause-within c = rw (sum_is c, ← c.self.view_is) (slot_inside _ c.args.number c.self.invariant)
