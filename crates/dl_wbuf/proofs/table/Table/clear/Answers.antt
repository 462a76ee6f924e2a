-- Each slot that is taken is among those emptied.
use Rattle.std.proofs.Common.{◌≡◌, ◌≢◌, ◌<◌, ℕ, length, get_or, Some, None, [], ◌∷◌, ap, ◌∙◌, arith, rules}
use Rattle.std.specs.List.{Contains}
use Rattle.std.proofs.Math.ListN.{length-set}
use Rattle.std.proofs.lemmas.List.{append-nil, nil_from_length}
use Rattle.std.proofs.lemmas.List.Elements.{Contains-append_left, Contains-push}
use Rattle.dl_wbuf.specs.declared.entry.Entry.{Entry}
use Rattle.dl_wbuf.proofs.Opens.{IsOpen-empty, none_placed-empty, listed-emptied}
use Rattle.dl_wbuf.proofs.table.Table.clear.Goals as goal

no_element : (i : ℕ) → Contains [] i → ⊥
no_element i (k, inside, is) = omega arith

pub index_mut-requires : goal.index_mut-requires
index_mut-requires c =
    let last : Contains c.loop-slot.self-inside.taken.items c.in-Some.slot = rw c.in-Some.ensures.items (Contains-push c.pop.new.self.items c.in-Some.slot) in
    let inside : c.in-Some.slot < length c.loop-slot.self-inside.slots.items = c.loop-slot.invariant.inside c.in-Some.slot last in
    search rules

pub loop-slot-preserved : goal.loop-slot-preserved
loop-slot-preserved c =
    let slots = c.loop-slot.self-inside.slots.items in
    let left = c.pop.new.self.items in
    let slot = c.in-Some.slot in
    let last : Contains c.loop-slot.self-inside.taken.items slot = rw c.in-Some.ensures.items (Contains-push left slot) in
    record {
      listed = listed-emptied slots left slot (c.loop-slot.invariant.inside slot last) (rw c.in-Some.ensures.items at c.loop-slot.invariant.listed);
      inside = λ i it. rw (length-set slots slot None) (c.loop-slot.invariant.inside i (rw c.in-Some.ensures.items (Contains-append_left left (slot ∷ []) i it)));
      slots = length-set slots slot None ∙ c.loop-slot.invariant.slots;
      room = c.in-Some.ensures.capacity ∙ c.loop-slot.invariant.room;
      shift = c.loop-slot.invariant.shift;
    }

-- no slot is taken, once none is left to empty
none_taken : (c : goal.In_default) → (c.loop-slot.self-inside.taken.items ≡ []) × (c.pop.new.self.items ≡ [])
none_taken c =
    let e : c.loop-slot.self-inside.taken.items ≡ c.pop.new.self.items = c.in_default.ensures.items ∙ append-nil _ in
    let empty : length c.pop.new.self.items ≡ 0 = search rules in
    let none : c.pop.new.self.items ≡ [] = nil_from_length _ empty in
    (e ∙ none, none)

pub invariant_of-self : goal.invariant_of-self
invariant_of-self c =
    let old = c.self.invariant in
    let kept = c.loop-slot.invariant in
    let none = none_taken c in
    let lacks : (i : ℕ) (e : Entry) → get_or c.loop-slot.self-inside.slots.items i None ≢ Some e = λ i e is. no_element i (rw none.0 at (kept.listed i e is)) in
    IsOpen-empty _ lacks none.1
    (rw (c.in_default.ensures.capacity, kept.room, kept.slots) old.half)
    (λ a. rw (kept.shift, kept.slots) (old.homes a))
    (rw kept.shift old.shift)
    (rw kept.slots old.most)

pub returns-clause-places : goal.returns-clause-places
returns-clause-places c = λ a. none_placed-empty _ a (invariant_of-self c) (none_taken c).1

pub returns-clause-room : goal.returns-clause-room
returns-clause-room c = c.in_default.ensures.capacity ∙ c.loop-slot.invariant.room ∙ ap (λ t. t.room) c.self.view_is
