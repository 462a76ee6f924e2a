-- The slot of the number takes its entry, and is among those taken.
use Rattle.std.proofs.Common.{◌<◌, length, sym, ap, ◌∙◌, rules}
use Rattle.dl_wbuf.specs.Tables.{slot_of}
use Rattle.dl_wbuf.proofs.Opens.{slot_inside, IsSet-taken, IsSet-again}
use Rattle.dl_wbuf.proofs.table.Table.set.Goals as goal

pub index-requires : goal.index-requires
index-requires c =
    let h : c.args.slot < length c.self.inside.slots.items = rw (c.requires.slot, ← c.self.view_is) (slot_inside _ c.args.number c.self.invariant) in
    search rules

pub index_mut-requires : goal.index_mut-requires
index_mut-requires c =
    let h : c.args.slot < length c.self.inside.slots.items = rw (c.requires.slot, ← c.self.view_is) (slot_inside _ c.args.number c.self.invariant) in
    search rules

pub overflow_cast-slot : goal.overflow_cast-slot
overflow_cast-slot c =
    let h : c.args.slot < length c.self.inside.slots.items = rw (c.requires.slot, ← c.self.view_is) (slot_inside _ c.args.number c.self.invariant) in
    let most = c.self.invariant.most in
    search rules

pub invariant_of-self : goal.invariant_of-self
invariant_of-self c =
    let slot = c.requires.slot ∙ ap (λ t. slot_of t c.args.number) (sym c.self.view_is) in
    rw c.push_reserved.ensures.capacity
    (IsSet-taken _ c.args.slot (record { number = c.args.number; place = c.args.at }) _ c.self.invariant slot (rw (← c.self.view_is) at c.requires.room) c.push_reserved.ensures.items).opened

pub invariant_of-self-else-is_free : goal.invariant_of-self-else-is_free
invariant_of-self-else-is_free c =
    let slot = c.requires.slot ∙ ap (λ t. slot_of t c.args.number) (sym c.self.view_is) in
    (IsSet-again _ c.args.slot (record { number = c.args.number; place = c.args.at }) _ c.self.invariant slot c.index.ensures c.if-is_free.ensures).opened

pub returns-then-is_free-clause-places : goal.returns-then-is_free-clause-places
returns-then-is_free-clause-places c =
    let slot = c.requires.slot ∙ ap (λ t. slot_of t c.args.number) (sym c.self.view_is) in
    let set = IsSet-taken _ c.args.slot (record { number = c.args.number; place = c.args.at }) _ c.self.invariant slot (rw (← c.self.view_is) at c.requires.room) c.push_reserved.ensures.items in
    λ a. rw (← c.self.view_is) (set.places a)

pub returns-else-is_free-clause-places : goal.returns-else-is_free-clause-places
returns-else-is_free-clause-places c =
    let slot = c.requires.slot ∙ ap (λ t. slot_of t c.args.number) (sym c.self.view_is) in
    let set = IsSet-again _ c.args.slot (record { number = c.args.number; place = c.args.at }) _ c.self.invariant slot c.index.ensures c.if-is_free.ensures in
    λ a. rw (← c.self.view_is) (set.places a)
