-- A word that is there is stored again in its place, and a new one comes last, if there is room.
use Rattle.std.proofs.Common.{◌≡◌, ◌/◌, ◌≤◌, ◌<◌, length, sym, ap, ◌∙◌, rules}
use Rattle.std.proofs.lemmas.Bool.{le-ltb}
use Rattle.dl_wbuf.proofs.Positions.{position-found, IsPlaced-again, IsPlaced-new}
use Rattle.dl_wbuf.proofs.Puts.{put_found, put_missing, same_word, new_word, IsBuffer-found, IsBuffer-missing, room_found, room_missing}
use Rattle.dl_wbuf.proofs.buffer.Buffer.put.Goals as goal

pub invariant_of-self : goal.invariant_of-self
invariant_of-self c =
    let ws = c.self.inside.words.items in
    let old = c.index-stored.result.now in
    let new = c.then.result in
    let place = position-found _ _ _ ws (c.args.word / 4) _ _ _ c.self.invariant.1 c.slot-slot.ensures.value c.place_in.ensures c.in-Some.ensures in (
      IsBuffer-found _ _ ws c.in-Some.i new _ (put_found ws (c.args.word / 4) c.in-Some.i c.args.mask c.args.value old new place c.index-stored.ensures c.then.ensures) c.self.invariant.0,
      IsPlaced-again _ _ _ ws c.in-Some.i new old (same_word ws c.in-Some.i old new _ c.index-stored.ensures c.then.ensures) c.self.invariant.1,
    )

pub returns-in-Some-clause-taken : goal.returns-in-Some-clause-taken
returns-in-Some-clause-taken c =
    let ws = c.self.inside.words.items in
    let place = position-found _ _ _ ws (c.args.word / 4) _ _ _ c.self.invariant.1 c.slot-slot.ensures.value c.place_in.ensures c.in-Some.ensures in
    rw (← c.self.view_is) (sym (room_found c.self.inside.capacity ws (c.args.word / 4) c.in-Some.i place))

pub returns-in-Some-clause-ok : goal.returns-in-Some-clause-ok
returns-in-Some-clause-ok c =
    let ws = c.self.inside.words.items in
    let place = position-found _ _ _ ws (c.args.word / 4) _ _ _ c.self.invariant.1 c.slot-slot.ensures.value c.place_in.ensures c.in-Some.ensures in
    rw (← c.self.view_is)
    (ap (λ words. record { capacity = c.self.inside.capacity; words = words })
    (put_found ws (c.args.word / 4) c.in-Some.i c.args.mask c.args.value c.index-stored.result.now c.then.result place c.index-stored.ensures c.then.ensures))

pub returns-then-len-self-clause-taken : goal.returns-then-len-self-clause-taken
returns-then-len-self-clause-taken c =
    let ws = c.self.inside.words.items in
    let place = position-found _ _ _ ws (c.args.word / 4) _ _ _ c.self.invariant.1 c.slot-slot.ensures.value c.place_in.ensures c.in_default.ensures in
    let full : c.self.inside.capacity ≤ length ws = search rules in
    rw (← c.self.view_is) (sym (room_missing c.self.inside.capacity ws (c.args.word / 4) place ∙ le-ltb _ _ full))

pub invariant_of-self-2 : goal.invariant_of-self-2
invariant_of-self-2 c =
    let ws = c.self.inside.words.items in
    let number = c.args.word / 4 in
    let new = c.then-2.result in
    let place = position-found _ _ _ ws number _ _ _ c.self.invariant.1 c.slot-slot.ensures.value c.place_in.ensures c.in_default.ensures in
    let room : length ws < c.self.inside.capacity = search rules in
    let len : c.len-2.result ≡ length ws = search rules in
    rw (c.push_back_reserved.ensures.items, c.push_back_reserved.ensures.capacity) (
      IsBuffer-missing _ _ ws new _ (put_missing ws number c.args.mask c.args.value c.none.result new place c.none.ensures c.then-2.ensures) room c.self.invariant.0,
      IsPlaced-new _ _ _ _ ws new number (new_word number c.args.mask c.args.value c.none.result new c.none.ensures c.then-2.ensures) place c.self.invariant.1 (rw len at c.set.ensures.places) c.set.ensures.taken c.set.ensures.room,
    )

pub returns-clause-ok : goal.returns-clause-ok
returns-clause-ok c =
    let ws = c.self.inside.words.items in
    let number = c.args.word / 4 in
    let place = position-found _ _ _ ws number _ _ _ c.self.invariant.1 c.slot-slot.ensures.value c.place_in.ensures c.in_default.ensures in
    rw (← c.self.view_is)
    (ap (λ words. record { capacity = c.self.inside.capacity; words = words })
    (c.push_back_reserved.ensures.items ∙ put_missing ws number c.args.mask c.args.value c.none.result c.then-2.result place c.none.ensures c.then-2.ensures))
