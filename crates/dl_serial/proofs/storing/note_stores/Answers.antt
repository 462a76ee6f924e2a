-- Each word is one of those of the buffer, and its store comes last.
use Rattle.std.proofs.Common.{◌≡◌, ℕ, ◌*◌, ◌∷◌, ◌++◌, [], List, sym, ap, ◌∙◌, subst}
use Rattle.std.specs.VecDeque.Iter.{deque_iter_rest}
use Rattle.spec_isa.specs.Words.{lays}
use Rattle.spec_query.specs.declared.Store.{Store}
use Rattle.spec_query.specs.Stores.{store_of}
use Rattle.dl_serial.proofs.Buffered.{IsNoted, each_inside, next_there, IsNoted-more}
use Rattle.dl_serial.proofs.Laying.{one_shown}
use Rattle.dl_serial.proofs.storing.note_stores.Goals as goal

pub store_of-requires : goal.store_of-requires
store_of-requires c =
    let ws = c.args.words.now.words in
    let there = next_there _ _ _ ws _ _ _ c.loop-stored.invariant c.in-Some.ensures.steps in
    each_inside _ ws _ _ there c.requires

pub loop-stored-preserved : goal.loop-stored-preserved
loop-stored-preserved c =
    let m = c.args.memory.now in
    let ws = c.args.words.now.words in
    let by = c.args.by in
    let f = store_of by.commit by.actor (lays m ws) in
    let s = c.in-Some.field-0.now in
    let old = c.args.stores.now.items in
    let now = c.loop-stored.stores.items in
    let rest = deque_iter_rest c.next.new.self in
    let there = next_there f old now ws _ s rest c.loop-stored.invariant c.in-Some.ensures.steps in
    let value = one_shown m ws _ s c.iter-stored-items.ensures.apart c.store_of.ensures.bytes there (each_inside _ ws _ s there c.requires) in
    let store : c.store_of.result ≡ f s =
    c.store_of.ensures.store ∙ ap (λ (v : ℕ). record { commit = by.commit; actor = by.actor; address = 4 * s.number; value = v }) value
    in
    let stores : c.push.new.self.items ≡ now ++ f s ∷ [] = c.in_ok-push.ensures.items ∙ ap (λ (q : Store). now ++ q ∷ []) store in
    subst (λ (ss : List Store). IsNoted f old ss ws rest) (sym stores) (IsNoted-more f old now ws _ s rest c.loop-stored.invariant c.in-Some.ensures.steps)
