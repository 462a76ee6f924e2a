use Rattle.std.proofs.Common.{◌≡◌, ℕ, suc, ◌+◌, ◌-◌, ◌<◌, ◌≤◌, true, List, ◌∷◌, [], ◌++◌, length, get_or, set, take, vec_len, vec_capacity, nat_lt, Vec, Global, refl, ◌∙◌, sym, ap, arith}
use Rattle.std.specs.List.{insert}
use Rattle.std.specs.Vec.{with_items}
use Rattle.std.proofs.lemmas.Bool.{ltb-true}
use Rattle.std.proofs.lemmas.List.{with_items_is, length-map}
use Rattle.std.proofs.lemmas.List.Edits.{insert-append_right, length-insert}
use Rattle.dl_entry.specs.declared.Commit.{Commit}
use Rattle.dl_kernel.specs.InOrder.{Listed, end_of, has_room, joined, listed, rooms_of}
use Rattle.dl_kernel.proofs.Joined.{all-put, all-within, items_of, put-after, put-before, room-there}
use Rattle.dl_kernel.proofs.in_order.InOrder.put_reserved.Goals as goal

-- what is put among the second is put among both
among-both : (xs ys : List Commit) (m : ℕ) (c : Commit) → xs ++ insert ys m c ≡ insert (xs ++ ys) (length xs + m) c
among-both xs ys m c =
    let e : length xs + m - length xs ≡ m = omega arith in
    sym (insert-append_right xs ys (length xs) (length xs + m) c refl (omega arith) ∙ ap (λ (i : ℕ). xs ++ insert ys i c) e)

-- the new lists are the old ones with a commit more at the end of a thread's
record Put (lists new : List (Vec Commit Global)) (k : ℕ) (c : Commit) : Type 0 where
  there : k < length (items_of lists)
  all : joined (items_of new) ≡ insert (joined (items_of lists)) (length (joined (take (suc k) (items_of lists)))) c
  count : length (joined (items_of new)) ≡ suc (length (joined (items_of lists)))
  before : (j : ℕ) → j < k → length (joined (take (suc j) (items_of new))) ≡ length (joined (take (suc j) (items_of lists)))
  after : (j : ℕ) → k ≤ j → length (joined (take (suc j) (items_of new))) ≡ suc (length (joined (take (suc j) (items_of lists))))

put : (lists new : List (Vec Commit Global)) (k : ℕ) (c : Commit) → has_room (rooms_of lists) k ≡ true → items_of new ≡ set (items_of lists) k (get_or (items_of lists) k [] ++ c ∷ []) → Put lists new k c
put lists new k c room e =
    let there : k < length (items_of lists) =
    omega (arith, room-there lists (λ list. nat_lt (vec_len list) (vec_capacity list)) k room, length-map lists (λ (v : Vec Commit Global). v.items)) in
    let all = ap joined e ∙ all-put (items_of lists) k c there in
    let within = all-within (items_of lists) (suc k) in
    record {
      there = there;
      all = all;
      count = omega (arith, ap length all, length-insert (joined (items_of lists)) (length (joined (take (suc k) (items_of lists)))) c within);
      before = λ j l. ap (λ (xs : List (List Commit)). length (joined (take (suc j) xs))) e ∙ put-before (items_of lists) k j c l;
      after = λ j l. ap (λ (xs : List (List Commit)). length (joined (take (suc j) xs))) e ∙ put-after (items_of lists) k j c there l;
    }

pub invariant_of-self : goal.invariant_of-self
invariant_of-self c =
    let lists = c.self.inside.by_thread.items in
    let new = c.push_to.new.lists in
    let items : (with_items c.self.inside.by_thread new).items ≡ new = with_items_is c.self.inside.by_thread new (omega arith) in
    let room = ap (λ (x : Listed). has_room x.rooms c.args.thread) c.self.view_is ∙ c.requires.list in
    let p = put lists new c.args.thread c.args.commit room (rw c.deref_mut.ensures.value at c.push_to.ensures) in
    let free = ap (λ (x : Listed). x.room) c.self.view_is ∙ c.requires.all in
    let same = ap (λ (xs : List (Vec Commit Global)). length (joined (items_of xs))) items in
    (omega (arith, p.count, same, c.self.invariant.0), omega (arith, ltb-true (vec_len c.self.inside.whole + c.self.inside.waiting) (vec_capacity c.self.inside.whole) free))

pub returns-clause-all : goal.returns-clause-all
returns-clause-all c =
    let lists = c.self.inside.by_thread.items in
    let whole = c.self.inside.whole.items in
    let new = c.push_to.new.lists in
    let items : (with_items c.self.inside.by_thread new).items ≡ new = with_items_is c.self.inside.by_thread new (omega arith) in
    let room = ap (λ (x : Listed). has_room x.rooms c.args.thread) c.self.view_is ∙ c.requires.list in
    let p = put lists new c.args.thread c.args.commit room (rw c.deref_mut.ensures.value at c.push_to.ensures) in
    ap (λ (xs : List (Vec Commit Global)). whole ++ joined (items_of xs)) items
    ∙ (ap (λ (xs : List Commit). whole ++ xs) p.all
    ∙ (among-both whole (joined (items_of lists)) (length (joined (take (suc c.args.thread) (items_of lists)))) c.args.commit
    ∙ ap (λ (x : Listed). insert (listed x) (end_of c.args.thread x) c.args.commit) c.self.view_is))

pub returns-clause-before : goal.returns-clause-before
returns-clause-before c k l =
    let lists = c.self.inside.by_thread.items in
    let whole = c.self.inside.whole.items in
    let new = c.push_to.new.lists in
    let items : (with_items c.self.inside.by_thread new).items ≡ new = with_items_is c.self.inside.by_thread new (omega arith) in
    let room = ap (λ (x : Listed). has_room x.rooms c.args.thread) c.self.view_is ∙ c.requires.list in
    let p = put lists new c.args.thread c.args.commit room (rw c.deref_mut.ensures.value at c.push_to.ensures) in
    ap (λ (xs : List (Vec Commit Global)). length whole + length (joined (take (suc k) (items_of xs)))) items
    ∙ (ap (λ (n : ℕ). length whole + n) (p.before k l)
    ∙ ap (end_of k) c.self.view_is)

pub returns-clause-after : goal.returns-clause-after
returns-clause-after c k l =
    let lists = c.self.inside.by_thread.items in
    let whole = c.self.inside.whole.items in
    let new = c.push_to.new.lists in
    let items : (with_items c.self.inside.by_thread new).items ≡ new = with_items_is c.self.inside.by_thread new (omega arith) in
    let room = ap (λ (x : Listed). has_room x.rooms c.args.thread) c.self.view_is ∙ c.requires.list in
    let p = put lists new c.args.thread c.args.commit room (rw c.deref_mut.ensures.value at c.push_to.ensures) in
    let one : length whole + suc (length (joined (take (suc k) (items_of lists)))) ≡ suc (length whole + length (joined (take (suc k) (items_of lists)))) = omega arith in
    ap (λ (xs : List (Vec Commit Global)). length whole + length (joined (take (suc k) (items_of xs)))) items
    ∙ (ap (λ (n : ℕ). length whole + n) (p.after k l)
    ∙ (one ∙ ap (λ (x : Listed). suc (end_of k x)) c.self.view_is))
