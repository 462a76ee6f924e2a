use Rattle.std.proofs.Common.{ℕ, ◌<◌, nat_lt, Bool, false, List, length, get_or, set, take, vec_len, vec_capacity, ◌∙◌, sym, ap, arith}
use Rattle.std.proofs.lemmas.Bool.{lt-ltb}
use Rattle.std.proofs.lemmas.List.{get_or-set_same, length-map, map-set}
use Rattle.dl_entry.specs.declared.Commit.{Commit}
use Rattle.dl_kernel.specs.InOrder.{joined, rooms_of}
use Rattle.dl_kernel.proofs.Joined.{same-items}
use Rattle.dl_kernel.proofs.by_thread.reserve_list.Goals as goal

pub returns-in_err-reserve-clause-same : goal.returns-in_err-reserve-clause-same
returns-in_err-reserve-clause-same c n =
    let lists = c.loop.lists.items in
    let within : c.from-thread.result < length lists = omega arith in
    ap (λ (xs : List (List Commit)). joined (take n xs)) (same-items lists c.from-thread.result c.index_mut.result.now c.reserve.new.self within c.index_mut.ensures.value c.reserve.ensures.items)
    ∙ c.loop.invariant.1 n

pub returns-in_err-reserve-clause-all : goal.returns-in_err-reserve-clause-all
returns-in_err-reserve-clause-all c =
    let lists = c.loop.lists.items in
    let within : c.from-thread.result < length lists = omega arith in
    ap joined (same-items lists c.from-thread.result c.index_mut.result.now c.reserve.new.self within c.index_mut.ensures.value c.reserve.ensures.items)
    ∙ c.loop.invariant.2

pub returns-clause-same : goal.returns-clause-same
returns-clause-same c n =
    let lists = c.loop.lists.items in
    let within : c.from-thread.result < length lists = omega arith in
    ap (λ (xs : List (List Commit)). joined (take n xs)) (same-items lists c.from-thread.result c.index_mut.result.now c.reserve.new.self within c.index_mut.ensures.value c.reserve.ensures.items)
    ∙ c.loop.invariant.1 n

pub returns-clause-all : goal.returns-clause-all
returns-clause-all c =
    let lists = c.loop.lists.items in
    let within : c.from-thread.result < length lists = omega arith in
    ap joined (same-items lists c.from-thread.result c.index_mut.result.now c.reserve.new.self within c.index_mut.ensures.value c.reserve.ensures.items)
    ∙ c.loop.invariant.2

pub returns-clause-room : goal.returns-clause-room
returns-clause-room c =
    let lists = c.loop.lists.items in
    let t = c.from-thread.result in
    let within : t < length lists = omega arith in
    let free : vec_len c.reserve.new.self < vec_capacity c.reserve.new.self = omega (arith, c.in_ok-reserve.ensures.ok) in
    ap (λ (n : ℕ). get_or (rooms_of (set lists t c.reserve.new.self)) n false) (sym c.from-thread.ensures)
    ∙ (ap (λ (bs : List Bool). get_or bs t false) (map-set (λ list. nat_lt (vec_len list) (vec_capacity list)) lists t c.reserve.new.self)
    ∙ (get_or-set_same (rooms_of lists) t (nat_lt (vec_len c.reserve.new.self) (vec_capacity c.reserve.new.self)) false (omega (arith, within, length-map lists (λ list. nat_lt (vec_len list) (vec_capacity list))))
    ∙ lt-ltb (vec_len c.reserve.new.self) (vec_capacity c.reserve.new.self) free))
