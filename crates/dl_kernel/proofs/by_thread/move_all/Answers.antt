use Rattle.std.proofs.Common.{◌≡◌, ◌+◌, ◌<◌, List, ◌++◌, length, get_or, set, take, drop, Vec, Global, ◌∙◌, sym, ap, arith, length-append}
use Rattle.std.proofs.lemmas.List.{append_assoc, append-nil}
use Rattle.dl_entry.specs.declared.Commit.{Commit}
use Rattle.dl_kernel.specs.InOrder.{joined}
use Rattle.dl_kernel.proofs.Joined.{items_of, rest-set, front-set}
use Rattle.dl_kernel.proofs.by_thread.move_all.Goals as goal

pub move_of_one-requires : goal.move_of_one-requires
move_of_one-requires c =
    let lists = c.loop-thread.lists in
    let t = c.loop-thread.thread in
    let old = c.index-lists-thread.result in
    let within : t < length lists = omega arith in
    let same : get_or lists t old ≡ old = sym c.index-lists-thread.is in
    let rest = rest-set lists t old old within c.index-lists-thread.is in
    let count = ap length rest ∙ length-append old.items (joined (drop (t + 1) (items_of (set lists t old)))) in
    let i = c.loop-thread.invariant in
    let n = ap (λ (v : Vec Commit Global). length v.items) same in
    omega (arith, i.2, count, n)

pub loop-thread-preserved : goal.loop-thread-preserved
loop-thread-preserved c =
    let lists = c.loop-thread.lists in
    let t = c.loop-thread.thread in
    let whole = c.loop-thread.whole.items in
    let old = c.index-lists-thread.result in
    let new = c.move_of_one.new.list in
    let i = c.loop-thread.invariant in
    let front = joined (take t (items_of lists)) in
    let after = joined (drop (t + 1) (items_of (set lists t new))) in
    let within : t < length lists = omega arith in
    let same : get_or lists t old ≡ old = sym c.index-lists-thread.is in
    let rest = rest-set lists t old new within c.index-lists-thread.is in
    let moved = c.move_of_one.ensures.whole ∙ ap (λ (v : Vec Commit Global). whole ++ v.items) same in
    let count = ap length moved ∙ length-append whole old.items in
    let all = ap length rest ∙ length-append old.items after in (
      ap (λ (xs : List Commit). xs ++ after) moved
          ∙ (append_assoc whole old.items after
          ∙ (ap (λ (xs : List Commit). whole ++ xs) (sym rest) ∙ i.0)),
      front-set lists t new within
          ∙ (ap (λ (xs : List Commit). front ++ xs) c.move_of_one.ensures.list
          ∙ (append-nil front ∙ i.1)),
      omega (arith, count, all, c.loop-thread.whole.ok.0, c.move_of_one.new.whole.ok.0, i.2, c.move_of_one.ensures.capacity),
      omega (arith, i.3, c.move_of_one.ensures.capacity),
    )
