use Rattle.std.proofs.Common.{ℕ, ◌<◌, ◌∷◌, [], ◌++◌, length, get_or, set, vec_len, vec_capacity, nat_lt, Vec, Global, ◌∙◌, sym, ap, arith}
use Rattle.dl_entry.specs.declared.Commit.{Commit}
use Rattle.dl_kernel.proofs.Joined.{items_of, item-put, room-there}
use Rattle.dl_kernel.proofs.by_thread.push_to.Goals as goal

pub returns : goal.returns
returns c =
    let lists = c.args.lists.now in
    let t = c.from.result in
    let old = c.index-lists-from.result in
    let is = c.index-lists-from.is in
    let items = c.push_reserved.ensures.items ∙ ap (λ (v : Vec Commit Global). v.items ++ c.args.commit ∷ []) (sym is) in
    let there : t < length lists = omega (arith, c.from.ensures, room-there lists (λ list. nat_lt (vec_len list) (vec_capacity list)) c.args.thread c.requires) in
    item-put lists t old c.push_reserved.new.self c.args.commit there is items
    ∙ ap (λ (n : ℕ). set (items_of lists) n (get_or (items_of lists) n [] ++ c.args.commit ∷ [])) c.from.ensures
