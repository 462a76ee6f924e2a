use Rattle.std.proofs.Common.{◌≡◌, List, Vec, Global, ◌∙◌, sym, ap, arith}
use Rattle.std.specs.Vec.{with_items}
use Rattle.std.proofs.lemmas.List.{with_items_is}
use Rattle.dl_entry.specs.declared.Commit.{Commit}
use Rattle.dl_kernel.specs.InOrder.{Listed, joined}
use Rattle.dl_kernel.proofs.Joined.{items_of, none-left, none-waits}
use Rattle.dl_kernel.proofs.in_order.InOrder.settle.Goals as goal

pub returns-then-self-gt0-clause-settled : goal.returns-then-self-gt0-clause-settled
returns-then-self-gt0-clause-settled c =
    let new = c.move_all.new.lists in
    let items : (with_items c.self.inside.by_thread new).items ≡ new = with_items_is c.self.inside.by_thread new (omega arith) in
    none-waits c.move_all.new.whole.items (items_of (with_items c.self.inside.by_thread new).items) (ap (λ (xs : List (Vec Commit Global)). joined (items_of xs)) items ∙ c.move_all.ensures.lists)

pub returns-else-self-gt0-clause-settled : goal.returns-else-self-gt0-clause-settled
returns-else-self-gt0-clause-settled c =
    let none = none-left (joined (items_of c.self.inside.by_thread.items)) (omega (arith, c.self.invariant.0, c.if-self-gt0.false)) in
    none-waits c.args.self.now.whole c.args.self.now.by_thread (ap (λ (x : Listed). joined x.by_thread) (sym c.self.view_is) ∙ none)
