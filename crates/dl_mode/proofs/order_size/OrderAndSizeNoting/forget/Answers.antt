use Rattle.std.proofs.Common.{◌≡◌, drop, take, fold, ◌∙◌}
use Rattle.spec_log.specs.Noting.{done_with}
use Rattle.dl_mode.proofs.Past.{past-few, IsWhole-cut}
use Rattle.dl_mode.proofs.order_size.OrderAndSizeNoting.forget.Goals as goal

pub count_each-requires : goal.count_each-requires
count_each-requires c =
    let l = c.log.inside in
    record { few = rw c.deref.ensures.value (past-few c.min-n.result l.order.items l.sizes.items l.past l.threads c.log.invariant) }

pub invariant_of-log : goal.invariant_of-log
invariant_of-log c =
    let l = c.log.inside in
    let n = c.min-n.result in
    let order : c.drop-drain.new.self.0.items ≡ drop n l.order.items = c.drop-drain.ensures.items ∙ c.drain.ensures.kept in
    let sizes : c.drop-drain-2.new.self.0.items ≡ drop n l.sizes.items = c.drop-drain-2.ensures.items ∙ c.drain-2.ensures.kept in
    let past : c.count_each.new.counts ≡ fold done_with l.past (take n l.order.items) = rw c.deref.ensures.value at c.count_each.ensures in
    rw (order, sizes, past)
    (IsWhole-cut n l.order.items l.sizes.items l.past l.threads c.forget.new.self c.log.invariant
    (rw past at c.forget.ensures.sizes) c.forget.ensures.done)
