use Rattle.std.proofs.Common.{◌<◌, ◌^◌, length, ap, arith}
use Rattle.dl_mode.specs.Counts.{done_by}
use Rattle.dl_mode.specs.Logged.{Logged}
use Rattle.dl_mode.proofs.SizeLookups.{IsWhole-noted}
use Rattle.dl_mode.proofs.order_size.OrderSizeLog.push.Goals as goal

pub note-requires-clause-few : goal.note-requires-clause-few
note-requires-clause-few c =
    omega (arith, c.requires.done, ap (λ (l : Logged). done_by l.kept.done c.args.actor) c.self.view_is)

pub invariant_of-self-2 : goal.invariant_of-self-2
invariant_of-self-2 c =
    let count = ap (λ (l : Logged). l.kept.count) c.self.view_is in
    let few : length c.self.inside.order.items < 2 ^ 24 = omega (arith, count, c.requires.commits) in
    let below : done_by c.self.inside.threads.done c.args.actor < 2 ^ 24 =
    omega (arith, c.requires.done, ap (λ (l : Logged). done_by l.kept.done c.args.actor) c.self.view_is) in
    rw (c.push_reserved.ensures.items, c.push_reserved-2.ensures.items, c.reserve.ensures.items, c.reserve-2.ensures.items)
    (IsWhole-noted c.self.inside.order.items c.self.inside.sizes.items c.self.inside.past c.self.inside.threads c.note.new.self c.args.actor c.args.size
    c.self.invariant c.requires.actor few below c.in_ok-note.ensures.sizes c.in_ok-note.ensures.done)
