use Rattle.std.proofs.Common.{◌<◌, false, length, take, get_or, ap, arith}
use Rattle.dl_entry.specs.declared.actor.Actor.TheVariants.{Thread}
use Rattle.dl_mode.specs.Counts.{counted}
use Rattle.dl_mode.proofs.SizeLookups.{HasFirst-more, counted-few, done_by-few}
use Rattle.dl_mode.proofs.order_size.OrderAndSizeNoting.from_lists.Goals as goal

pub push-requires-clause-done : goal.push-requires-clause-done
push-requires-clause-done c =
    let order = c.as_slice-order.result.now in
    let i = c.loop-i.i in
    let few = done_by-few (counted (take i order)) (get_or order i (Thread 0)) i (counted-few order i) in
    rw c.loop-i.invariant.done_is (omega (arith, few, c.requires.count, c.requires.order.0, ap length c.as_slice-order.ensures))

pub loop-i-preserved : goal.loop-i-preserved
loop-i-preserved c =
    let order = c.as_slice-order.result.now in
    let sizes = c.each_of-sizes.result.now in
    let e = rw c.each_of-sizes.ensures at c.requires.sizes in
    let h : c.loop-i.i < length order = omega arith in
    let l : c.loop-i.i < length sizes = omega (arith, e.0, c.requires.order.0, ap length c.as_slice-order.ensures) in
    HasFirst-more c.args.lists.now.s c.loop-i.i order sizes c.loop-i.log.kept c.push.new.self.kept (Thread 0) h l c.loop-i.invariant (c.in_ok-push.ensures.ok false)
