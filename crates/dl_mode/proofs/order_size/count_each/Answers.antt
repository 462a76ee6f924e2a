use Rattle.std.proofs.Common.{arith}
use Rattle.dl_entry.specs.declared.actor.Actor.TheVariants.{Thread}
use Rattle.dl_mode.proofs.Past.{few-next}
use Rattle.dl_mode.proofs.order_size.count_each.Goals as goal

pub count_one-requires : goal.count_one-requires
count_one-requires c =
    rw c.loop-actor.invariant (few-next c.args.counts.now c.args.actors.now c.loop-actor.actor-index (Thread 0) c.requires.few (omega arith))
