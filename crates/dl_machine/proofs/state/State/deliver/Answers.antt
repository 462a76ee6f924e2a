use Rattle.std.proofs.Common.{sym, subst}
use Rattle.dl_machine.specs.Ready.{IsReady}
use Rattle.dl_machine.proofs.Worlds.Ready.{reads_fit, writes_fit}
use Rattle.dl_machine.proofs.state.State.deliver.Goals as goal

pub deliver-reply-requires-clause-reads : goal.deliver-reply-requires-clause-reads
deliver-reply-requires-clause-reads g c =
    rw c.reads-reads.ensures (reads_fit _ c.args.core c.args.k (subst IsReady (sym c.self.view_is) c.requires.ready))

pub deliver-reply-requires-clause-writes : goal.deliver-reply-requires-clause-writes
deliver-reply-requires-clause-writes g c =
    rw c.writes-writes.ensures (writes_fit _ c.args.core c.args.k (subst IsReady (sym c.self.view_is) c.requires.ready))
