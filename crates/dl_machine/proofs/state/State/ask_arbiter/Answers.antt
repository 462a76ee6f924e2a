use Rattle.std.proofs.Common.{refl, sym, subst}
use Rattle.dl_machine.specs.Ready.{IsReady}
use Rattle.dl_machine.proofs.Worlds.Ready.{chunk_reads, chunk_writes}
use Rattle.dl_machine.proofs.state.State.ask_arbiter.Goals as goal

pub ask-requires-clause-reads : goal.ask-requires-clause-reads
ask-requires-clause-reads g c =
    rw c.reads.ensures (chunk_reads _ c.args.core _ _ (subst IsReady (sym c.self.view_is) c.requires.ready) refl c.older-chunk.ensures)

pub ask-requires-clause-writes : goal.ask-requires-clause-writes
ask-requires-clause-writes g c =
    rw c.writes.ensures (chunk_writes _ c.args.core _ _ (subst IsReady (sym c.self.view_is) c.requires.ready) refl c.older-chunk.ensures)
