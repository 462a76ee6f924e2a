use Rattle.std.proofs.Common.{sym, ap, ◌∙◌, subst}
use Rattle.spec_engine.specs.Signatures.{nothing}
use Rattle.dl_machine.specs.Ready.{IsReady}
use Rattle.dl_machine.proofs.Commits.Transfers.{marks_fit}
use Rattle.dl_machine.proofs.state.State.transfer.Goals as goal

pub ask-requires-clause-reads : goal.ask-requires-clause-reads
ask-requires-clause-reads g c =
    marks_fit _ c.args.sphere c.in_ok-words.words.words _ _ (subst IsReady (sym c.self.view_is) c.requires.ready) c.sign.ensures (c.in_ok-writes.ensures ∙ ap nothing c.bits.ensures.value)

pub ask-requires-clause-writes : goal.ask-requires-clause-writes
ask-requires-clause-writes g c =
    marks_fit _ c.args.sphere c.in_ok-words.words.words _ _ (subst IsReady (sym c.self.view_is) c.requires.ready) c.sign.ensures (c.in_ok-writes.ensures ∙ ap nothing c.bits.ensures.value)
