use Rattle.std.proofs.Common.{◌≡◌, Option, Some, None, sym, ap, ◌∙◌}
use Rattle.dl_entry.specs.declared.actor.Actor.{Actor}
use Rattle.dl_entry.specs.declared.end.Why.{Why}
use Rattle.spec_log.specs.Size.{size_in}
use Rattle.spec_kernel.specs.Copies.{dma_words}
use Rattle.spec_play.specs.Transfers.{DmaGoes}
use Rattle.spec_play.specs.Verdicts.{serial_why}
use Rattle.dl_replay.proofs.Verdicts.{dma-is, no-request, no-record, misfit, fitting}
use Rattle.dl_replay.proofs.judging.transfer_of.Goals as goal
use Rattle.dl_replay.proofs.judging.transfer_of.Goals.{in_default-2-via-in-Some+in_default, in_default-2-via-in_default}

pub returns-in-Some-clause-verdict : goal.returns-in-Some-clause-verdict
returns-in-Some-clause-verdict g c p a =
    let s = c.args.state.now in
    let why : Some c.in-Some.why ≡ serial_why (size_in c.args.log.now.log Actor.Dma s.commits) = cc in
    sym (dma-is c.args.log.now.log p s.used s.commits s.request (Some c.in-Some.why) a.commits a.request why)

pub returns-in_default-2-clause-verdict : goal.returns-in_default-2-clause-verdict
returns-in_default-2-clause-verdict g c p a =
    let s = c.args.state.now in
    let none : Option Why = None in
    let why : none ≡ serial_why (size_in c.args.log.now.log Actor.Dma s.commits) = cc in
    let is = dma-is c.args.log.now.log p s.used s.commits s.request none a.commits a.request why in
    elim c.in_default-2.branch [
      | in_default-2-via-in-Some+in_default w ↦ sym (is ∙ no-record s.commits s.request _ (sym w.in_default-2.ensures.dma))
      | in_default-2-via-in_default w ↦ sym (is ∙ no-request s.commits s.request _ w.in_default-2.is-0)
    ]

pub returns-then-not-is_for-clause-verdict : goal.returns-then-not-is_for-clause-verdict
returns-then-not-is_for-clause-verdict g c p a =
    let s = c.args.state.now in
    let none : Option Why = None in
    let why : none ≡ serial_why (size_in c.args.log.now.log Actor.Dma s.commits) = cc in
    sym (dma-is c.args.log.now.log p s.used s.commits s.request none a.commits a.request why
    ∙ misfit s.commits s.request _ c.in-Some-Some.request c.in-Some-Some.dma.now c.in-Some-Some.is-0 (sym c.in-Some-Some.ensures.dma) (sym c.if-not-is_for.ensures))

pub returns-clause-verdict : goal.returns-clause-verdict
returns-clause-verdict g c p a =
    let s = c.args.state.now in
    let none : Option Why = None in
    let why : none ≡ serial_why (size_in c.args.log.now.log Actor.Dma s.commits) = cc in
    sym (dma-is c.args.log.now.log p s.used s.commits s.request none a.commits a.request why
    ∙ fitting s.commits s.request _ c.in-Some-Some.request c.in-Some-Some.dma.now c.in-Some-Some.is-0 (sym c.in-Some-Some.ensures.dma) (sym c.if-not-is_for.ensures)
    ∙ ap (λ bytes. DmaGoes (dma_words c.in-Some-Some.request bytes)) (sym c.as_slice.ensures))
