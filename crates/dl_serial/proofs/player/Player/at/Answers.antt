use Rattle.std.proofs.Common.{List, length, sym, ap, ◌∙◌, arith}
use Rattle.dl_entry.specs.declared.Commit.{Commit}
use Rattle.spec_log.specs.declared.LogParts.{LogParts}
use Rattle.spec_play.specs.States.{progress_from}
use Rattle.dl_wbuf.specs.Buffers.{Words}
use Rattle.dl_kernel.specs.States.{state_in}
use Rattle.dl_replay.specs.Following.{Following}
use Rattle.dl_serial.proofs.Settling.{named}
use Rattle.dl_serial.proofs.player.Player.at.Goals as goal

pub at-requires-clause-state : goal.at-requires-clause-state
at-requires-clause-state g c = c.requires.state.bounded

pub at-requires-clause-request : goal.at-requires-clause-request
at-requires-clause-request g c = c.requires.state.request

pub invariant_of-result : goal.invariant_of-result
invariant_of-result g c =
    let log = c.args.log.now in
    let s = state_in c.args.state in
    let begun = c.in_ok-replayer.ensures.value in
    let parts = c.parts-parts.ensures.parts ∙ sym (ap (λ (r : Following). r.log) begun) in (
      record {
        replaying = c.in_ok-replayer.ensures.at;
        all = ap (λ (r : Following). r.interval) begun;
        order = ap (λ (r : Following). r.strata) begun;
        whole = ap (λ (r : Following). r.total) begun;
        turn = λ k e. named log (progress_from s) s.used s.threads k (sym (ap (λ (r : Following). r.now) begun) ∙ e);
        counted = omega (arith, ap (λ (cs : List Commit). length cs) c.new-2.ensures.none);
        request = c.requires.state.request;
        room = ap (λ (w : Words). w.capacity) c.in_ok-words.ensures ∙ ap (λ (l : LogParts). l.s) parts;
      },
      ap (λ (l : LogParts). l.count) parts,
    )
