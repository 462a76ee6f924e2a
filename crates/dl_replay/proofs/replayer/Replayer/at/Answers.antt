use Rattle.std.proofs.Common.{None, ap, sym, subst, ◌∙◌}
use Rattle.spec_log.specs.Log.{IsLog}
use Rattle.spec_play.specs.States.{progress_from}
use Rattle.dl_kernel.specs.States.{state_in}
use Rattle.dl_replay.specs.Following.{Following, followed}
use Rattle.dl_replay.specs.Lists.{Looked}
use Rattle.dl_replay.specs.Replays.{IsReplaying}
use Rattle.dl_replay.proofs.Advancing.{agrees-self, goes-on}
use Rattle.dl_replay.proofs.replayer.Replayer.at.Goals as goal

pub returns-clause-value : goal.returns-clause-value
returns-clause-value g c =
    let s = c.args.state.now in
    let p = progress_from (state_in s) in
    c.begun.ensures p (agrees-self s)
    ∙ ap (λ (l : Looked). followed l.log c.args.interval l.strata p s.used s.threads) c.in_ok-log.ensures.value

pub returns-clause-at : goal.returns-clause-at
returns-clause-at g c =
    let s = c.args.state.now in
    let p = progress_from (state_in s) in
    let value = c.begun.ensures p (agrees-self s)
    ∙ ap (λ (l : Looked). followed l.log c.args.interval l.strata p s.used s.threads) c.in_ok-log.ensures.value in
    subst (λ (x : Following). IsReplaying x s) (sym value)
    (goes-on c.args.log.now c.args.interval None s c.in_ok-log.ensures.log c.requires.state c.requires.request tt)

pub begun-requires : goal.begun-requires
begun-requires g c = record { log = subst (λ (l : Looked). IsLog l.log) (sym c.in_ok-log.ensures.value) c.in_ok-log.ensures.log }
