use Rattle.std.proofs.Common.{◌<◌, length, option_map, ap, ◌∙◌, sym, subst, arith}
use Rattle.spec_strata.specs.Standing.{after_dma}
use Rattle.spec_play.specs.Resuming.{IsBounded}
use Rattle.spec_play.specs.States.{progress_from}
use Rattle.spec_sphere.specs.promises.Sound.{IsSoundIf}
use Rattle.dl_kernel.specs.States.{PlayState as State, state_in}
use Rattle.dl_replay.specs.Following.{Following, followed}
use Rattle.dl_replay.specs.Replays.{IsReplaying}
use Rattle.dl_replay.specs.Standings.{IsWithinIf}
use Rattle.dl_replay.proofs.Standings.{dma-within, few-within}
use Rattle.dl_replay.proofs.Advancing.{agrees-self, goes-on}
use Rattle.dl_replay.proofs.replayer.Replayer.commit_dma.Goals as goal

pub returns-clause-at : goal.returns-clause-at
returns-clause-at g c =
    let r : Following = c.args.self.now in
    let s : State = c.args.state.now in
    let t : State = c.go_on.new.state in
    let was = c.requires.at.bounded in
    let left : s.commits < r.log.count = c.requires.at.left c.requires.left in
    let bounded : IsBounded r.log (state_in t) =
    subst (λ (x : State). IsBounded r.log (state_in x)) (sym c.go_on.ensures.state)
    (record {
      commits = omega (arith, left);
      threads = λ k u is. omega (arith, was.threads k u is);
      interrupts = omega (arith, was.interrupts);
    })
    in
    let inside = subst (λ (x : State). IsSoundIf (length x.memory) x.request) (sym c.go_on.ensures.state) tt in
    let went = c.go_on.ensures.replay (progress_from (state_in t)) (agrees-self t)
    ∙ ap (λ (x : Following). followed x.log x.interval x.strata (progress_from (state_in t)) t.used t.threads) c.note_dma.ensures in
    let strata = option_map after_dma r.strata in
    let within = subst (λ (x : State). IsWithinIf strata x.commits) (sym c.go_on.ensures.state) (dma-within r.strata s.commits c.requires.at.strata) in
    subst (λ (x : Following). IsReplaying x t) (sym went) (goes-on r.log r.interval strata t c.requires.at.is_log bounded inside within)

pub note_dma-requires : goal.note_dma-requires
note_dma-requires g c =
    let left = c.requires.at.left c.requires.left in
    few-within c.args.self.now.strata c.args.state.now.commits (omega (arith, left, c.requires.at.is_log.count)) c.requires.at.strata
