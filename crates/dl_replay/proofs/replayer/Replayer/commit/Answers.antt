use Rattle.std.proofs.Common.{◌+◌, ◌<◌, List, length, option_map, ap, ◌≡◌, ◌∙◌, sym, subst, arith}
use Rattle.spec_strata.specs.Standing.{after_thread}
use Rattle.spec_isa.specs.declared.thread.Parts.{Parts}
use Rattle.spec_play.specs.Resuming.{IsBounded}
use Rattle.spec_play.specs.States.{progress_from}
use Rattle.spec_sphere.specs.promises.Sound.{IsSoundIf}
use Rattle.dl_kernel.specs.States.{PlayState as State, state_in}
use Rattle.dl_replay.specs.Following.{Following, followed}
use Rattle.dl_replay.specs.Judged.{last_by}
use Rattle.dl_replay.specs.Replays.{IsReplaying}
use Rattle.dl_replay.specs.Standings.{IsWithinIf}
use Rattle.dl_replay.proofs.Standings.{thread-within}
use Rattle.dl_replay.proofs.Advancing.{AreBelow, agrees-self, goes-on, settled-below}
use Rattle.dl_replay.proofs.replayer.Replayer.commit.Goals as goal

pub returns-clause-at : goal.returns-clause-at
returns-clause-at g c =
    let r : Following = c.args.self.now in
    let s : State = c.args.state.now in
    let change = c.args.change.now in
    let t : State = c.go_on.new.state in
    let was = c.requires.at.bounded in
    let left : s.commits < r.log.count = c.requires.at.left c.requires.left in
    let below : AreBelow (s.commits + 1) c.settle.new.threads =
    subst (λ (ts : List Parts). AreBelow (s.commits + 1) ts) (sym c.settle.ensures)
    (settled-below s.commits s.threads c.args.number change.finish.thread change.spawned was.threads c.requires.counted c.requires.spawned)
    in
    let same : t ≡ record s { threads = c.settle.new.threads; request = change.request; last = last_by r.strata c.args.number s.last; used = change.finish.used; commits = s.commits + 1 } =
    c.go_on.ensures.state ∙ ap (λ (x : State). record x { used = change.finish.used; commits = x.commits + 1 }) c.note_thread.ensures.state
    in
    let bounded : IsBounded r.log (state_in t) =
    subst (λ (x : State). IsBounded r.log (state_in x)) (sym same)
    (record { commits = omega (arith, left); threads = below; interrupts = omega (arith, c.requires.interrupts, was.interrupts) })
    in
    let inside = subst (λ (x : State). IsSoundIf (length x.memory) x.request) (sym same) c.requires.request in
    let went = c.go_on.ensures.replay (progress_from (state_in t)) (agrees-self t)
    ∙ ap (λ (x : Following). followed x.log x.interval x.strata (progress_from (state_in t)) t.used t.threads) c.note_thread.ensures.replay in
    let strata = option_map (after_thread c.args.number) r.strata in
    let within = subst (λ (x : State). IsWithinIf strata x.commits) (sym same) (thread-within c.args.number r.strata s.commits c.requires.at.strata) in
    subst (λ (x : Following). IsReplaying x t) (sym went) (goes-on r.log r.interval strata t c.requires.at.is_log bounded inside within)
