use Rattle.std.proofs.Common.{◌≡◌, sym, ap, subst, ◌∙◌, length}
use Rattle.spec_play.specs.Resuming.{IsBounded}
use Rattle.spec_play.specs.States as play
use Rattle.spec_play.proofs.Bounds.{after-bounded}
use Rattle.spec_sphere.specs.promises.Sound.{IsSoundIf}
use Rattle.dl_kernel.specs.States.{PlayState as State, state_in}
use Rattle.test_spheres.specs.Replaying.{IsFirst}
use Rattle.test_spheres.proofs.tests.replaying.ended_in.Goals as goal

pub at-requires-clause-state : goal.at-requires-clause-state
at-requires-clause-state g c =
    let s = c.in_ok-state.state in
    let first : IsFirst s = subst IsFirst (sym c.in_ok-state.ensures) c.requires.start in
    let log = c.args.log.now in
    subst (IsBounded log) (sym (first log)) (after-bounded log s.memory 0 0)

pub at-requires-clause-request : goal.at-requires-clause-request
at-requires-clause-request g c =
    let s = c.in_ok-state.state in
    let first : IsFirst s = subst IsFirst (sym c.in_ok-state.ensures) c.requires.start in
    subst (IsSoundIf (length s.memory)) (sym (ap (λ (x : play.State). x.request) (first c.args.log.now))) tt

pub ask-requires-clause-threads : goal.ask-requires-clause-threads
ask-requires-clause-threads g c =
    let s = c.in_ok-state.state in
    let first : IsFirst s = subst IsFirst (sym c.in_ok-state.ensures) c.requires.start in
    ap (λ (x : play.State). x.threads) (first c.args.log.now)

pub ask-requires-clause-commits : goal.ask-requires-clause-commits
ask-requires-clause-commits g c =
    let s = c.in_ok-state.state in
    let first : IsFirst s = subst IsFirst (sym c.in_ok-state.ensures) c.requires.start in
    ap (λ (x : play.State). x.commits) (first c.args.log.now)
