use Rattle.std.proofs.Common.{◌≡◌, [], sym, ap, subst, ◌∙◌}
use Rattle.spec_sphere.specs.sphere.Setups.{IsReplayed}
use Rattle.spec_sphere.specs.promises.Sound.{IsImage, IsRole}
use Rattle.dl_kernel.specs.States.{state_in}
use Rattle.dl_replay.specs.Following.{Following}
use Rattle.dl_sphere.specs.Roles.{Replaying}
use Rattle.dl_sphere.specs.Setups.{IsBegunAs, IsBegunIf, begun_of, replay_setup, role_setup, setup_of}
use Rattle.dl_sphere.specs.Starting.{keeping_at, start_as}
use Rattle.dl_sphere.specs.declared.setup.Role.{Role}
use Rattle.dl_sphere.proofs.Standing.Start.{first_if, follows_start, role_of_replay, start_bounded, start_request}
use Rattle.dl_sphere.proofs.making.part_of.Goals as goal

pub player_of-requires-clause-bounded : goal.player_of-requires-clause-bounded
player_of-requires-clause-bounded c =
    let image = setup_of c.args.setup.now in
    let r = c.in-Replay.replay in
    let start : state_in c.args.state.now ≡ start_as image (role_setup (Role.Replay r)) = subst (λ (x : Role). state_in c.args.state.now ≡ start_as image (role_setup x)) c.in-Replay.is c.requires.start in
    start_bounded image (replay_setup r) (state_in c.args.state.now) start

pub player_of-requires-clause-request : goal.player_of-requires-clause-request
player_of-requires-clause-request c =
    let image = setup_of c.args.setup.now in
    let r = c.in-Replay.replay in
    let start : state_in c.args.state.now ≡ start_as image (role_setup (Role.Replay r)) = subst (λ (x : Role). state_in c.args.state.now ≡ start_as image (role_setup x)) c.in-Replay.is c.requires.start in
    let begun : IsBegunIf image (replay_setup r) (begun_of r) = (subst (λ (x : Role). IsBegunAs image x) c.in-Replay.is c.requires.begun).0 in
    let role : image.role ≡ IsReplayed (replay_setup r) = ap role_setup c.in-Replay.is in
    let whole : IsImage c.args.s image = c.requires.image (subst (IsRole c.args.s) (sym role) (role_of_replay c.args.s image r c.see_log.ensures begun)) in
    start_request c.args.s image (replay_setup r) (state_in c.args.state.now) whole role start

pub returns-in_ok-player_of-in-Replay-clause-kept : goal.returns-in_ok-player_of-in-Replay-clause-kept
returns-in_ok-player_of-in-Replay-clause-kept c =
    let image = setup_of c.args.setup.now in
    let r = c.in-Replay.replay in
    let start : state_in c.args.state.now ≡ start_as image (role_setup (Role.Replay r)) = subst (λ (x : Role). state_in c.args.state.now ≡ start_as image (role_setup x)) c.in-Replay.is c.requires.start in
    let begun : IsBegunIf image (replay_setup r) (begun_of r) = (subst (λ (x : Role). IsBegunAs image x) c.in-Replay.is c.requires.begun).0 in
    ap (Replaying c.in_ok-player_of-in-Replay.field-0) c.new-in-Replay.ensures.items
    ∙ ap (λ (f : Following). Replaying f []) (c.in_ok-player_of-in-Replay.ensures.from ∙ follows_start image r (state_in c.args.state.now) begun start)
    ∙ sym (ap (λ (x : Role). keeping_at image c.args.s (role_setup x)) c.in-Replay.is)

pub returns-in_ok-player_of-in-Replay-clause-role : goal.returns-in_ok-player_of-in-Replay-clause-role
returns-in_ok-player_of-in-Replay-clause-role c =
    let image = setup_of c.args.setup.now in
    let r = c.in-Replay.replay in
    let begun : IsBegunIf image (replay_setup r) (begun_of r) = (subst (λ (x : Role). IsBegunAs image x) c.in-Replay.is c.requires.begun).0 in
    subst (λ (x : Role). IsRole c.args.s (role_setup x)) (sym c.in-Replay.is) (role_of_replay c.args.s image r c.see_log.ensures begun)

pub player_of-requires-clause-first : goal.player_of-requires-clause-first
player_of-requires-clause-first c =
    let image = setup_of c.args.setup.now in
    let r = c.in-Replay.replay in
    let start : state_in c.args.state.now ≡ start_as image (role_setup (Role.Replay r)) = subst (λ (x : Role). state_in c.args.state.now ≡ start_as image (role_setup x)) c.in-Replay.is c.requires.start in
    first_if image r (state_in c.args.state.now) start
