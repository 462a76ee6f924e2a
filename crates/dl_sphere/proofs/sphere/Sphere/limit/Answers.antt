use Rattle.std.proofs.Common.{◌≡◌, ◌≤◌, ◌∙◌, Some, None, sym, ap, subst}
use Rattle.std.specs.Prelude.{slice_get}
use Rattle.spec_sphere.specs.promises.Sound.{commits_if}
use Rattle.dl_replay.specs.Limits.{chunk_limit, chunk_limit_in}
use Rattle.dl_replay.specs.Following.{cursor_of}
use Rattle.dl_sphere.specs.declared.part.Part.{Part}
use Rattle.dl_sphere.specs.Roles.{role_in}
use Rattle.dl_sphere.specs.SizedSpheres.{SizedSphere}
use Rattle.dl_sphere.specs.Setups.{standard_in}
use Rattle.dl_sphere.proofs.Replays.Limits.{commits_within, replayed, replay_least}
use Rattle.dl_sphere.proofs.sphere.Sphere.limit.Goals as goal

pub limit-requires : goal.limit-requires
limit-requires c =
    let a = c.self.inside in
    let r = c.in-Replayed.replay in
    subst (λ n. n ≤ r.player.log.count) (sym c.commits_of-commits.ensures)
    (commits_within r.player a.past.state c.args.thread (replayed a r c.in-Replayed.is c.self.invariant).replaying)

pub returns-in-Replayed-clause-value : goal.returns-in-Replayed-clause-value
returns-in-Replayed-clause-value c t is =
    let a = c.self.inside in
    let r = c.in-Replayed.replay in
    let u = a.past.state.used in
    let here : slice_get a.past.state.threads c.args.thread ≡ Some t = ap (λ (v : SizedSphere). slice_get v.sphere.threads c.args.thread) c.self.view_is ∙ is in
    c.limit.ensures.of_thread a.s u r.loads.items t (sym (c.commits_of-commits.ensures ∙ ap commits_if here))
    ∙ sym (ap (λ (part : Part). chunk_limit c.args.after a.s (role_in u part) c.args.thread t) c.in-Replayed.is)
    ∙ ap (λ (v : SizedSphere). chunk_limit c.args.after v.s v.sphere.role c.args.thread t) c.self.view_is

pub returns-in-Replayed-clause-absent : goal.returns-in-Replayed-clause-absent
returns-in-Replayed-clause-absent c is =
    let a = c.self.inside in
    let r = c.in-Replayed.replay in
    let u = a.past.state.used in
    let here : slice_get a.past.state.threads c.args.thread ≡ None = ap (λ (v : SizedSphere). slice_get v.sphere.threads c.args.thread) c.self.view_is ∙ is in
    let none : c.commits_of-commits.result ≡ 0 = c.commits_of-commits.ensures ∙ ap commits_if here in
    c.limit.ensures.value a.s u r.loads.items
    ∙ ap (λ n. chunk_limit_in c.args.after (role_in u (Part.Replayed r)) a.s c.args.thread n) none
    ∙ sym (ap (λ (part : Part). chunk_limit_in c.args.after (role_in u part) a.s c.args.thread 0) c.in-Replayed.is)
    ∙ ap (λ (v : SizedSphere). chunk_limit_in c.args.after v.sphere.role v.s c.args.thread 0) c.self.view_is

pub returns-in-Replayed-clause-least : goal.returns-in-Replayed-clause-least
returns-in-Replayed-clause-least c =
    let a = c.self.inside in
    let r = c.in-Replayed.replay in
    let u = a.past.state.used in
    subst (λ n. 1 ≤ n) (sym (c.limit.ensures.value a.s u r.loads.items))
    (replay_least c.args.after a.s (cursor_of r.player u r.loads.items) c.args.thread c.commits_of-commits.result)

pub returns-in-Replayed-clause-most : goal.returns-in-Replayed-clause-most
returns-in-Replayed-clause-most c =
    let a = c.self.inside in
    subst (λ (v : SizedSphere). c.limit.result ≤ standard_in v.s v.sphere.role) c.self.view_is
    (subst (λ (part : Part). c.limit.result ≤ standard_in a.s (role_in a.past.state.used part)) (sym c.in-Replayed.is) c.limit.ensures.most)
