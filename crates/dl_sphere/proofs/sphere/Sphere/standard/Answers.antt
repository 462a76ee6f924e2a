use Rattle.std.proofs.Common.{◌∙◌, sym, ap, subst}
use Rattle.spec_log.proofs.Threads.{log-among}
use Rattle.spec_sphere.specs.promises.Sound.{IsChunkSize}
use Rattle.dl_sphere.specs.declared.part.Part.{Part}
use Rattle.dl_sphere.specs.Roles.{role_in}
use Rattle.dl_sphere.specs.Setups.{standard_in}
use Rattle.dl_sphere.specs.SizedSpheres.{SizedSphere}
use Rattle.dl_sphere.proofs.Replays.Limits.{replayed}
use Rattle.dl_sphere.proofs.sphere.Sphere.standard.Goals as goal

pub returns-in-Replayed-clause-value : goal.returns-in-Replayed-clause-value
returns-in-Replayed-clause-value c =
    let a = c.self.inside in
    c.standard.ensures
    ∙ sym (ap (λ (part : Part). standard_in a.s (role_in a.past.state.used part)) c.in-Replayed.is)
    ∙ ap (λ (v : SizedSphere). standard_in v.s v.sphere.role) c.self.view_is

pub returns-in-Replayed-clause-size : goal.returns-in-Replayed-clause-size
returns-in-Replayed-clause-size c =
    let a = c.self.inside in
    let r = c.in-Replayed.replay in
    let kept = replayed a r c.in-Replayed.is c.self.invariant in
    let among = log-among r.player.log kept.replaying.is_log in
    subst IsChunkSize (sym c.standard.ensures) (among.least, among.most)
