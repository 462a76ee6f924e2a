use Rattle.std.proofs.Common.{◌≡◌, None, sym, subst, ap, ◌∙◌}
use Rattle.spec_sphere.specs.sphere.Spheres.{Role, turn_against, turn_in}
use Rattle.dl_sphere.specs.declared.part.Part.{Part}
use Rattle.dl_sphere.specs.Roles.{role_in}
use Rattle.dl_sphere.specs.SizedSpheres.{SizedSphere}
use Rattle.dl_sphere.proofs.sphere.Sphere.takes.Goals as goal

pub returns-in-Replayed : goal.returns-in-Replayed
unfolding turn_against
returns-in-Replayed c =
    let a = c.self.inside in
    let r = c.in-Replayed.replay in
    let p = c.args.self.now.sphere in
    let here = c.takes.ensures a.past.state.used r.loads.items p in
    let same : role_in a.past.state.used (Part.Replayed r) ≡ p.role =
    sym (ap (λ (x : Part). role_in a.past.state.used x) c.in-Replayed.is) ∙ ap (λ (v : SizedSphere). v.sphere.role) c.self.view_is in (
      λ is. subst (λ (role : Role). turn_in role p c.args.actor ≡ None) same (here.0 is),
      λ free. here.1 (subst (λ (role : Role). turn_in role p c.args.actor ≡ None) (sym same) free),
    )
