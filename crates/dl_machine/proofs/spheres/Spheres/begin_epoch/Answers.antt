use Rattle.std.proofs.Common.{◌≡◌, ◌<◌, length, OnOk, ap, ◌∙◌, refl, arith}
use Rattle.std.proofs.lemmas.Grind.{common_steps}
use Rattle.spec_isa.specs.Words.{lays}
use Rattle.spec_sphere.specs.sphere.Epochs.{epoch_begun}
use Rattle.spec_engine.specs.Flying.{flying}
use Rattle.spec_sphere.specs.sphere.Spheres.{Sphere}
use Rattle.dl_sphere.specs.Setups.{standard_in}
use Rattle.dl_sphere.specs.SizedSpheres.{SizedSphere, with_sphere}
use Rattle.dl_machine.specs.Rows.{with_nth}
use Rattle.dl_machine.proofs.Rows.Spheres.{said_of_row, others_left, spheres_set}
use Rattle.dl_machine.proofs.Worlds.Begun.{begun_size, ok_or_err, on_ok}
use Rattle.dl_machine.proofs.spheres.Spheres.begin_epoch.Goals as goal

pub returns-clause-ok : goal.returns-clause-ok
returns-clause-ok g c =
    let within : c.args.i < length c.self.inside.row.items = grind (arith, common_steps) in
    let begun : Sphere → Sphere = λ p. epoch_begun (lays p.memory (flying c.args.i c.args.flights.now.slots)) p in
    let P : SizedSphere → Sphere → Type 0 = λ o q. OnOk c.begin_epoch.result (q ≡ begun o.sphere) in
    let said = said_of_row P _ _ _ _ _ _ _ c.self.invariant c.self.view_is within c.index_mut-sphere.ensures.value (on_ok c.begin_epoch.result (ap (λ (v : SizedSphere). v.sphere)) c.begin_epoch.ensures.ok) in
    let others = others_left _ _ _ c.args.i c.begin_epoch.new.self _ c.self.view_is within in
    on_ok c.begin_epoch.result (λ is. others ∙ ap (λ (q : Sphere). with_nth c.args.i q c.args.self.now) is) said

pub invariant_of-self : goal.invariant_of-self
invariant_of-self g c =
    let within : c.args.i < length c.self.inside.row.items = grind (arith, common_steps) in
    let o : SizedSphere = c.index_mut-sphere.result.now in
    let m = lays o.sphere.memory (flying c.args.i c.args.flights.now.slots) in
    let b : SizedSphere = with_sphere (epoch_begun m o.sphere) o in
    let r = c.begin_epoch.result in
    let new = c.begin_epoch.new.self in
    spheres_set _ _ _ _ _ _ c.self.invariant within c.index_mut-sphere.ensures.value
    (ok_or_err (λ (v : SizedSphere). v.s ≡ o.s) r new b o c.begin_epoch.ensures.ok c.begin_epoch.ensures.err refl refl)
    (ok_or_err (λ (v : SizedSphere). standard_in v.s v.sphere.role ≡ standard_in o.s o.sphere.role) r new b o c.begin_epoch.ensures.ok c.begin_epoch.ensures.err (begun_size o.s m o.sphere) refl)
