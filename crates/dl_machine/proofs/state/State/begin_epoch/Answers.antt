use Rattle.std.proofs.Common.{◌≡◌, false, sym, ap, ◌∙◌, subst}
use Rattle.spec_protocol.specs.machine.Epochs.{begun_at}
use Rattle.spec_protocol.specs.machine.World.{World, sphere_at}
use Rattle.spec_sphere.specs.promises.Kept.{has_due}
use Rattle.spec_protocol.proofs.Kept.One.{begun-same}
use Rattle.dl_sphere.specs.SizedSpheres.{SizedSphere}
use Rattle.dl_machine.specs.Ready.{IsReady}
use Rattle.dl_machine.specs.States.{world_in}
use Rattle.dl_machine.proofs.Worlds.Begun.{flying_inside}
use Rattle.dl_machine.proofs.state.State.begin_epoch.Goals as goal

pub returns-then-not-due-clause-ok : goal.returns-then-not-due-clause-ok
returns-then-not-due-clause-ok g c =
    let x = c.self.inside in
    let w : World = world_in x.cores x.spheres x.flights x.devices x.counts x.points.items in
    let none : has_due (sphere_at w c.args.i) ≡ false = ap (λ (p : SizedSphere). has_due p.sphere) (sym c.get.ensures.sphere) ∙ sym c.due.ensures ∙ c.if-not-due.true in
    subst (λ (u : World). u ≡ begun_at c.args.i u) c.self.view_is (sym (begun-same w c.args.i none))

pub begin_epoch-requires-clause-inside : goal.begin_epoch-requires-clause-inside
begin_epoch-requires-clause-inside g c =
    let x = c.self.inside in
    let w : World = world_in x.cores x.spheres x.flights x.devices x.counts x.points.items in
    flying_inside w c.args.i (subst IsReady (sym c.self.view_is) c.requires.ready)
