use Rattle.std.proofs.Common.{◌≡◌, None, false, sym, subst}
use Rattle.dl_entry.specs.declared.Actor.{Actor}
use Rattle.spec_kernel.specs.Devices.{Devices}
use Rattle.spec_sphere.specs.sphere.Spheres.{turn_against, Sphere, is_stopped}
use Rattle.spec_sphere.specs.sphere.Commits.{Granted, Diverged, dma_moved}
use Rattle.spec_protocol.specs.machine.World.{World, sphere_at}
use Rattle.dl_sphere.specs.declared.moved.Moved.{Moved}
use Rattle.dl_sphere.specs.Moving.{came}
use Rattle.dl_machine.specs.Rows.{nth_sphere}
use Rattle.dl_machine.specs.States.{world_in}
use Rattle.dl_machine.specs.Transfers.{ComesTo}
use Rattle.dl_machine.proofs.Commits.Able.{turn_of_dma}
use Rattle.dl_machine.proofs.Commits.Transfers.{comes_to}
use Rattle.dl_machine.proofs.state.State.store.Goals as goal

pub dma-requires-clause-turn : goal.dma-requires-clause-turn
dma-requires-clause-turn g c =
    let x = c.self.inside in
    let w : World = world_in x.cores x.spheres x.flights x.devices x.counts x.points.items in
    let view : w ≡ c.args.self.now = c.self.view_is in
    turn_of_dma (sphere_at w c.args.sphere) (subst (λ (u : World). is_stopped (sphere_at u c.args.sphere).role ≡ false) (sym view) c.requires.going)
    (subst (λ (u : World). turn_against (sphere_at u c.args.sphere) Actor.Dma ≡ None) (sym view) c.requires.turn)

pub unreachable-requires : goal.unreachable-requires
unreachable-requires g c =
    let x = c.self.inside in
    let w : World = world_in x.cores x.spheres x.flights x.devices x.counts x.points.items in
    let view : w ≡ c.args.self.now = c.self.view_is in
    let p : Sphere = nth_sphere c.args.sphere c.dma.new.self in
    let d : Devices = c.dma.new.devices in
    let goes : ComesTo Granted (dma_moved w.devices (sphere_at w c.args.sphere)) = subst (λ (u : World). ComesTo Granted (dma_moved u.devices (sphere_at u c.args.sphere))) (sym view) c.requires.goes in
    let is : (came c.in_ok-words.field-0 p d).outcome ≡ Granted = comes_to Granted _ _ goes c.in_ok-words.ensures.ok in
    let no : Diverged c.in-Diverged.field-0 c.in-Diverged.field-1 ≡ Granted = subst (λ (m : Moved). (came m p d).outcome ≡ Granted) c.in-Diverged.is is in
    cc
