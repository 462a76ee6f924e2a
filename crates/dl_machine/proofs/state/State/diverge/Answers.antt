use Rattle.std.proofs.Common.{◌≡◌, inl, inr, None, Some, Option, false, sym, ap, ◌∙◌, subst}
use Rattle.std.proofs.lemmas.Option.{same_Some}
use Rattle.dl_entry.specs.declared.Actor.{Actor}
use Rattle.spec_kernel.specs.Devices.{Devices}
use Rattle.spec_play.specs.Progress.{position}
use Rattle.spec_sphere.specs.sphere.Spheres.{turn_against, Sphere, is_stopped}
use Rattle.spec_sphere.specs.sphere.Commits.{CommitOutcome, Granted, Piece, Diverged, MovedSphere, dma_moved}
use Rattle.spec_protocol.specs.machine.World.{World, sphere_at}
use Rattle.spec_protocol.specs.machine.Transferring.{dma_with}
use Rattle.dl_sphere.specs.declared.moved.Moved.{Moved}
use Rattle.dl_sphere.specs.declared.moved.Moved.TheVariants as moved_as
use Rattle.dl_sphere.specs.Moving.{came}
use Rattle.dl_machine.specs.Rows.{Spheres, nth_sphere, with_nth}
use Rattle.dl_machine.specs.States.{left, world_in}
use Rattle.dl_machine.specs.Transfers.{ComesTo}
use Rattle.dl_machine.proofs.Commits.Able.{turn_of_dma}
use Rattle.dl_machine.proofs.Commits.Diverging.{AreApart, dma_apart}
use Rattle.dl_machine.proofs.Commits.Transfers.{comes_to}
use Rattle.dl_machine.proofs.state.State.diverge.Goals as goal

pub dma-requires-clause-turn : goal.dma-requires-clause-turn
dma-requires-clause-turn g c =
    let x = c.self.inside in
    let w : World = world_in x.cores x.spheres x.flights x.devices x.counts x.points.items in
    let view : w ≡ c.args.self.now = c.self.view_is in
    turn_of_dma (sphere_at w c.args.sphere) (subst (λ (u : World). is_stopped (sphere_at u c.args.sphere).role ≡ false) (sym view) c.requires.going)
    (subst (λ (u : World). turn_against (sphere_at u c.args.sphere) Actor.Dma ≡ None) (sym view) c.requires.turn)

pub unreachable-requires : goal.unreachable-requires
unreachable-requires g c =
    let x = c.self.inside in
    let w : World = world_in x.cores x.spheres x.flights x.devices x.counts x.points.items in
    let view : w ≡ c.args.self.now = c.self.view_is in
    let p : Sphere = nth_sphere c.args.sphere c.dma.new.self in
    let d : Devices = c.dma.new.devices in
    let o : CommitOutcome = Diverged (position (sphere_at w c.args.sphere).progress) c.args.why in
    let goes : ComesTo o (dma_moved w.devices (sphere_at w c.args.sphere)) = subst (λ (u : World). ComesTo (Diverged (position (sphere_at u c.args.sphere).progress) c.args.why) (dma_moved u.devices (sphere_at u c.args.sphere))) (sym view) c.requires.diverges in
    let is : (came c.in_ok-commits.field-0 p d).outcome ≡ o = comes_to o _ _ goes c.in_ok-commits.ensures.ok in
    elim c.in-Granted.is [
      | inl h ↦ (let no : Granted ≡ o = subst (λ (m : Moved). (came m p d).outcome ≡ o) h.1 is in cc)
      | inr h ↦ (let no : Piece ≡ o = subst (λ (m : Moved). (came m p d).outcome ≡ o) h.1 is in cc)
    ]

pub returns-clause-world : goal.returns-clause-world
returns-clause-world g c =
    let x = c.self.inside in
    let w : World = world_in x.cores x.spheres x.flights x.devices x.counts x.points.items in
    let view : w ≡ c.args.self.now = c.self.view_is in
    let i = c.args.sphere in
    let p : Sphere = nth_sphere i c.dma.new.self in
    let d : Devices = c.dma.new.devices in
    let v : MovedSphere = came (moved_as.Diverged c.in-Diverged.commits c.in-Diverged.why) p d in
    let is : dma_moved x.devices (sphere_at w i) ≡ Some v = subst (λ (m : Moved). dma_moved x.devices (sphere_at w i) ≡ Some (came m p d)) c.in-Diverged.is c.in_ok-commits.ensures.ok in
    let still : d ≡ x.devices = subst (λ (m : Option MovedSphere). AreApart x.devices m) is (dma_apart x.devices (sphere_at w i)) in
    let world : world_in x.cores c.dma.new.self x.flights d x.counts x.points.items ≡ world_in x.cores (with_nth i p x.spheres) x.flights x.devices x.counts x.points.items =
    ap (λ (s : Spheres). world_in x.cores s x.flights d x.counts x.points.items) c.in_ok-commits.ensures.others
    ∙ ap (λ (e : Devices). world_in x.cores (with_nth i p x.spheres) x.flights e x.counts x.points.items) still
    in
    subst (λ (u : World). (m : MovedSphere) → dma_moved u.devices (sphere_at u i) ≡ Some m → world_in x.cores c.dma.new.self x.flights d x.counts x.points.items ≡ left (dma_with u i m m.outcome)) view
    (λ m e. let same : v ≡ m = same_Some _ _ (sym is ∙ e) in world ∙ ap (λ (u : MovedSphere). left (dma_with w i u u.outcome)) same)
