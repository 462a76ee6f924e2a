use Rattle.std.proofs.Common.{◌≡◌, ◌%◌, ◌^◌, false, [], ◌∷◌, ◌++◌, List, None, Some, refl, sym, ap, ◌∙◌, subst}
use Rattle.std.specs.Prelude.{option_map, slice_get}
use Rattle.dl_entry.specs.declared.Actor.{Actor}
use Rattle.dl_entry.specs.declared.CommitKind.{CommitKind}
use Rattle.dl_entry.specs.declared.Point.{Point}
use Rattle.spec_isa.specs.declared.thread.Parts.{Parts}
use Rattle.spec_kernel.specs.Devices.{Devices}
use Rattle.spec_engine.specs.Flights.{at}
use Rattle.spec_engine.specs.Signatures.{Signature, nothing, signed}
use Rattle.spec_protocol.specs.declared.reply.Reply.{Reply}
use Rattle.spec_sphere.specs.sphere.Spheres.{turn_against, Sphere, is_stopped}
use Rattle.spec_sphere.specs.sphere.Commits.{MovedSphere, serial_moved}
use Rattle.spec_protocol.specs.machine.World.{EventOutcome, World, moment, sphere_at, held_afresh, with_core}
use Rattle.spec_protocol.specs.machine.Asking.{grant_serial}
use Rattle.dl_sphere.specs.declared.moved.Moved.{Moved}
use Rattle.dl_sphere.specs.declared.moved.Moved.TheVariants as moved_as
use Rattle.dl_sphere.specs.Moving.{came}
use Rattle.dl_machine.specs.Cores.{seen}
use Rattle.dl_machine.specs.Ready.{IsReady}
use Rattle.dl_machine.specs.Rows.{Spheres, nth_sphere, with_nth}
use Rattle.dl_machine.specs.States.{left, world_in}
use Rattle.dl_machine.proofs.Commits.Able.{turn_of}
use Rattle.dl_machine.proofs.Commits.Granted.{point_in, with_grant, serial_done, held_after, serial_after, serial_still}
use Rattle.dl_machine.proofs.state.State.grant_serial.Goals as goal

pub serial_step-requires-clause-turn : goal.serial_step-requires-clause-turn
serial_step-requires-clause-turn g c =
    let x = c.self.inside in
    let w : World = world_in x.cores x.spheres x.flights x.devices x.counts x.points.items in
    let view : w ≡ c.args.self.now = c.self.view_is in
    turn_of (sphere_at w c.args.held.sphere) c.args.held.thread (subst (λ (u : World). is_stopped (sphere_at u c.args.held.sphere).role ≡ false) (sym view) c.requires.going)
    (subst (λ (u : World). turn_against (sphere_at u c.args.held.sphere) (Actor.Thread c.args.held.thread) ≡ None) (sym view) c.requires.turn)

pub returns-in-Granted-clause-reply : goal.returns-in-Granted-clause-reply
returns-in-Granted-clause-reply g c =
    let x = c.self.inside in
    let w : World = world_in x.cores x.spheres x.flights x.devices x.counts x.points.items in
    let view : w ≡ c.args.self.now = c.self.view_is in
    let core = c.args.core in
    let ready : IsReady w = subst IsReady (sym view) c.requires.ready in
    let p : Sphere = nth_sphere c.args.held.sphere c.serial_step.new.self in
    let d : Devices = c.serial_step.new.devices in
    let v : MovedSphere = came (moved_as.Granted c.in-Granted.words) p d in
    let held : option_map seen (at w.cores core) ≡ Some c.args.held = subst (λ (u : World). option_map seen (at u.cores core) ≡ Some c.args.held) (sym view) c.requires.held in
    let moved : (t : Parts) → slice_get (sphere_at w c.args.held.sphere).threads c.args.held.thread ≡ Some t → v ≡ serial_moved c.args.held.thread (moment w % 2 ^ 32) t w.devices (sphere_at w c.args.held.sphere) =
    λ t e. subst (λ (m : Moved). came m p d ≡ serial_moved c.args.held.thread (moment w % 2 ^ 32) t w.devices (sphere_at w c.args.held.sphere)) c.in-Granted.is (c.in_ok-moved.ensures.ok t e)
    in
    let after = serial_after w core (at w.cores core) c.args.held v ready refl held moved in
    subst (λ (u : World). Some Reply.Granted ≡ option_map (λ h. (grant_serial u core h).reply) (at u.cores core)) view
    (held_after (λ (a : EventOutcome). a.reply) (grant_serial w core) (at w.cores core) _ after)

pub returns-in-Granted-clause-world : goal.returns-in-Granted-clause-world
returns-in-Granted-clause-world g c =
    let x = c.self.inside in
    let w : World = world_in x.cores x.spheres x.flights x.devices x.counts x.points.items in
    let view : w ≡ c.args.self.now = c.self.view_is in
    let core = c.args.core in
    let ready : IsReady w = subst IsReady (sym view) c.requires.ready in
    let p : Sphere = nth_sphere c.args.held.sphere c.serial_step.new.self in
    let d : Devices = c.serial_step.new.devices in
    let v : MovedSphere = came (moved_as.Granted c.in-Granted.words) p d in
    let held : option_map seen (at w.cores core) ≡ Some c.args.held = subst (λ (u : World). option_map seen (at u.cores core) ≡ Some c.args.held) (sym view) c.requires.held in
    let moved : (t : Parts) → slice_get (sphere_at w c.args.held.sphere).threads c.args.held.thread ≡ Some t → v ≡ serial_moved c.args.held.thread (moment w % 2 ^ 32) t w.devices (sphere_at w c.args.held.sphere) =
    λ t e. subst (λ (m : Moved). came m p d ≡ serial_moved c.args.held.thread (moment w % 2 ^ 32) t w.devices (sphere_at w c.args.held.sphere)) c.in-Granted.is (c.in_ok-moved.ensures.ok t e)
    in
    let after = serial_after w core (at w.cores core) c.args.held v ready refl held moved in
    let words = c.in-Granted.words.words in
    let marks : g.G.Sig.marks c.sign.new.marks ≡ signed c.args.held.sphere words (nothing w.numbers.bits) =
    c.sign.ensures ∙ ap (signed c.args.held.sphere words) (c.in_ok-writes.ensures ∙ ap nothing c.bits.ensures.value)
    in
    let point : c.push_reserved.new.self.items ≡ x.points.items ++ point_in w c.args.held CommitKind.Serial 0 false ∷ [] = cc in
    let i = c.args.held.sphere in
    let on : World → World = λ u. with_core u core (held_afresh u.numbers i c.args.held.thread (sphere_at u i)) in
    let done = serial_done x.cores x.spheres x.flights x.devices x.counts x.points.items core c.args.held c.serial_step.new.self words _ _ _ d c.in_ok-moved.ensures.others point in
    subst (λ (u : World). Some c.begin.new.self ≡ option_map (λ h. left (grant_serial u core h)) (at u.cores core)) view
    (ap (λ (u : World). Some u) (c.begin.ensures ∙ ap on c.fly_from.ensures ∙ done ∙ ap (λ (m : Signature). with_grant w core c.args.held p words m d (point_in w c.args.held CommitKind.Serial 0 false) (held_afresh w.numbers i c.args.held.thread p)) marks)
    ∙ held_after left (grant_serial w core) (at w.cores core) _ after)

-- no serial step is a piece of a commit
pub unreachable-requires : goal.unreachable-requires
unreachable-requires g c =
    let x = c.self.inside in
    let w : World = world_in x.cores x.spheres x.flights x.devices x.counts x.points.items in
    let view : w ≡ c.args.self.now = c.self.view_is in
    let core = c.args.core in
    let ready : IsReady w = subst IsReady (sym view) c.requires.ready in
    let p : Sphere = nth_sphere c.args.held.sphere c.serial_step.new.self in
    let d : Devices = c.serial_step.new.devices in
    let v : MovedSphere = came (moved_as.Piece c.in-Piece.field-0) p d in
    let held : option_map seen (at w.cores core) ≡ Some c.args.held = subst (λ (u : World). option_map seen (at u.cores core) ≡ Some c.args.held) (sym view) c.requires.held in
    let moved : (t : Parts) → slice_get (sphere_at w c.args.held.sphere).threads c.args.held.thread ≡ Some t → v ≡ serial_moved c.args.held.thread (moment w % 2 ^ 32) t w.devices (sphere_at w c.args.held.sphere) =
    λ t e. subst (λ (m : Moved). came m p d ≡ serial_moved c.args.held.thread (moment w % 2 ^ 32) t w.devices (sphere_at w c.args.held.sphere)) c.in-Piece.is (c.in_ok-moved.ensures.ok t e)
    in
    serial_still w core (at w.cores core) c.args.held v ready refl held moved

pub returns-in-Diverged-clause-reply : goal.returns-in-Diverged-clause-reply
returns-in-Diverged-clause-reply g c =
    let x = c.self.inside in
    let w : World = world_in x.cores x.spheres x.flights x.devices x.counts x.points.items in
    let view : w ≡ c.args.self.now = c.self.view_is in
    let core = c.args.core in
    let ready : IsReady w = subst IsReady (sym view) c.requires.ready in
    let p : Sphere = nth_sphere c.args.held.sphere c.serial_step.new.self in
    let d : Devices = c.serial_step.new.devices in
    let v : MovedSphere = came (moved_as.Diverged c.in-Diverged.commits c.in-Diverged.why) p d in
    let held : option_map seen (at w.cores core) ≡ Some c.args.held = subst (λ (u : World). option_map seen (at u.cores core) ≡ Some c.args.held) (sym view) c.requires.held in
    let moved : (t : Parts) → slice_get (sphere_at w c.args.held.sphere).threads c.args.held.thread ≡ Some t → v ≡ serial_moved c.args.held.thread (moment w % 2 ^ 32) t w.devices (sphere_at w c.args.held.sphere) =
    λ t e. subst (λ (m : Moved). came m p d ≡ serial_moved c.args.held.thread (moment w % 2 ^ 32) t w.devices (sphere_at w c.args.held.sphere)) c.in-Diverged.is (c.in_ok-moved.ensures.ok t e)
    in
    let after = serial_after w core (at w.cores core) c.args.held v ready refl held moved in
    subst (λ (u : World). Some (Reply.Diverged c.in-Diverged.commits c.in-Diverged.why) ≡ option_map (λ h. (grant_serial u core h).reply) (at u.cores core)) view
    (held_after (λ (a : EventOutcome). a.reply) (grant_serial w core) (at w.cores core) _ after)

pub returns-in-Diverged-clause-world : goal.returns-in-Diverged-clause-world
returns-in-Diverged-clause-world g c =
    let x = c.self.inside in
    let w : World = world_in x.cores x.spheres x.flights x.devices x.counts x.points.items in
    let view : w ≡ c.args.self.now = c.self.view_is in
    let core = c.args.core in
    let ready : IsReady w = subst IsReady (sym view) c.requires.ready in
    let p : Sphere = nth_sphere c.args.held.sphere c.serial_step.new.self in
    let d : Devices = c.serial_step.new.devices in
    let v : MovedSphere = came (moved_as.Diverged c.in-Diverged.commits c.in-Diverged.why) p d in
    let held : option_map seen (at w.cores core) ≡ Some c.args.held = subst (λ (u : World). option_map seen (at u.cores core) ≡ Some c.args.held) (sym view) c.requires.held in
    let moved : (t : Parts) → slice_get (sphere_at w c.args.held.sphere).threads c.args.held.thread ≡ Some t → v ≡ serial_moved c.args.held.thread (moment w % 2 ^ 32) t w.devices (sphere_at w c.args.held.sphere) =
    λ t e. subst (λ (m : Moved). came m p d ≡ serial_moved c.args.held.thread (moment w % 2 ^ 32) t w.devices (sphere_at w c.args.held.sphere)) c.in-Diverged.is (c.in_ok-moved.ensures.ok t e)
    in
    let after = serial_after w core (at w.cores core) c.args.held v ready refl held moved in
    let still : d ≡ x.devices = serial_still w core (at w.cores core) c.args.held v ready refl held moved in
    let world : world_in x.cores c.serial_step.new.self x.flights d x.counts c.reserve.new.self.items ≡ world_in x.cores (with_nth c.args.held.sphere p x.spheres) x.flights x.devices x.counts x.points.items =
    ap (λ (s : Spheres). world_in x.cores s x.flights d x.counts c.reserve.new.self.items) c.in_ok-moved.ensures.others
    ∙ ap (λ (e : Devices). world_in x.cores (with_nth c.args.held.sphere p x.spheres) x.flights e x.counts c.reserve.new.self.items) still
    ∙ ap (λ (ps : List Point). world_in x.cores (with_nth c.args.held.sphere p x.spheres) x.flights x.devices x.counts ps) c.reserve.ensures.items
    in
    subst (λ (u : World). Some (world_in x.cores c.serial_step.new.self x.flights d x.counts c.reserve.new.self.items) ≡ option_map (λ h. left (grant_serial u core h)) (at u.cores core)) view
    (ap (λ (u : World). Some u) world ∙ held_after left (grant_serial w core) (at w.cores core) _ after)
