use Rattle.std.proofs.Common.{◌≡◌, ◌∙◌, Some, sym, ap, subst, refl, set, List}
use Rattle.std.specs.Prelude.{slice_get}
use Rattle.spec_isa.specs.declared.thread.Parts.{Parts}
use Rattle.spec_kernel.specs.Interrupts.{interrupted}
use Rattle.spec_sphere.specs.sphere.Spheres.{Sphere, Role, replays}
use Rattle.spec_sphere.specs.sphere.Commits.{raised, role_raised}
use Rattle.dl_kernel.specs.InOrder.{listed}
use Rattle.dl_sphere.specs.Roles.{Keeping, keeping_of, role_in, role_of, with_raised, CanRaise, IsLive, IsLiveOf}
use Rattle.dl_sphere.specs.Inside.{sphere_in}
use Rattle.dl_sphere.specs.Pasts.{sphere_with}
use Rattle.dl_sphere.specs.SizedSpheres.{SizedSphere}
use Rattle.dl_sphere.specs.Setups.{standard_in}
use Rattle.dl_sphere.proofs.Standing.Sizes.{raised_size}
use Rattle.spec_sphere.specs.promises.Kept.{has_due}
use Rattle.dl_sphere.proofs.Begins.Due.{ready}
use Rattle.dl_sphere.proofs.Standing.Moves.{can_raise, raised_stand, raised_role}
use Rattle.dl_sphere.proofs.Replays.Limits.{alone, kept_live, live_role}
use Rattle.dl_sphere.proofs.sphere.Sphere.raise.Goals as goal

pub note_interrupt-requires : goal.note_interrupt-requires
note_interrupt-requires c =
    let a = c.self.inside in
    let k = c.args.thread in
    let t = c.thread_at-found.result in
    let start : slice_get c.args.self.now.sphere.threads k ≡ Some t =
    sym (ap (λ (v : SizedSphere). slice_get v.sphere.threads k) c.self.view_is) ∙ c.thread_at-found.ensures.thread
    in
    subst (λ n. CanRaise k n (keeping_of a.part)) (sym c.commits.ensures)
    (can_raise (sphere_in a) k t a.s (keeping_of a.part) c.thread_at-found.ensures.thread (c.requires.there t start)
    (alone a (live_role a.past.state.used (keeping_of a.part) (ap (λ (v : SizedSphere). replays v.sphere.role) c.self.view_is ∙ c.requires.recorded)) c.self.invariant)
    (ready a.past a.past.state.used (keeping_of a.part) (ap (λ (v : SizedSphere). has_due v.sphere) c.self.view_is ∙ c.requires.ready)))

pub invariant_of-self-2 : goal.invariant_of-self-2
invariant_of-self-2 c =
    let a = c.self.inside in
    let k = c.args.thread in
    let t = c.thread_at-found.result in
    let q : Sphere = sphere_with a.past.first a.past.state.memory c.set.new.self (listed a.past.commits) a.past.state.last a.past.state.request (role_in a.past.state.used c.note_interrupt.new.part) in
    let start : slice_get c.args.self.now.sphere.threads k ≡ Some t =
    sym (ap (λ (v : SizedSphere). slice_get v.sphere.threads k) c.self.view_is) ∙ c.thread_at-found.ensures.thread
    in
    let live : IsLive (keeping_of a.part) = live_role a.past.state.used (keeping_of a.part) (ap (λ (v : SizedSphere). replays v.sphere.role) c.self.view_is ∙ c.requires.recorded) in
    let noted = c.in_ok-note_interrupt.ensures.noted ∙ ap (λ n. with_raised k n c.args.value (keeping_of a.part)) c.commits.ensures in
    let past = record a.past { state = record a.past.state { threads = c.set.new.self } } in
    record {
      size = c.self.invariant.size;
      counted = c.self.invariant.counted;
      request = c.self.invariant.request;
      kept = kept_live a.s past (keeping_of c.note_interrupt.new.part)
          (subst (IsLiveOf a.s q) (sym noted)
          (raised_stand (sphere_in a) q k c.args.value t a.s (keeping_of a.part) c.thread_at-found.ensures.thread (c.requires.there t start)
          (c.set.ensures ∙ ap (set a.past.state.threads k) c.interrupted-after.ensures) refl (alone a live c.self.invariant)));
    }

pub returns-clause-ok : goal.returns-clause-ok
unfolding raised
returns-clause-ok c =
    λ (t : Parts) is.
    let a = c.self.inside in
    let k = c.args.thread in
    let v = c.args.value in
    let x = c.thread_at-found.result in
    let start : slice_get c.args.self.now.sphere.threads k ≡ Some x =
    sym (ap (λ (s : SizedSphere). slice_get s.sphere.threads k) c.self.view_is) ∙ c.thread_at-found.ensures.thread
    in
    let same : x ≡ t = (let e : Some x ≡ Some t = sym start ∙ is in cc) in
    let made : List Parts → Role → Sphere = λ us role. sphere_with a.past.first a.past.state.memory us (listed a.past.commits) a.past.state.last a.past.state.request role in
    let threads : c.set.new.self ≡ set a.past.state.threads k (interrupted v t) = c.set.ensures ∙ ap (set a.past.state.threads k) (c.interrupted-after.ensures ∙ ap (interrupted v) same) in
    let role : role_in a.past.state.used c.note_interrupt.new.part ≡ role_raised k t.commits v (role_in a.past.state.used a.part) =
    ap (role_of a.past.state.used) (c.in_ok-note_interrupt.ensures.noted ∙ ap (λ n. with_raised k n v (keeping_of a.part)) (c.commits.ensures ∙ ap (λ (y : Parts). y.commits) same))
    ∙ raised_role a.past.state.used k t.commits v (keeping_of a.part)
    in
    ap (λ us. made us (role_in a.past.state.used c.note_interrupt.new.part)) threads ∙ ap (made (set a.past.state.threads k (interrupted v t))) role ∙ ap (λ (s : SizedSphere). raised k v t s.sphere) c.self.view_is

pub returns-clause-size : goal.returns-clause-size
returns-clause-size c =
    let a = c.self.inside in
    ap (λ (x : Keeping). standard_in a.s (role_of a.past.state.used x)) c.in_ok-note_interrupt.ensures.noted
    ∙ raised_size a.past.state.used a.s _ _ _ (keeping_of a.part)
    ∙ ap (λ (v : SizedSphere). standard_in v.s v.sphere.role) c.self.view_is
