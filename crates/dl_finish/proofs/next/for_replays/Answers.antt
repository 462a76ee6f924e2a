use Rattle.std.proofs.Common.{arith, ◌≡◌, ℕ, ◌<◌, None, length, sym, ap, ◌∙◌}
use Rattle.spec_sphere.specs.sphere.Spheres.{Sphere}
use Rattle.spec_protocol.specs.machine.World.{sphere_at}
use Rattle.spec_protocol.specs.machine.Finishing.{for_turn}
use Rattle.dl_finish.specs.Turns.{turn_in}
use Rattle.dl_finish.proofs.Searching.{least_is, least_is_none}
use Rattle.dl_finish.proofs.next.for_replays.Goals as goal

pub returns-in-Some : goal.returns-in-Some
returns-in-Some g c =
    let w = c.args.machine.now in
    let i = c.loop-i.i in
    let n = c.spheres-i-end.ensures.value in
    let l = c.loop-i-test.true in
    let here = sym (c.in-Some.ensures ∙ ap (λ (p : Sphere). turn_in p.role) c.sphere.ensures.sphere) in
    let is = least_is 0 w.spheres i i c.in-Some.actor (omega arith) (omega (arith, n, l)) c.loop-i.invariant here in
    c.for_actor.ensures ∙ sym (ap (for_turn w) is)

pub returns : goal.returns
returns g c =
    let w = c.args.machine.now in
    let n = c.spheres-i-end.ensures.value in
    let l = c.loop-i-test.false in
    let each : (j : ℕ) → j < length w.spheres → turn_in (sphere_at w j).role ≡ None = λ j m. c.loop-i.invariant j (omega (arith, n, l, m)) in
    sym (ap (for_turn w) (least_is_none 0 w.spheres each))
