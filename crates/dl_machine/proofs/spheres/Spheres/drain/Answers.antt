use Rattle.std.proofs.Common.{◌<◌, length, ap, ◌∙◌, arith}
use Rattle.std.proofs.lemmas.Grind.{common_steps}
use Rattle.spec_engine.specs.Flights.{at, drain}
use Rattle.spec_sphere.specs.sphere.Spheres.{Sphere}
use Rattle.dl_machine.specs.Rows.{with_nth}
use Rattle.dl_sphere.specs.Setups.{standard_in}
use Rattle.dl_sphere.specs.SizedSpheres.{SizedSphere}
use Rattle.dl_machine.proofs.Rows.Spheres.{spheres_left, sized_is, spheres_set}
use Rattle.dl_machine.proofs.spheres.Spheres.drain.Goals as goal

pub returns-clause-memory : goal.returns-clause-memory
returns-clause-memory g c =
    let within : c.args.i < length c.self.inside.row.items = grind (arith, common_steps) in
    let drained : Sphere → Sphere = λ p. record p { memory = (drain p.memory (at c.args.flights.now.slots c.args.k)).memory } in
    spheres_left _ _ _ _ _ _ c.self.view_is
    ∙ ap (λ (q : Sphere). with_nth c.args.i q c.args.self.now)
    (ap (λ (s : SizedSphere). s.sphere) c.drain.ensures.memory ∙ ap drained (sized_is _ _ _ _ _ _ c.self.invariant c.self.view_is within c.index_mut-sphere.ensures.value))

pub invariant_of-self : goal.invariant_of-self
invariant_of-self g c =
    let within : c.args.i < length c.self.inside.row.items = grind (arith, common_steps) in
    spheres_set _ _ _ _ _ _ c.self.invariant within c.index_mut-sphere.ensures.value (ap (λ (v : SizedSphere). v.s) c.drain.ensures.memory) (ap (λ (v : SizedSphere). standard_in v.s v.sphere.role) c.drain.ensures.memory)
