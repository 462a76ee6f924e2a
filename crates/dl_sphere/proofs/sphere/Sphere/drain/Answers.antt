use Rattle.std.proofs.Common.{ap, length, ◌∙◌}
use Rattle.spec_engine.specs.Flights.{at}
use Rattle.dl_sphere.specs.Roles.{keeping_of}
use Rattle.dl_sphere.proofs.Standing.Drained.{drain_length, drained_stands}
use Rattle.dl_sphere.proofs.sphere.Sphere.drain.Goals as goal

pub invariant_of-self : goal.invariant_of-self
invariant_of-self g c =
    let a = c.self.inside in
    drained_stands a.s a.past c.drain.new.mem (keeping_of a.part)
    (ap length c.drain.ensures.memory ∙ drain_length a.past.state.memory (at c.args.flights.now.slots c.args.k)) c.self.invariant
