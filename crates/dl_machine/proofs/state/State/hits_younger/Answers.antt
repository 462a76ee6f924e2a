use Rattle.std.proofs.Common.{◌≡◌, Some, Option, refl, ap, ◌∙◌, sym, subst}
use Rattle.spec_engine.specs.Chunks.{Chunk}
use Rattle.spec_engine.specs.Flights.{Flight, IsOfSize, at}
use Rattle.spec_engine.specs.Signatures.{Signature}
use Rattle.spec_protocol.specs.machine.World.{World}
use Rattle.dl_machine.specs.Ready.{IsReady}
use Rattle.dl_machine.specs.States.{world_in}
use Rattle.dl_machine.proofs.Worlds.Ready.{younger_sizes}
use Rattle.dl_machine.proofs.state.State.hits_younger.Goals as goal

pub meets-requires-clause-reads : goal.meets-requires-clause-reads
meets-requires-clause-reads g c =
    let x = c.self.inside in
    let w : World = world_in x.cores x.spheres x.flights x.devices x.counts x.points.items in
    let ready : IsReady w = subst IsReady (sym c.self.view_is) c.requires.ready in
    let y : Chunk = c.in-Some-Some.younger.now.chunk in
    let there : at w.slots c.args.k ≡ Some c.in-Some-Some.flight.now = sym c.in-Some-Some.ensures in
    let size = younger_sizes w c.args.core c.args.k (at w.cores c.args.core) y ready refl (sym c.in-Some-Some.ensures') in
    subst (λ (o : Option Flight). IsOfSize y.reads.bits o) there size.0 ∙ sym (ap (λ (s : Signature). s.bits) c.reads.ensures)

pub meets-requires-clause-writes : goal.meets-requires-clause-writes
meets-requires-clause-writes g c =
    let x = c.self.inside in
    let w : World = world_in x.cores x.spheres x.flights x.devices x.counts x.points.items in
    let ready : IsReady w = subst IsReady (sym c.self.view_is) c.requires.ready in
    let y : Chunk = c.in-Some-Some.younger.now.chunk in
    let there : at w.slots c.args.k ≡ Some c.in-Some-Some.flight.now = sym c.in-Some-Some.ensures in
    let size = younger_sizes w c.args.core c.args.k (at w.cores c.args.core) y ready refl (sym c.in-Some-Some.ensures') in
    subst (λ (o : Option Flight). IsOfSize y.writes.bits o) there size.1 ∙ sym (ap (λ (s : Signature). s.bits) c.writes.ensures)
