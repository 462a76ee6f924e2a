use Rattle.std.proofs.Common.{◌≡◌, ◌≤◌, max, false, Some, refl, sym, ap, ◌∙◌, subst, arith}
use Rattle.std.specs.Prelude.{option_map}
use Rattle.spec_engine.specs.Flights.{at}
use Rattle.spec_sphere.specs.sphere.Spheres.{is_stopped}
use Rattle.spec_protocol.specs.machine.Stepping.{reply_of_step, stepping}
use Rattle.spec_protocol.specs.machine.World.{World, sphere_at}
use Rattle.dl_sphere.specs.Setups.{standard_in}
use Rattle.dl_sphere.specs.SizedSpheres.{SizedSphere}
use Rattle.dl_machine.specs.Cores.{seen}
use Rattle.dl_machine.specs.Ready.{HasRoom, IsReady}
use Rattle.dl_machine.specs.Requests.{Runs}
use Rattle.dl_machine.specs.States.{left, world_in}
use Rattle.dl_machine.proofs.Steps.{HasLimit, can_step_held, named, reply_done, step_of_pair, stepped_pair, world_done}
use Rattle.dl_machine.proofs.state.State.step_chunk.Goals as goal

pub step-stepped-requires-clause-runs : goal.step-stepped-requires-clause-runs
step-stepped-requires-clause-runs g c =
    let x = c.self.inside in
    let w : World = world_in x.cores x.spheres x.flights x.devices x.counts x.points.items in
    let view : w ≡ c.args.self.now = c.self.view_is in
    let core = c.args.core in
    let held : option_map seen (at w.cores core) ≡ Some c.args.held = subst (λ (u : World). option_map seen (at u.cores core) ≡ Some c.args.held) (sym view) c.requires.held in
    let going : is_stopped (sphere_at w c.args.held.sphere).role ≡ false = subst (λ (u : World). is_stopped (sphere_at u c.args.held.sphere).role ≡ false) (sym view) c.requires.going in
    let runs : Runs w core c.args.held = subst (λ (u : World). Runs u core c.args.held) (sym view) c.requires.runs in
    let ready : IsReady w = subst IsReady (sym view) c.requires.ready in
    let room : HasRoom w = subst HasRoom (sym view) c.requires.room in
    let limit = c.younger_limit-limit.result in
    let within : limit ≤ max 1 (standard_in w.numbers.s (sphere_at w c.args.held.sphere).role) =
    subst (λ (u : World). limit ≤ max 1 (standard_in u.numbers.s (sphere_at u c.args.held.sphere).role)) (sym view) c.younger_limit-limit.ensures.most
    in
    let below : limit ≤ x.cores.most = omega (arith, within, c.get.ensures.most, c.self.invariant.most) in
    can_step_held x.cores.most w core (at w.cores core) c.args.held c.younger_limit-limit.result ready room refl held going runs c.younger_limit-limit.ensures.least below

pub returns-clause-reply : goal.returns-clause-reply
returns-clause-reply g c =
    let x = c.self.inside in
    let w : World = world_in x.cores x.spheres x.flights x.devices x.counts x.points.items in
    let view : w ≡ c.args.self.now = c.self.view_is in
    let core = c.args.core in
    let held : option_map seen (at w.cores core) ≡ Some c.args.held = subst (λ (u : World). option_map seen (at u.cores core) ≡ Some c.args.held) (sym view) c.requires.held in
    let going : is_stopped (sphere_at w c.args.held.sphere).role ≡ false = subst (λ (u : World). is_stopped (sphere_at u c.args.held.sphere).role ≡ false) (sym view) c.requires.going in
    let runs : Runs w core c.args.held = subst (λ (u : World). Runs u core c.args.held) (sym view) c.requires.runs in
    let ready : IsReady w = subst IsReady (sym view) c.requires.ready in
    let limit = c.younger_limit-limit.result in
    let has : HasLimit w c.args.held limit = subst (λ (u : World). HasLimit u c.args.held limit) (sym view) c.younger_limit-limit.ensures.value in
    let m = c.memory-memory.result.now in
    let memory : m ≡ (sphere_at w c.args.held.sphere).memory = c.memory-memory.ensures ∙ ap (λ (p : SizedSphere). p.sphere.memory) c.get.ensures.sphere in
    let after = step_of_pair x.cores.most w core (at w.cores core) c.args.held limit m ready refl held going runs has memory in
    let reply = named reply_of_step (λ h. (stepped_pair x.cores.most w core limit m h).reply) (at w.cores core) c.step-stepped.result c.step-stepped.ensures.reply in
    c.reply_of_step.ensures
    ∙ reply_done w core (λ h. reply_of_step (stepped_pair x.cores.most w core limit m h).reply) (λ h. (stepped_pair x.cores.most w core limit m h).pair) (at w.cores core) _ _ reply after
    ∙ ap (λ (u : World). (stepping u core).reply) view

pub returns-clause-world : goal.returns-clause-world
returns-clause-world g c =
    let x = c.self.inside in
    let w : World = world_in x.cores x.spheres x.flights x.devices x.counts x.points.items in
    let view : w ≡ c.args.self.now = c.self.view_is in
    let core = c.args.core in
    let held : option_map seen (at w.cores core) ≡ Some c.args.held = subst (λ (u : World). option_map seen (at u.cores core) ≡ Some c.args.held) (sym view) c.requires.held in
    let going : is_stopped (sphere_at w c.args.held.sphere).role ≡ false = subst (λ (u : World). is_stopped (sphere_at u c.args.held.sphere).role ≡ false) (sym view) c.requires.going in
    let runs : Runs w core c.args.held = subst (λ (u : World). Runs u core c.args.held) (sym view) c.requires.runs in
    let ready : IsReady w = subst IsReady (sym view) c.requires.ready in
    let limit = c.younger_limit-limit.result in
    let has : HasLimit w c.args.held limit = subst (λ (u : World). HasLimit u c.args.held limit) (sym view) c.younger_limit-limit.ensures.value in
    let m = c.memory-memory.result.now in
    let memory : m ≡ (sphere_at w c.args.held.sphere).memory = c.memory-memory.ensures ∙ ap (λ (p : SizedSphere). p.sphere.memory) c.get.ensures.sphere in
    let after = step_of_pair x.cores.most w core (at w.cores core) c.args.held limit m ready refl held going runs has memory in
    world_done x.cores x.spheres x.flights x.devices x.counts x.points.items core (λ h. reply_of_step (stepped_pair x.cores.most w core limit m h).reply) (λ h. (stepped_pair x.cores.most w core limit m h).pair) (at w.cores core) c.step-stepped.new.self _ c.step-stepped.ensures.core after
    ∙ ap (λ (u : World). left (stepping u core)) view
