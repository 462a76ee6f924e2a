use Rattle.std.proofs.Common.{◌≡◌, sym, ap, subst, arith}
use Rattle.spec_protocol.specs.machine.World.{World}
use Rattle.dl_machine.specs.Ready.{HasRoom}
use Rattle.dl_machine.proofs.Worlds.Promised.{room_alike, run_ready}
use Rattle.dl_machine.proofs.Worlds.Applied.{IsPrepared, IsTaken, due_or, still_led, taken_alike, taken_begun, taken_led, taken_partly}
use Rattle.dl_machine.proofs.Worlds.Applied.{taken_refused, taken_refused_alike, taken_refused_run, taken_reply, taken_run, taken_still}
use Rattle.dl_machine.proofs.Worlds.Applied.{taken_wanted, taken_world}
use Rattle.dl_machine.proofs.machine.Machine.apply.Goals as goal

pub take-requires-clause-ready : goal.take-requires-clause-ready
take-requires-clause-ready g c = run_ready _ (still_led _ _ c.in_ok-prepare.ensures.run c.self.invariant)

pub take-requires-clause-room : goal.take-requires-clause-room
take-requires-clause-room g c = room_alike _ _ c.in_ok-prepare.ensures.alike (subst HasRoom (sym c.self.view_is) c.requires.commits)

pub take-requires-clause-events : goal.take-requires-clause-events
take-requires-clause-events g c =
    let few = c.requires.events in
    let view : c.self.inside.state.counts.events ≡ c.args.self.now.counts.events = ap (λ (w : World). w.counts.events) c.self.view_is in
    let prepared : c.prepare.new.self.counts.events ≡ c.self.inside.state.counts.events = ap (λ (w : World). w.counts.events) c.in_ok-prepare.ensures.alike in
    omega (arith, few, view, prepared)

pub returns-clause-done : goal.returns-clause-done
returns-clause-done g c =
    let e = c.in_ok-prepare.ensures in
    let t = c.take.ensures in
    let now = c.args.self.now in
    let prepared : IsPrepared c.args.event now c.prepare.new.self = subst (λ (w : World). IsPrepared c.args.event w c.prepare.new.self) c.self.view_is (record { begun = e.begun; all = e.all; still = e.still; alike = e.alike; run = e.run; same = e.same }) in
    let taken : IsTaken c.args.event c.take.result c.prepare.new.self c.take.new.self = record { reply = t.reply; world = t.world; err = t.err; wanted = t.wanted } in
    taken_reply c.args.event now c.prepare.new.self c.take.new.self c.take.result prepared taken

pub returns-clause-world : goal.returns-clause-world
returns-clause-world g c =
    let e = c.in_ok-prepare.ensures in
    let t = c.take.ensures in
    let now = c.args.self.now in
    let prepared : IsPrepared c.args.event now c.prepare.new.self = subst (λ (w : World). IsPrepared c.args.event w c.prepare.new.self) c.self.view_is (record { begun = e.begun; all = e.all; still = e.still; alike = e.alike; run = e.run; same = e.same }) in
    let taken : IsTaken c.args.event c.take.result c.prepare.new.self c.take.new.self = record { reply = t.reply; world = t.world; err = t.err; wanted = t.wanted } in
    taken_world c.args.event now c.prepare.new.self c.take.new.self c.take.result prepared taken

pub returns-clause-still : goal.returns-clause-still
returns-clause-still g c =
    let e = c.in_ok-prepare.ensures in
    let t = c.take.ensures in
    let now = c.args.self.now in
    let prepared : IsPrepared c.args.event now c.prepare.new.self = subst (λ (w : World). IsPrepared c.args.event w c.prepare.new.self) c.self.view_is (record { begun = e.begun; all = e.all; still = e.still; alike = e.alike; run = e.run; same = e.same }) in
    let taken : IsTaken c.args.event c.take.result c.prepare.new.self c.take.new.self = record { reply = t.reply; world = t.world; err = t.err; wanted = t.wanted } in
    taken_still c.args.event now c.prepare.new.self c.take.new.self c.take.result prepared taken

pub returns-clause-begun : goal.returns-clause-begun
returns-clause-begun g c =
    let e = c.in_ok-prepare.ensures in
    let t = c.take.ensures in
    let now = c.args.self.now in
    let prepared : IsPrepared c.args.event now c.prepare.new.self = subst (λ (w : World). IsPrepared c.args.event w c.prepare.new.self) c.self.view_is (record { begun = e.begun; all = e.all; still = e.still; alike = e.alike; run = e.run; same = e.same }) in
    let taken : IsTaken c.args.event c.take.result c.prepare.new.self c.take.new.self = record { reply = t.reply; world = t.world; err = t.err; wanted = t.wanted } in
    taken_begun c.args.event now c.prepare.new.self c.take.new.self c.take.result prepared taken

pub returns-clause-alike : goal.returns-clause-alike
returns-clause-alike g c =
    let e = c.in_ok-prepare.ensures in
    let t = c.take.ensures in
    let now = c.args.self.now in
    let prepared : IsPrepared c.args.event now c.prepare.new.self = subst (λ (w : World). IsPrepared c.args.event w c.prepare.new.self) c.self.view_is (record { begun = e.begun; all = e.all; still = e.still; alike = e.alike; run = e.run; same = e.same }) in
    let taken : IsTaken c.args.event c.take.result c.prepare.new.self c.take.new.self = record { reply = t.reply; world = t.world; err = t.err; wanted = t.wanted } in
    taken_alike c.args.event now c.prepare.new.self c.take.new.self c.take.result prepared taken

pub returns-clause-run : goal.returns-clause-run
returns-clause-run g c =
    let e = c.in_ok-prepare.ensures in
    let t = c.take.ensures in
    let now = c.args.self.now in
    let prepared : IsPrepared c.args.event now c.prepare.new.self = subst (λ (w : World). IsPrepared c.args.event w c.prepare.new.self) c.self.view_is (record { begun = e.begun; all = e.all; still = e.still; alike = e.alike; run = e.run; same = e.same }) in
    let taken : IsTaken c.args.event c.take.result c.prepare.new.self c.take.new.self = record { reply = t.reply; world = t.world; err = t.err; wanted = t.wanted } in
    taken_run c.args.event now c.prepare.new.self c.take.new.self c.take.result prepared taken

pub returns-clause-refused : goal.returns-clause-refused
returns-clause-refused g c =
    let e = c.in_ok-prepare.ensures in
    let t = c.take.ensures in
    let now = c.args.self.now in
    let prepared : IsPrepared c.args.event now c.prepare.new.self = subst (λ (w : World). IsPrepared c.args.event w c.prepare.new.self) c.self.view_is (record { begun = e.begun; all = e.all; still = e.still; alike = e.alike; run = e.run; same = e.same }) in
    let taken : IsTaken c.args.event c.take.result c.prepare.new.self c.take.new.self = record { reply = t.reply; world = t.world; err = t.err; wanted = t.wanted } in
    taken_refused c.args.event now c.prepare.new.self c.take.new.self c.take.result prepared taken

pub returns-clause-refused_partly : goal.returns-clause-refused_partly
returns-clause-refused_partly g c =
    let e = c.in_ok-prepare.ensures in
    let t = c.take.ensures in
    let now = c.args.self.now in
    let prepared : IsPrepared c.args.event now c.prepare.new.self = subst (λ (w : World). IsPrepared c.args.event w c.prepare.new.self) c.self.view_is (record { begun = e.begun; all = e.all; still = e.still; alike = e.alike; run = e.run; same = e.same }) in
    let taken : IsTaken c.args.event c.take.result c.prepare.new.self c.take.new.self = record { reply = t.reply; world = t.world; err = t.err; wanted = t.wanted } in
    taken_partly c.args.event now c.prepare.new.self c.take.new.self c.take.result prepared taken

pub returns-clause-refused_alike : goal.returns-clause-refused_alike
returns-clause-refused_alike g c =
    let e = c.in_ok-prepare.ensures in
    let t = c.take.ensures in
    let now = c.args.self.now in
    let prepared : IsPrepared c.args.event now c.prepare.new.self = subst (λ (w : World). IsPrepared c.args.event w c.prepare.new.self) c.self.view_is (record { begun = e.begun; all = e.all; still = e.still; alike = e.alike; run = e.run; same = e.same }) in
    let taken : IsTaken c.args.event c.take.result c.prepare.new.self c.take.new.self = record { reply = t.reply; world = t.world; err = t.err; wanted = t.wanted } in
    taken_refused_alike c.args.event now c.prepare.new.self c.take.new.self c.take.result prepared taken

pub returns-clause-refused_run : goal.returns-clause-refused_run
returns-clause-refused_run g c =
    let e = c.in_ok-prepare.ensures in
    let t = c.take.ensures in
    let now = c.args.self.now in
    let prepared : IsPrepared c.args.event now c.prepare.new.self = subst (λ (w : World). IsPrepared c.args.event w c.prepare.new.self) c.self.view_is (record { begun = e.begun; all = e.all; still = e.still; alike = e.alike; run = e.run; same = e.same }) in
    let taken : IsTaken c.args.event c.take.result c.prepare.new.self c.take.new.self = record { reply = t.reply; world = t.world; err = t.err; wanted = t.wanted } in
    taken_refused_run c.args.event now c.prepare.new.self c.take.new.self c.take.result prepared taken

pub returns-clause-wanted : goal.returns-clause-wanted
returns-clause-wanted g c =
    let e = c.in_ok-prepare.ensures in
    let t = c.take.ensures in
    let now = c.args.self.now in
    let prepared : IsPrepared c.args.event now c.prepare.new.self = subst (λ (w : World). IsPrepared c.args.event w c.prepare.new.self) c.self.view_is (record { begun = e.begun; all = e.all; still = e.still; alike = e.alike; run = e.run; same = e.same }) in
    let taken : IsTaken c.args.event c.take.result c.prepare.new.self c.take.new.self = record { reply = t.reply; world = t.world; err = t.err; wanted = t.wanted } in
    taken_wanted c.args.event now c.prepare.new.self c.take.new.self c.take.result prepared taken

pub invariant_of-self-2 : goal.invariant_of-self-2
invariant_of-self-2 g c =
    let e = c.in_ok-prepare.ensures in
    let t = c.take.ensures in
    let from = c.self.inside.state in
    let prepared : IsPrepared c.args.event from c.prepare.new.self = record { begun = e.begun; all = e.all; still = e.still; alike = e.alike; run = e.run; same = e.same } in
    let taken : IsTaken c.args.event c.take.result c.prepare.new.self c.take.new.self = record { reply = t.reply; world = t.world; err = t.err; wanted = t.wanted } in
    taken_led c.args.event from c.prepare.new.self c.take.new.self c.take.result prepared taken c.self.invariant
