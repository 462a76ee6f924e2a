use Rattle.std.proofs.Common.{◌≡◌, length, ap, arith}
use Rattle.spec_protocol.specs.machine.World.{World}
use Rattle.dl_machine.proofs.Worlds.Promised.{run_ready}
use Rattle.dl_machine.proofs.Worlds.Begun.{begun_next, begun_whole, spheres_kept, still_run}
use Rattle.dl_machine.proofs.state.State.begin_epochs.Goals as goal

pub begin_epoch-requires-clause-ready : goal.begin_epoch-requires-clause-ready
begin_epoch-requires-clause-ready g c = run_ready c.loop-i.self (still_run c.args.self.now c.loop-i.self c.loop-i.i c.requires.led c.loop-i.invariant)

pub loop-i-preserved : goal.loop-i-preserved
loop-i-preserved g c =
    let many = spheres_kept c.args.self.now c.loop-i.self c.loop-i.i c.loop-i.invariant in
    let view : length c.self.inside.spheres.spheres ≡ length c.args.self.now.spheres = ap (λ (w : World). length w.spheres) c.self.view_is in
    let end = c.len-i-end.ensures.value in
    let here = c.loop-i-test.true in
    begun_next c.args.self.now c.loop-i.self c.begin_epoch.new.self c.loop-i.i c.requires.led c.loop-i.invariant (omega (arith, many, view, end, here)) c.in_ok-begin_epoch.ensures.ok

pub returns-clause-all : goal.returns-clause-all
returns-clause-all g c =
    let many = spheres_kept c.args.self.now c.loop-i.self c.loop-i.i c.loop-i.invariant in
    let view : length c.self.inside.spheres.spheres ≡ length c.args.self.now.spheres = ap (λ (w : World). length w.spheres) c.self.view_is in
    let end = c.len-i-end.ensures.value in
    let past = c.loop-i-test.false in
    begun_whole c.args.self.now c.loop-i.self c.loop-i.i c.loop-i.invariant (omega (arith, many, view, end, past))
