use Rattle.std.proofs.Common.{[]}
use Rattle.dl_machine.specs.Setups.{setup_in}
use Rattle.dl_machine.proofs.Worlds.First.{limits_within}
use Rattle.dl_machine.proofs.Worlds.Promised.{run_first}
use Rattle.dl_machine.proofs.machine.Machine.new.Goals as goal

pub invariant_of-result : goal.invariant_of-result
invariant_of-result g c =
    let limits = limits_within c.args.setup.now c.requires c.in_ok-new.ensures.images c.in_ok-new.ensures.input in
    record { setup = setup_in c.args.setup.now; schedule = []; run = run_first (setup_in c.args.setup.now) _ limits c.in_ok-new.ensures.made }

pub returns-clause-run : goal.returns-clause-run
returns-clause-run g c =
    let limits = limits_within c.args.setup.now c.requires c.in_ok-new.ensures.images c.in_ok-new.ensures.input in
    run_first (setup_in c.args.setup.now) _ limits c.in_ok-new.ensures.made
