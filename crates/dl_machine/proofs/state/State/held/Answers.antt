use Rattle.std.proofs.Common.{◌≡◌, arith}
use Rattle.std.specs.Prelude.{option_map}
use Rattle.std.proofs.lemmas.Grind.{common_steps}
use Rattle.spec_engine.specs.Flights.{at}
use Rattle.dl_machine.specs.Cores.{seen}
use Rattle.dl_machine.proofs.Worlds.Ready.{held_is_of}
use Rattle.dl_machine.proofs.state.State.held.Goals as goal

pub returns-clause-good : goal.returns-clause-good
returns-clause-good g c =
    let is : c.held.result ≡ option_map seen (at c.args.self.now.cores c.args.core) = grind (arith, common_steps) in
    held_is_of _ _ _ c.requires.ready is
