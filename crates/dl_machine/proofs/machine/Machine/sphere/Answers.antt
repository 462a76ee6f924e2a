use Rattle.dl_machine.proofs.Worlds.Promised.{promised_run}
use Rattle.dl_machine.proofs.machine.Machine.sphere.Goals as goal

pub returns-clause-promised : goal.returns-clause-promised
returns-clause-promised g c = λ s es run. promised_run s c.args.number es c.args.self.now run
