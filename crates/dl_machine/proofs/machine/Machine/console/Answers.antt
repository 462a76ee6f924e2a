use Rattle.std.proofs.Common.{◌≡◌, ap, ◌∙◌, arith}
use Rattle.std.proofs.lemmas.Grind.{common_steps}
use Rattle.spec_kernel.specs.Devices.{Devices}
use Rattle.dl_machine.proofs.Worlds.Promised.{serial_run}
use Rattle.dl_machine.proofs.machine.Machine.console.Goals as goal

pub returns-clause-serial : goal.returns-clause-serial
returns-clause-serial g c =
    let same : c.console.result.now ≡ c.args.self.now.devices.console = grind (arith, common_steps) in
    λ s es run. same ∙ ap (λ (d : Devices). d.console) (serial_run s es c.args.self.now run).devices
