use Rattle.std.proofs.Common.{◌∙◌, ap}
use Rattle.dl_run.specs.Ran.{Ran}
use Rattle.dl_run.proofs.Over.{console-is}
use Rattle.dl_run.proofs.run.Run.console.Goals as goal

pub returns : goal.returns
returns c es over =
    c.in_ok-from_slice.ensures.items
    ∙ c.console.ensures.value
    ∙ ap (λ (r : Ran). r.world.devices.console) c.self.view_is
    ∙ console-is es c.args.self.now over
