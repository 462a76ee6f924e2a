use Rattle.std.proofs.Common.{◌≡◌, min, length, arith, ◌∙◌}
use Rattle.std.proofs.lemmas.List.{length-take}
use Rattle.spec_kernel.specs.Devices.{pipe_at}
use Rattle.dl_kernel.proofs.answering.fitting.Goals as goal

pub returns : goal.returns
returns c =
    let held : c.pipe_first-held.result ≡ min 256 (length (pipe_at c.args.devices.now c.args.pipe)) =
    c.pipe_first-held.ensures.count ∙ length-take 256 (pipe_at c.args.devices.now c.args.pipe)
    in
    let least = c.min.ensures in omega arith
