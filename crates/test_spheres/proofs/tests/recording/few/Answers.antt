use Rattle.std.proofs.Common.{◌<◌, arith}
use Rattle.std.proofs.lemmas.List.Elements.{All-from_get_or}
use Rattle.test_spheres.proofs.tests.recording.few.Goals as goal

pub returns : goal.returns
returns g c =
    (omega arith, All-from_get_or (λ byte. byte < 256) c.args.bytes.now 0 (λ i h. (c.type_inv.bytes i).fits))
