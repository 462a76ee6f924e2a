use Rattle.std.proofs.Common.{◌<◌, length, arith}
use Rattle.std.proofs.lemmas.Grind.{common_steps}
use Rattle.dl_machine.proofs.Rows.Spheres.{most_at}
use Rattle.dl_machine.proofs.spheres.Spheres.get.Goals as goal

pub returns-clause-most : goal.returns-clause-most
returns-clause-most c =
    let within : c.args.i < length c.self.inside.row.items = grind (arith, common_steps) in
    most_at _ _ _ _ _ _ c.self.invariant c.self.view_is within c.index.ensures
