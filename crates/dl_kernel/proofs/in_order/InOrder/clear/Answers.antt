use Rattle.std.proofs.Common.{◌∙◌, arith}
use Rattle.std.proofs.lemmas.List.{drop_all}
use Rattle.dl_kernel.specs.InOrder.{listed}
use Rattle.dl_kernel.proofs.in_order.InOrder.clear.Goals as goal

pub returns : goal.returns
returns c = c.drop_first.ensures ∙ drop_all c.len.result (listed c.args.self.now) (omega (arith, c.len.ensures))
