use Rattle.std.proofs.Common.{rules, subst}
use Rattle.spec_isa.specs.Words.{IsBytes}
use Rattle.dl_sphere.proofs.making.bytes_of.Goals as goal

pub returns : goal.returns
returns c = subst IsBytes c.bytes-bytes.ensures.value (record { each = λ i. search rules })
