use Rattle.std.proofs.Common.{◌∙◌}
use Rattle.spec_isa.specs.Denoted.{branches}
use Rattle.dl_asm.specs.Mnemonics.{branch_name}
use Rattle.dl_asm.proofs.Names.{named-find}
use Rattle.dl_asm.proofs.mnemonic.branch_op.Goals as goal

pub returns : goal.returns
returns c = c.named.ensures ∙ named-find branch_name c.args.name.now branches
