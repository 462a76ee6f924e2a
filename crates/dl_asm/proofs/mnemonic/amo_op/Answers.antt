use Rattle.std.proofs.Common.{◌∙◌}
use Rattle.spec_isa.specs.Denoted.{amos}
use Rattle.dl_asm.specs.Mnemonics.{amo_name}
use Rattle.dl_asm.proofs.Names.{named-find}
use Rattle.dl_asm.proofs.mnemonic.amo_op.Goals as goal

pub returns : goal.returns
returns c = c.named.ensures ∙ named-find amo_name c.args.name.now amos
