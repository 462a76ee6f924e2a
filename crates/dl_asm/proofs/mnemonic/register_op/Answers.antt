use Rattle.std.proofs.Common.{◌∙◌}
use Rattle.spec_isa.specs.Denoted.{registers}
use Rattle.dl_asm.specs.Mnemonics.{register_name}
use Rattle.dl_asm.proofs.Names.{named-find}
use Rattle.dl_asm.proofs.mnemonic.register_op.Goals as goal

pub returns : goal.returns
returns c = c.named.ensures ∙ named-find register_name c.args.name.now registers
