use Rattle.std.proofs.Common.{◌∙◌}
use Rattle.spec_isa.specs.Denoted.{immediates}
use Rattle.dl_asm.specs.Mnemonics.{immediate_name}
use Rattle.dl_asm.proofs.Names.{named-find}
use Rattle.dl_asm.proofs.mnemonic.immediate_op.Goals as goal

pub returns : goal.returns
returns c = c.named.ensures ∙ named-find immediate_name c.args.name.now immediates
