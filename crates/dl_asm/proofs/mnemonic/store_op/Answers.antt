use Rattle.std.proofs.Common.{◌∙◌}
use Rattle.spec_isa.specs.Denoted.{stores}
use Rattle.dl_asm.specs.Mnemonics.{store_name}
use Rattle.dl_asm.proofs.Names.{named-find}
use Rattle.dl_asm.proofs.mnemonic.store_op.Goals as goal

pub returns : goal.returns
returns c = c.named.ensures ∙ named-find store_name c.args.name.now stores
