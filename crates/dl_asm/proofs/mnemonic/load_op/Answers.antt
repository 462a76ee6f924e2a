use Rattle.std.proofs.Common.{◌∙◌}
use Rattle.spec_isa.specs.Denoted.{loads}
use Rattle.dl_asm.specs.Mnemonics.{load_name}
use Rattle.dl_asm.proofs.Names.{named-find}
use Rattle.dl_asm.proofs.mnemonic.load_op.Goals as goal

pub returns : goal.returns
returns c = c.named.ensures ∙ named-find load_name c.args.name.now loads
