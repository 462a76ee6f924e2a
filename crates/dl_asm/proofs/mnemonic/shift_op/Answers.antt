use Rattle.std.proofs.Common.{◌∙◌}
use Rattle.spec_isa.specs.Denoted.{shifts}
use Rattle.dl_asm.specs.Mnemonics.{shift_name}
use Rattle.dl_asm.proofs.Names.{named-find}
use Rattle.dl_asm.proofs.mnemonic.shift_op.Goals as goal

pub returns : goal.returns
returns c = c.named.ensures ∙ named-find shift_name c.args.name.now shifts
