-- The numbers of the rules.
use Rattle.std.specs.Prelude.{ℕ}
use Rattle.dl_asm.specs.declared.error.Rule.{Rule}

abbrev pub rule_number : Rule → ℕ
rule_number Rule.Syntax = 1
rule_number Rule.Mnemonic = 2
rule_number Rule.Operands = 3
rule_number Rule.Range = 4
rule_number Rule.LabelTwice = 5
rule_number Rule.NoLabel = 6
rule_number Rule.TooLong = 7
