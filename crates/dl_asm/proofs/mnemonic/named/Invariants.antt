use Rattle.std.proofs.Common.{◌≡◌, drop}
use Rattle.dl_asm.specs.Mnemonics.{entries, named}
use Rattle.dl_asm.proofs.mnemonic.named.Given as goal

-- the entries from here on give what all do
abbrev pub invariant-loop-other : goal.invariant-loop-other
invariant-loop-other g l = named l.name (entries (drop l.other-index l.table)) ≡ named l.name (entries l.table)
