use Rattle.std.proofs.Common.{◌≡◌, ◌++◌, take}
use Rattle.dl_account.specs.Lines.{hex_bytes}
use Rattle.dl_account.proofs.text.Text.put_hex_bytes.Given as goal

abbrev pub invariant-loop-byte : goal.invariant-loop-byte
invariant-loop-byte l = l.self ≡ l.initial.self ++ hex_bytes (take l.byte-index l.bytes)
