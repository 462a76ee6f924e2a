use Rattle.std.proofs.Common.{◌≡◌, ◌≤◌, ℕ, length, take}
use Rattle.spec_isa.specs.Words.{holds}
use Rattle.dl_serial.specs.Looks.{has}
use Rattle.dl_serial.proofs.player.note_words.Given as goal

abbrev pub invariant-loop-i : goal.invariant-loop-i
invariant-loop-i l = (a : ℕ) → has l.numbers.items a ≡ holds (take l.i l.words.words) a
