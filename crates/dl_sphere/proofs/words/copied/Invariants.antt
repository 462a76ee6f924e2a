use Rattle.std.proofs.Common.{◌≡◌, ◌≤◌, length}
use Rattle.std.specs.Prelude.{take}
use Rattle.dl_sphere.proofs.words.copied.Given as goal

abbrev pub invariant-loop-i : goal.invariant-loop-i
invariant-loop-i l =
    record { words : l.copy.words ≡ take l.i l.words.words; room : length l.words.words ≤ l.copy.capacity }
