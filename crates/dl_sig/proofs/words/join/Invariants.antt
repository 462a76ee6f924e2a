use Rattle.std.proofs.Common.{◌≡◌, ◌*◌, bit_or}
use Rattle.dl_sig.proofs.Merged.{merged_to}
use Rattle.dl_sig.proofs.words.join.Given as goal

abbrev pub invariant-loop-k : goal.invariant-loop-k
invariant-loop-k l = l.words ≡ merged_to bit_or (8 * l.k) l.fn.words l.others

abbrev pub invariant-loop-i : goal.invariant-loop-i
invariant-loop-i l = l.words ≡ merged_to bit_or l.i l.fn.words l.others
