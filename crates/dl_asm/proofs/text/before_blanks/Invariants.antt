use Rattle.std.proofs.Common.{◌≡◌, ℕ, ◌+◌, ◌≤◌, List, length, take}
use Rattle.std.specs.List.{suffix_len}
use Rattle.dl_asm.specs.Characters.{is_blank}
use Rattle.dl_asm.proofs.text.before_blanks.Given as goal

-- what is from the end on is blanks
pub record IsCut (text : List ℕ) (end : ℕ) : Type 0 where
  pub within : end ≤ length text
  pub blanks : end + suffix_len is_blank text ≡ length text + suffix_len is_blank (take end text)

abbrev pub invariant-loop-end : goal.invariant-loop-end
invariant-loop-end l = IsCut l.text l.end

abbrev pub decreases-loop-end : goal.decreases-loop-end
decreases-loop-end l = l.end
