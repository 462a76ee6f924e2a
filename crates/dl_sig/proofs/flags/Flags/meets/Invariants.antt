use Rattle.std.proofs.Common.{◌≡◌, ◌<◌, ℕ, false, ◌&&◌}
use Rattle.dl_sig.specs.Banks.{has_flag}
use Rattle.dl_sig.proofs.flags.Flags.meets.Given as goal

abbrev pub invariant-loop-i : goal.invariant-loop-i
invariant-loop-i l = (j : ℕ) → j < l.i → (has_flag l.self-inside.flags.items j && has_flag l.other-inside.flags.items j) ≡ false
