use Rattle.std.proofs.Common.{◌≡◌, ◌||◌}
use Rattle.dl_sig.proofs.Merged.{merged_to}
use Rattle.dl_sig.proofs.flags.Flags.join.Given as goal

abbrev pub invariant-loop-i : goal.invariant-loop-i
invariant-loop-i l = l.self-inside.flags.items ≡ merged_to ◌||◌ l.i l.initial.self-inside.flags.items l.other-inside.flags.items
