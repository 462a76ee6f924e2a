use Rattle.std.proofs.Common.{◌≡◌}
use Rattle.dl_mem.specs.Memories.{Renews}
use Rattle.dl_mem.proofs.pages.keep.Given as goal

abbrev pub invariant-loop-i : goal.invariant-loop-i
invariant-loop-i l = record { same : l.pages ≡ l.initial.pages; renews : Renews l.pages l.renewals.items }
