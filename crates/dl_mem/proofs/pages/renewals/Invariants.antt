use Rattle.std.proofs.Common.{◌≡◌, length}
use Rattle.dl_mem.specs.Memories.{Renews}
use Rattle.dl_mem.proofs.pages.renewals.Given as goal

abbrev pub invariant-loop-i : goal.invariant-loop-i
invariant-loop-i l = record { long : length l.renewals.items ≡ l.i; renews : Renews l.pages l.renewals.items }
