use Rattle.std.proofs.Common.{◌≡◌, ◌++◌, take, flat_map}
use Rattle.dl_inspect.proofs.entry.put_entries.Given as goal

abbrev pub invariant-loop-entry : goal.invariant-loop-entry
invariant-loop-entry g l =
    l.text ≡ l.initial.text ++ flat_map g.E.Entry.shown (take l.entry-index l.entries)
