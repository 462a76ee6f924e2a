use Rattle.std.proofs.Common.{◌≡◌, ◌<◌, ℕ, length, get_or, Some, None}
use Rattle.std.specs.List.{Contains}
use Rattle.std.specs.Vec.{vec_capacity}
use Rattle.dl_wbuf.specs.declared.entry.Entry.{Entry}
use Rattle.dl_wbuf.proofs.table.Table.clear.Given as goal

-- what is left of the table's own invariant
abbrev pub invariant-loop-slot : goal.invariant-loop-slot
invariant-loop-slot l = record {
  listed : (i : ℕ) (e : Entry) → get_or l.self-inside.slots.items i None ≡ Some e → Contains l.self-inside.taken.items i;
  inside : (i : ℕ) → Contains l.self-inside.taken.items i → i < length l.self-inside.slots.items;
  slots : length l.self-inside.slots.items ≡ length l.initial.self-inside.slots.items;
  room : vec_capacity l.self-inside.taken ≡ vec_capacity l.initial.self-inside.taken;
  shift : l.self-inside.shift ≡ l.initial.self-inside.shift;
}

abbrev pub decreases-loop-slot : goal.decreases-loop-slot
decreases-loop-slot l = length l.self-inside.taken.items
