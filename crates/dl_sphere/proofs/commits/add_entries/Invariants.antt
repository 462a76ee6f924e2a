use Rattle.std.proofs.Common.{◌≡◌, ◌+◌, ◌-◌, ◌≤◌, ◌++◌, length, map, take, vec_len, vec_capacity}
use Rattle.spec_play.specs.Effects.{entry_of}
use Rattle.dl_sphere.proofs.commits.add_entries.Given as goal

-- those so far are added, and there is room for the others
abbrev pub invariant-loop-load : goal.invariant-loop-load
invariant-loop-load l =
    (l.entries.items ≡ l.initial.entries.items ++ map entry_of (take l.load-index l.loads))
    × (vec_len l.entries + (length l.loads - l.load-index) ≤ vec_capacity l.entries)
