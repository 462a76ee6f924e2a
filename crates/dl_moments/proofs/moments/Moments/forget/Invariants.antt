use Rattle.std.proofs.Common.{◌≡◌, ◌<◌, ◌≤◌, true, [], length, map, get_or, slice_index}
use Rattle.dl_entry.specs.Numbers.{most_threads}
use Rattle.dl_moments.specs.Marks.{marks_from}
use Rattle.dl_moments.specs.Views.{HaveNone}
use Rattle.dl_moments.proofs.Lanes.{marks_of, Roomy, AreCut}
use Rattle.dl_moments.proofs.moments.Moments.forget.Given as goal

abbrev pub invariant-loop-thread : goal.invariant-loop-thread
invariant-loop-thread g l =
    let lanes = l.self-inside.lanes.items in
    let used = l.self-inside.used in
    let spare = l.self-inside.spare in
    (length lanes ≡ most_threads) × (used ≤ most_threads)
    × AreCut l.starts l.thread l.fn.self.lanes (map marks_of lanes)
    × HaveNone used (map marks_of lanes) × (spare.marks ≡ [])
    × (l.fn.self.room ≡ true → Roomy lanes used × (spare.room ≡ true))
