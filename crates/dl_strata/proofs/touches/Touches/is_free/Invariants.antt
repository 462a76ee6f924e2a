use Rattle.std.proofs.Common.{◌≡◌, ℕ, ◌<◌, false, length, get_or}
use Rattle.spec_strata.specs.Touches.{bars_look, bars_store}
use Rattle.dl_strata.specs.Tables.{touch_of}
use Rattle.dl_strata.proofs.touches.Touches.is_free.Given as goal

abbrev pub invariant-loop-number : goal.invariant-loop-number
invariant-loop-number l =
    (i : ℕ) → i < l.number-index → bars_look (touch_of l.self.touches (get_or l.footprint.looked.items i 0)) l.thread ≡ false

abbrev pub invariant-loop-number-2 : goal.invariant-loop-number-2
invariant-loop-number-2 l =
    ((i : ℕ) → i < length l.footprint.looked.items → bars_look (touch_of l.self.touches (get_or l.footprint.looked.items i 0)) l.thread ≡ false)
    × ((i : ℕ) → i < l.number-index → bars_store (touch_of l.self.touches (get_or l.footprint.stored.items i 0)) l.thread ≡ false)
