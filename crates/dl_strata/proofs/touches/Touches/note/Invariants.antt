use Rattle.std.proofs.Common.{◌≡◌, ℕ, false, length, take}
use Rattle.dl_serial.specs.Looks.{has}
use Rattle.dl_strata.specs.Tables.{touch_of, touched_by}
use Rattle.dl_strata.proofs.touches.Touches.note.Given as goal

abbrev pub invariant-loop-number : goal.invariant-loop-number
invariant-loop-number l = record {
  stratum : l.self.stratum ≡ l.fn.self.stratum;
  words : length l.self.touches ≡ length l.fn.self.touches;
  noted : (a : ℕ) → touch_of l.self.touches a ≡ touched_by (touch_of l.fn.self.touches a) l.thread (has (take l.number-index l.footprint.looked.items) a) false;
}

abbrev pub invariant-loop-number-2 : goal.invariant-loop-number-2
invariant-loop-number-2 l = record {
  stratum : l.self.stratum ≡ l.fn.self.stratum;
  words : length l.self.touches ≡ length l.fn.self.touches;
  noted : (a : ℕ) → touch_of l.self.touches a
      ≡ touched_by (touch_of l.fn.self.touches a) l.thread (has l.footprint.looked.items a) (has (take l.number-index l.footprint.stored.items) a);
}
