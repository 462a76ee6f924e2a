-- Of the calls of files that a command makes at most one fails, and none that changes a file comes after it.
use Rattle.std.proofs.Common.{◌≡◌, ◌≤◌, ℕ, List, inl, inr, subst, arith}
use Rattle.dl_files.specs.Count.{next}
use Rattle.dl_files.specs.Seen.{Seen, IsUnread, IsUnwritten, FailsOnce}

-- no call failed
pub none_failed : (old new : Seen) → new.faults ≡ old.faults → FailsOnce old new
none_failed old new same = record { once = omega (arith, same); last = λ failed. absurd (failed same) }

-- a read failed, and no file has changed
pub read_failed : (name : List ℕ) (old new : Seen) → IsUnread name old new → FailsOnce old new
read_failed name old new unread = record { once = unread.once; last = λ failed. inl unread.kept }

-- after writes that did not fail, one did
pub write_failed : (name : List ℕ) (old mid new : Seen) → mid.faults ≡ old.faults → IsUnwritten name mid new → FailsOnce old new
write_failed name old mid new same unwritten =
    record { once = subst (λ (n : ℕ). new.faults ≤ next n) same unwritten.once; last = λ failed. inr unwritten.unwritten }
