-- What a call of the program finds outside, and what it leaves there.
use Rattle.std.specs.Prelude.{ℕ, List, Option, Some, None}
use Rattle.dl_files.specs.Contents.{Contents}
use Rattle.dl_files.specs.Seen.{Seen, telling}

-- what the files hold, where they tell it, how many faults they counted, and the name of the last, where they tell it; of
-- files that don't tell what they hold, how many reads failed and how many calls may have changed one; what the sink took,
-- where it tells it, and how many faults it counted
pub record Outside : Type 0 where
  pub known : Option Contents
  pub faults : ℕ
  pub last : Option (List ℕ)
  pub unread : ℕ
  pub changes : ℕ
  pub taken : Option (List ℕ)
  pub sink_faults : ℕ

abbrev pub outside : (files : Seen) → (taken : Option (List ℕ)) → (sink_faults : ℕ) → Outside
outside files taken sink_faults =
    record {
      known = files.known;
      faults = files.faults;
      last = files.last;
      unread = files.unread;
      changes = files.changes;
      taken = taken;
      sink_faults = sink_faults;
    }

-- files and a sink in memory that never fail
abbrev pub in_memory : Contents → (taken : List ℕ) → Outside
in_memory files taken = outside (telling files 0 None) (Some taken) 0
