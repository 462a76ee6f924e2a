-- What is seen of files from outside, before a call and after it.
use Rattle.std.specs.Prelude.{◌≡◌, ◌≤◌, ◌⊎◌, ℕ, Bool, true, false, List, Option, None, Some, IfSome, IfNone}
use Rattle.std.specs.FinMap.{get}
use Rattle.dl_files.specs.Contents.{Contents, IsLast, IsThere, SameBut}
use Rattle.dl_files.specs.Count.{Rose, next}
use Rattle.dl_files.specs.declared.error.FileError.{FileError}
use Rattle.dl_files.specs.declared.faults.Faults.{Faults}

-- what the files hold, if they tell it; how many calls failed, and the name of the last that did, if it is told; if they
-- don't tell what they hold, how many reads failed, and how many calls may have changed a file; and whether the last call
-- that was to change a file failed
pub record Seen : Type 0 where
  pub known : Option Contents
  pub faults : ℕ
  pub last : Option (List ℕ)
  pub unread : ℕ
  pub changes : ℕ
  pub unwritten : Bool

-- files that tell what they hold, and have had that many faults, the last of them not in changing a file
abbrev pub telling : Contents → (faults : ℕ) → (last : Option (List ℕ)) → Seen
telling m faults last = record { known = Some m; faults = faults; last = last; unread = 0; changes = 0; unwritten = false }

-- which of the counts of faults is seen: files that tell what they hold leave out names that aren't there
abbrev pub faults_in : Option Contents → Faults → ℕ
faults_in None faults = faults.all
faults_in (Some _) faults = faults.failed

-- of files that tell nothing, how many calls failed, how many of those did for another reason than that a name is absent, how many
-- were reads, how many calls may have changed a file, and whether the last of these failed
pub record Counts : Type 0 where
  pub faults : ℕ
  pub failed : ℕ
  pub unread : ℕ
  pub changes : ℕ
  pub unwritten : Bool

abbrev pub untold : Counts → Seen
untold c = record { known = None; faults = c.faults; last = None; unread = c.unread; changes = c.changes; unwritten = c.unwritten }

abbrev pub uncounted : Counts
uncounted = record { faults = 0; failed = 0; unread = 0; changes = 0; unwritten = false }

-- the counts after a read of an absent name, a read that failed otherwise, a call that changed a file, and a call that was to change
-- one but failed
abbrev pub with_absent : Counts → Counts
with_absent c = record c { faults = next c.faults; unread = next c.unread }

abbrev pub with_unread : Counts → Counts
with_unread c = record c { faults = next c.faults; failed = next c.failed; unread = next c.unread }

abbrev pub with_change : Counts → Counts
with_change c = record c { changes = next c.changes; unwritten = false }

abbrev pub with_unwritten : Counts → Counts
with_unwritten c = record c { faults = next c.faults; failed = next c.failed; changes = next c.changes; unwritten = true }

-- ---- reading

-- no file has changed
pub record IsKept (old new : Seen) : Type 0 where
  pub known : new.known ≡ old.known
  pub changes : new.changes ≡ old.changes
  pub unwritten : new.unwritten ≡ old.unwritten

-- a read of that name failed, once
pub record IsUnread (name : List ℕ) (old new : Seen) : Type 0 where
  pub counted : Rose old.faults new.faults
  pub once : new.faults ≤ next old.faults
  pub named : IsLast new.last name
  pub kept : IsKept old new
  pub unread : IfNone old.known (Rose old.unread new.unread)

-- that name is absent: it is known to be missing, or if nothing is known, its read failed
pub record IsAbsent (name : List ℕ) (old new : Seen) : Type 0 where
  pub known : IfSome old.known (λ m. (get m name ≡ None) × (new ≡ old))
  pub unknown : IfNone old.known (IsUnread name old new)

-- a read of that name stopped for this reason
abbrev pub ReadStops : (name : List ℕ) → (old new : Seen) → FileError → Type 0
ReadStops name old new FileError.Failed = IsThere old.known name × IsUnread name old new
ReadStops name old new FileError.Absent = IsAbsent name old new
ReadStops name old new FileError.OutOfMemory = IsThere old.known name × (new ≡ old)

-- ---- writing

-- a call that was to change a file is counted
abbrev pub IsChange : (old new : Seen) → Type 0
IsChange old new = IfNone old.known (Rose old.changes new.changes)

-- a call has changed the files to these, if they are known
pub record IsWritten (now : Option Contents) (old new : Seen) : Type 0 where
  pub known : new.known ≡ now
  pub faults : new.faults ≡ old.faults
  pub last : new.last ≡ old.last
  pub unread : new.unread ≡ old.unread
  pub changed : IsChange old new
  pub unwritten : new.unwritten ≡ false

-- a write to that name failed, once: what it holds isn't known, and nothing else has changed
pub record IsUnwritten (name : List ℕ) (old new : Seen) : Type 0 where
  pub counted : Rose old.faults new.faults
  pub once : new.faults ≤ next old.faults
  pub named : IsLast new.last name
  pub others : SameBut name old.known new.known
  pub unread : new.unread ≡ old.unread
  pub changed : IsChange old new
  pub unwritten : new.unwritten ≡ true

-- a write to that name stopped for this reason
abbrev pub WriteStops : (name : List ℕ) → (old new : Seen) → FileError → Type 0
WriteStops name old new FileError.Failed = IsUnwritten name old new
WriteStops name old new FileError.Absent = ⊥
WriteStops name old new FileError.OutOfMemory = new ≡ old

-- ---- any number of calls

-- at most one call failed, and after it none changed a file, or was to: either no file has changed, or it was itself the last
-- that was to change one
pub record FailsOnce (old new : Seen) : Type 0 where
  pub once : new.faults ≤ next old.faults
  pub last : (new.faults ≡ old.faults → ⊥) → IsKept old new ⊎ (new.unwritten ≡ true)
