-- How the program may end, by its status, from what it was to do: what the files then hold, and what the sink took.
use Rattle.std.specs.Prelude.{◌≡◌, ℕ, ◌≤◌, ◌⊎◌, Bool, true, false, List, [], ◌∷◌, length, take, slice_get, Option, Some, None, IsSome}
use Rattle.std.specs.FinMap.{get, insert}
use Rattle.dl_files.specs.Contents.{Contents, SameBut, IsLast}
use Rattle.dl_files.specs.Count.{Rose}
use Rattle.dl_files.specs.Taken.{with_taken}
use Rattle.spec_program.specs.declared.status.Status.{Status}
use Rattle.spec_program.specs.Lines.{fault_line}
use Rattle.spec_program.specs.Writes.{Write, written}
use Rattle.spec_program.specs.Outcomes.{Outcome, DoesFinish, status_in, text_in, writes_in}
use Rattle.spec_program.specs.Outside.{Outside}

-- ---- the names that are read

-- it is the turn of that name to be read: it is there, and so is each name before it
abbrev pub IsReadNext : (reads : List (List ℕ)) → Contents → (name : List ℕ) → Type 0
IsReadNext [] m name = ⊥
IsReadNext (read ∷ reads) m name = IsSome (get m read) × ((read ≡ name) ⊎ IsReadNext reads m name)

-- ---- what the sink took

-- the first bytes of the text
abbrev pub Took : (text : List ℕ) → (old new : Option (List ℕ)) → Type 0
Took text old new = (n : ℕ) × (n ≤ length text) × (new ≡ with_taken n text old)

abbrev pub TookAll : (text : List ℕ) → (old new : Option (List ℕ)) → Type 0
TookAll text old new = new ≡ with_taken (length text) text old

-- ---- what the files hold

-- a write in pieces is begun: the name holds the first of its bytes
abbrev pub IsBegun : Option Write → Contents → (known : Option Contents) → Type 0
IsBegun None m known = ⊥
IsBegun (Some w) m known = (w.in_pieces ≡ true) × (k : ℕ) × (known ≡ Some (insert m w.name (take k w.bytes)))

-- the first writes are done, each whole, the next one may be begun, and nothing else has changed
abbrev pub Partly : List Write → Contents → (known : Option Contents) → Type 0
Partly writes m known =
    (n : ℕ) × (n ≤ length writes) × ((known ≡ Some (written (take n writes) m)) ⊎ IsBegun (slice_get writes n) (written (take n writes) m) known)

-- the first writes are done, each whole; the next one, to that name, failed, and nothing but that name has changed further
abbrev pub CutAt : List Write → Contents → (known : Option Contents) → (name : List ℕ) → Type 0
CutAt writes m known name =
    (i : ℕ) × ((w : Write) × (slice_get writes i ≡ Some w) × (w.name ≡ name) × SameBut name (Some (written (take i writes) m)) known)

-- ---- the ends: o is what was to be done with the contents m, of which `reads` are read

-- what was to be done, where its status is this one, is done and said, and no file failed
pub record IsFinished (o : Outcome) (m : Contents) (before after : Outside) (s : Status) : Type 0 where
  pub status : s ≡ status_in o
  pub files : after.known ≡ Some (written (writes_in o) m)
  pub counted : after.faults ≡ before.faults
  pub output : TookAll (text_in o) before.taken after.taken

-- it was to be refused so, no file has changed or failed, and the sink took the first bytes of its line
pub record IsRefused (o : Outcome) (m : Contents) (before after : Outside) (s : Status) : Type 0 where
  pub status : s ≡ status_in o
  pub files : after.known ≡ Some m
  pub counted : after.faults ≡ before.faults
  pub output : Took (text_in o) before.taken after.taken

-- a file failed, by its last fault: one of those that are read, whose turn it was, before any was written, or one of those
-- that are written; the sink took the first bytes of the line on that name
pub record IsFaulted (o : Outcome) (reads : List (List ℕ)) (m : Contents) (before after : Outside) (name : List ℕ) : Type 0 where
  pub counted : Rose before.faults after.faults
  pub named : IsLast after.last name
  pub files : ((after.known ≡ Some m) × IsReadNext reads m name) ⊎ CutAt (writes_in o) m after.known name
  pub output : Took (fault_line name) before.taken after.taken

-- every file is written and none failed, and the sink took the first bytes of the text, or of the line of a refusal
pub record IsUnsaid (o : Outcome) (m : Contents) (before after : Outside) : Type 0 where
  pub files : after.known ≡ Some (written (writes_in o) m)
  pub counted : after.faults ≡ before.faults
  pub output : Took (text_in o) before.taken after.taken

-- the first files are written and none failed, and nothing was said
pub record IsUndone (o : Outcome) (m : Contents) (before after : Outside) : Type 0 where
  pub files : Partly (writes_in o) m after.known
  pub counted : after.faults ≡ before.faults
  pub output : after.taken ≡ before.taken

-- memory ran out before anything was said, while the text was, or while a fault was
abbrev pub IsShort : Outcome → (reads : List (List ℕ)) → Contents → (before after : Outside) → Type 0
IsShort o reads m before after =
    IsUndone o m before after ⊎ (IsUnsaid o m before after ⊎ ((name : List ℕ) × IsFaulted o reads m before after name))

abbrev pub Stands : Outcome → (reads : List (List ℕ)) → Contents → (before after : Outside) → Status → Type 0
Stands o reads m before after Status.Done = IsFinished o m before after Status.Done
Stands o reads m before after Status.Diverged = IsFinished o m before after Status.Diverged
Stands o reads m before after Status.Usage = IsRefused o m before after Status.Usage
Stands o reads m before after Status.Plan = IsRefused o m before after Status.Plan
Stands o reads m before after Status.Image = IsRefused o m before after Status.Image
Stands o reads m before after Status.Grammar = IsRefused o m before after Status.Grammar
Stands o reads m before after Status.Source = IsRefused o m before after Status.Source
Stands o reads m before after Status.Absent = IsRefused o m before after Status.Absent
Stands o reads m before after Status.Fault = (name : List ℕ) × IsFaulted o reads m before after name
Stands o reads m before after Status.Sink = DoesFinish o × IsUnsaid o m before after
Stands o reads m before after Status.Memory = IsShort o reads m before after

-- ---- kinds of statuses

-- what was asked for is done
abbrev pub is_done : Status → Bool
is_done Status.Done = true
is_done Status.Diverged = true
is_done Status.Usage = false
is_done Status.Plan = false
is_done Status.Image = false
is_done Status.Grammar = false
is_done Status.Source = false
is_done Status.Absent = false
is_done Status.Fault = false
is_done Status.Sink = false
is_done Status.Memory = false

-- refusals, whose line the sink takes whole where it doesn't fail
abbrev pub is_refusal : Status → Bool
is_refusal Status.Usage = true
is_refusal Status.Plan = true
is_refusal Status.Image = true
is_refusal Status.Grammar = true
is_refusal Status.Source = true
is_refusal Status.Absent = true
is_refusal Status.Done = false
is_refusal Status.Diverged = false
is_refusal Status.Fault = false
is_refusal Status.Sink = false
is_refusal Status.Memory = false

-- those that may come where a file failed, or is said to be absent by files that tell no contents
abbrev pub is_of_files : Status → Bool
is_of_files Status.Fault = true
is_of_files Status.Memory = true
is_of_files Status.Absent = true
is_of_files Status.Done = false
is_of_files Status.Diverged = false
is_of_files Status.Usage = false
is_of_files Status.Plan = false
is_of_files Status.Image = false
is_of_files Status.Grammar = false
is_of_files Status.Source = false
is_of_files Status.Sink = false

-- those that may come where the sink failed: on the text, or on the line of a refusal or of a fault
abbrev pub is_of_sink : Status → Bool
is_of_sink Status.Done = false
is_of_sink Status.Diverged = false
is_of_sink Status.Memory = false
is_of_sink Status.Usage = true
is_of_sink Status.Plan = true
is_of_sink Status.Image = true
is_of_sink Status.Grammar = true
is_of_sink Status.Source = true
is_of_sink Status.Absent = true
is_of_sink Status.Fault = true
is_of_sink Status.Sink = true
