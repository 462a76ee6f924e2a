-- Why a command stops before its end, and what that shows. The files were seen as `old` before, and as `new` after it.
use Rattle.std.specs.Prelude.{◌≡◌, ◌≢◌, ◌↔◌, ◌⊎◌, ℕ, List, Contains, Option, Some, None, Result, Err}
use Rattle.dl_files.specs.Contents.{Contents}
use Rattle.dl_files.specs.declared.FileError.{FileError}
use Rattle.dl_files.specs.Seen.{Seen, IsKept, IsUnread}
use Rattle.dl_words.specs.Commands.{CommandValues}
use Rattle.spec_program.specs.declared.status.Refusal.{Refusal}
use Rattle.spec_program.specs.Ends.{IsReadNext}
use Rattle.spec_program.specs.Lines.{usage_line, absent_line, fault_line}
use Rattle.spec_program.specs.Stages.{Refused}
use Rattle.dl_gather.specs.declared.halt.Halt.{Halt}
use Rattle.dl_gather.specs.Forms.{IsLineOf}
use Rattle.dl_gather.specs.Names.{IsNamed}

-- a file of that name is absent or failed, and so it is said; memory may run out over the line
abbrev pub HaltsAt : (name : List ℕ) → FileError → Halt → Type 0
HaltsAt name error (Halt.Refused why text) = (error ≡ FileError.Absent) × (why ≡ Refusal.Absent) × (text.items ≡ absent_line name)
HaltsAt name error (Halt.Fault text) = (error ≡ FileError.Failed) × (text.items ≡ fault_line name)
HaltsAt name error Halt.OutOfMemory = Unit {0}

-- ---- where a file stops it

-- the read of that name failed, which is one of those to be read, when it was its turn
pub record IsFault (reads : Contents → List (List ℕ)) (name : List ℕ) (old new : Seen) : Type 0 where
  pub unread : IsUnread name old new
  pub named : IsNamed old.known reads name
  pub next : (m : Contents) → old.known ≡ Some m → IsReadNext (reads m) m name

-- memory ran out, and no file failed, or it ran out over the line on one that did
abbrev pub IsStarved : (reads : Contents → List (List ℕ)) → (old new : Seen) → Type 0
IsStarved reads old new = (new ≡ old) ⊎ ((name : List ℕ) × IsFault reads name old new)

-- there is no such part since that name is known to be absent, or else its read failed
pub record IsMissing {A : Type 0} (part : Contents → Result A (List ℕ)) (name : List ℕ) (old new : Seen) : Type 0 where
  pub known : (m : Contents) → old.known ≡ Some m → (part m ≡ Err name) × (new ≡ old)
  pub unknown : old.known ≡ None → IsUnread name old new

-- of files that are read in the order of these names, one could not be read, and so there is no such part: it is absent, the
-- first that is, or failed
abbrev pub Unread : {A : Type 0} → (names : List (List ℕ)) → (part : Contents → Result A (List ℕ)) → (old new : Seen) → Halt → Type 0
Unread names part old new (Halt.Refused why text) =
    (why ≡ Refusal.Absent) × (name : List ℕ) × (text.items ≡ absent_line name) × Contains names name × IsMissing part name old new
Unread names part old new (Halt.Fault text) = (name : List ℕ) × (text.items ≡ fault_line name) × IsFault (λ _. names) name old new
Unread names part old new Halt.OutOfMemory = IsStarved (λ _. names) old new

-- ---- where a stage stops it

-- a name is said to be absent that is one of those to be read; where no contents are known, its read failed
pub record IsAbsentSaid (reads : Contents → List (List ℕ)) (line : List ℕ) (old new : Seen) : Type 0 where
  pub name : List ℕ
  pub line_is : line ≡ absent_line name
  pub named : IsNamed old.known reads name
  pub unread : old.known ≡ None → IsUnread name old new

-- there is no such stage over the contents, for what is refused
pub record IsRefusal
    {A : Type 0} (stage : Contents → Result A Refused) (reads : Contents → List (List ℕ)) (why : Refusal) (line : List ℕ) (old new : Seen)
    : Type 0 where
  pub known : (m : Contents) → old.known ≡ Some m → (stage m ≡ Err (record { why = why; line = line })) × (new ≡ old)
  pub absent : why ≡ Refusal.Absent → IsAbsentSaid reads line old new
  pub other : why ≢ Refusal.Absent → new ≡ old
  pub kept : IsKept old new
  pub form : IsLineOf why line

-- a stage is refused, or one of the files that it reads failed
abbrev pub Halts : {A : Type 0} → (stage : Contents → Result A Refused) → (reads : Contents → List (List ℕ)) → (old new : Seen) → Halt → Type 0
Halts stage reads old new (Halt.Refused why text) = IsRefusal stage reads why text.items old new
Halts stage reads old new (Halt.Fault text) = (name : List ℕ) × (text.items ≡ fault_line name) × IsFault reads name old new
Halts stage reads old new Halt.OutOfMemory = IsStarved reads old new

-- no file is read, and what is refused is neither the words nor a file that is absent
abbrev pub Refuses : {A : Type 0} → (stage : Result A Refused) → Halt → Type 0
Refuses stage (Halt.Refused why text) =
    (stage ≡ Err (record { why = why; line = text.items })) × (why ≢ Refusal.Absent) × (why ≢ Refusal.Usage) × IsLineOf why text.items
Refuses stage (Halt.Fault text) = ⊥
Refuses stage Halt.OutOfMemory = Unit {0}

-- ---- usage

-- words that mean no command, and no others, are refused as usage, with its line; memory may run out before that
abbrev pub IsUsage : (command : Option CommandValues) → Halt → Type 0
IsUsage command (Halt.Refused why text) = ((why ≡ Refusal.Usage) ↔ (command ≡ None)) × (why ≡ Refusal.Usage → text.items ≡ usage_line)
IsUsage command (Halt.Fault text) = command ≢ None
IsUsage command Halt.OutOfMemory = Unit {0}

-- the words mean a command
abbrev pub IsNotUsage : Halt → Type 0
IsNotUsage (Halt.Refused why text) = why ≢ Refusal.Usage
IsNotUsage (Halt.Fault text) = Unit {0}
IsNotUsage Halt.OutOfMemory = Unit {0}
