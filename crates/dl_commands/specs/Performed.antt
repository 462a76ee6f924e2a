-- How the writes and the text of a command are done.
use Rattle.std.specs.Prelude.{◌≡◌, ◌⊎◌, ℕ, Bool, List, [], slice_get, Some}
use Rattle.dl_files.specs.Contents.{Contents, IsLast}
use Rattle.dl_files.specs.Count.{Rose}
use Rattle.spec_program.specs.declared.status.Status.{Status}
use Rattle.spec_program.specs.Lines.{fault_line}
use Rattle.spec_program.specs.Outside.{Outside}
use Rattle.spec_program.specs.Writes.{Write, written}
use Rattle.spec_program.specs.Ends.{Partly, CutAt}
use Rattle.dl_commands.specs.Ended.{Said, SaidLine}

-- every file is written, and the text is said; with none no file is changed
pub record IsWritten (diverged : Bool) (writes : List Write) (text : List ℕ) (old new : Outside) (s : Status) : Type 0 where
  pub files : (m : Contents) → old.known ≡ Some m → new.known ≡ Some (written writes m)
  pub counted : new.faults ≡ old.faults
  pub unread : new.unread ≡ old.unread
  pub none : writes ≡ [] → new.changes ≡ old.changes
  pub said : Said diverged text old.taken new.taken old.sink_faults new.sink_faults s

-- the write to that name failed, and this is said
pub record IsCut (writes : List Write) (name : List ℕ) (old new : Outside) (s : Status) : Type 0 where
  pub due : (i : ℕ) × (w : Write) × (slice_get writes i ≡ Some w) × (w.name ≡ name)
  pub counted : Rose old.faults new.faults
  pub named : IsLast new.last name
  pub unread : new.unread ≡ old.unread
  pub files : (m : Contents) → old.known ≡ Some m → CutAt writes m new.known name
  pub said : SaidLine Status.Fault (fault_line name) old.taken new.taken old.sink_faults new.sink_faults s

-- memory ran out in writing some file
pub record IsUnwritten (writes : List Write) (old new : Outside) (s : Status) : Type 0 where
  pub files : (m : Contents) → old.known ≡ Some m → Partly writes m new.known
  pub counted : new.faults ≡ old.faults
  pub unread : new.unread ≡ old.unread
  pub some : writes ≡ [] → ⊥
  pub status : s ≡ Status.Memory
  pub output : new.taken ≡ old.taken
  pub steady : new.sink_faults ≡ old.sink_faults

-- of a command whose replays diverged or not
abbrev pub IsPerformed : (diverged : Bool) → List Write → (text : List ℕ) → (old new : Outside) → Status → Type 0
IsPerformed diverged writes text old new s =
    IsWritten diverged writes text old new s ⊎ (((name : List ℕ) × IsCut writes name old new s) ⊎ IsUnwritten writes old new s)
