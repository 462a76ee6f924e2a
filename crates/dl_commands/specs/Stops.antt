-- How writing ends, or stops before its end. The files were seen as `old` before, and as `new` after it.
use Rattle.std.specs.Prelude.{◌≡◌, ◌⊎◌, ℕ, true, List, [], take, slice_get, Some}
use Rattle.dl_files.specs.Contents.{Contents, IsLast, SameBut, with_file}
use Rattle.dl_files.specs.Count.{Rose}
use Rattle.dl_files.specs.declared.FileError.{FileError}
use Rattle.dl_files.specs.Seen.{Seen, IsUnwritten}
use Rattle.spec_program.specs.Writes.{Write, written}
use Rattle.spec_program.specs.Ends.{Partly}
use Rattle.dl_commands.specs.declared.writing.Content.{Content}
use Rattle.dl_commands.specs.declared.writing.Stop.{Stop}
use Rattle.dl_commands.specs.Jobs.{bytes_in, is_in_pieces}

-- ---- one file

-- memory ran out in the write of a file: nothing has changed, or, where it is written in pieces, the first of its bytes stand
pub record IsCutShort (content : Content) (name : List ℕ) (old new : Seen) : Type 0 where
  pub known : (new.known ≡ old.known) ⊎ ((is_in_pieces content ≡ true) × (k : ℕ) × (new.known ≡ with_file name (take k (bytes_in content)) old.known))
  pub faults : new.faults ≡ old.faults
  pub unread : new.unread ≡ old.unread

-- the write of a file stopped so
abbrev pub ContentStops : Content → (name : List ℕ) → (old new : Seen) → FileError → Type 0
ContentStops content name old new FileError.Failed = IsUnwritten name old new
ContentStops content name old new FileError.Absent = ⊥
ContentStops content name old new FileError.OutOfMemory = IsCutShort content name old new

-- ---- all files

-- each is written; with none no file is changed
pub record AreWritten (writes : List Write) (old new : Seen) : Type 0 where
  pub known : (m : Contents) → old.known ≡ Some m → new.known ≡ Some (written writes m)
  pub faults : new.faults ≡ old.faults
  pub unread : new.unread ≡ old.unread
  pub none : writes ≡ [] → new.changes ≡ old.changes

-- the first are written, and then the write of index i failed
pub record IsCutAt (writes : List Write) (i : ℕ) (old new : Seen) : Type 0 where
  pub write : Write
  pub at : slice_get writes i ≡ Some write
  pub counted : Rose old.faults new.faults
  pub named : IsLast new.last write.name
  pub known : (m : Contents) → old.known ≡ Some m → SameBut write.name (Some (written (take i writes) m)) new.known
  pub unread : new.unread ≡ old.unread

-- the first are written, and then memory ran out over another
pub record AreCutShort (writes : List Write) (old new : Seen) : Type 0 where
  pub known : (m : Contents) → old.known ≡ Some m → Partly writes m new.known
  pub faults : new.faults ≡ old.faults
  pub unread : new.unread ≡ old.unread
  pub some : writes ≡ [] → ⊥

abbrev pub Stopped : List Write → (old new : Seen) → Stop → Type 0
Stopped writes old new (Stop.Failed i) = IsCutAt writes i old new
Stopped writes old new Stop.OutOfMemory = AreCutShort writes old new
