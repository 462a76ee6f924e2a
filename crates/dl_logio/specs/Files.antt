-- What files say as logs, and how logs are written.
use Rattle.std.specs.Prelude.{◌≡◌, ◌⊎◌, ℕ, List, take, Option, Some, IfSome, option_map, Result, Ok, Err}
use Rattle.std.specs.FinMap.{get}
use Rattle.dl_files.specs.Contents.{Contents, with_file}
use Rattle.dl_files.specs.Seen.{Seen, IsUnwritten}
use Rattle.dl_files.specs.declared.FileError.{FileError}
use Rattle.dl_logio.specs.declared.reading.LogRead.{LogRead}
use Rattle.spec_log.specs.declared.fault.Fault.{Fault}
use Rattle.spec_log.specs.Reading.{read_of}
use Rattle.spec_log.specs.declared.log.LogParts.{LogParts}

-- the log, or the first of its fields that isn't good
abbrev pub read_view : LogRead → Result LogParts Fault
read_view (LogRead.Good log) = Ok log
read_view (LogRead.Malformed fault) = Err fault

-- where known, the name's bytes are read so
abbrev pub SaysLog : Option Contents → (name : List ℕ) → Result LogParts Fault → Type 0
SaysLog known name read = IfSome known (λ m. option_map read_of (get m name) ≡ Some read)

-- memory ran out in the write of these bytes to that name: nothing has changed, or it holds the first of them
pub record IsPartly (name bytes : List ℕ) (old new : Seen) : Type 0 where
  pub known : (new.known ≡ old.known) ⊎ ((k : ℕ) × (new.known ≡ with_file name (take k bytes) old.known))
  pub faults : new.faults ≡ old.faults
  pub unread : new.unread ≡ old.unread

-- the write of a log of these bytes to that name stopped so
abbrev pub LogStops : (name bytes : List ℕ) → (old new : Seen) → FileError → Type 0
LogStops name bytes old new FileError.Failed = IsUnwritten name old new
LogStops name bytes old new FileError.Absent = ⊥
LogStops name bytes old new FileError.OutOfMemory = IsPartly name bytes old new
