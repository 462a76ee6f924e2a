-- A log that is read from its bytes in pieces.
use Rattle.std.specs.Prelude.{◌≡◌, ℕ, ◌+◌, ◌*◌, ◌≤◌, ◌==◌, List, ◌++◌, length, Option, Some, None, Result, Ok, Err, if◌then◌else◌}
use Rattle.spec_log.specs.declared.log.LogParts.{LogParts}
use Rattle.spec_log.specs.declared.fault.Fault.{Fault}
use Rattle.spec_log.specs.Reading.{ended, read_of}
use Rattle.dl_logfmt.specs.declared.error.LogError.{LogError}
use Rattle.dl_logfmt.specs.declared.error.LogError.TheVariants.{Malformed, OutOfMemory}
use Rattle.dl_logfmt.specs.declared.parser.Parser.{Parser}
use Rattle.dl_logfmt.specs.Parsing.{most, remaining, said, unread, widest}

-- what is said of bytes that may go on: their fault, unless they end inside a field
abbrev pub fed : Result LogParts Fault → Result (Unit {0}) Fault
fed (Ok log) = Ok tt
fed (Err fault) = if fault.number == 1 then Ok tt else Err fault

-- a call answered this; only for memory that ran out no cause is asked
abbrev pub IsFeeding : Result (Unit {0}) Fault → Result (Unit {0}) LogError → Type 0
IsFeeding said (Ok x) = said ≡ Ok tt
IsFeeding said (Err (Malformed fault)) = said ≡ Err fault
IsFeeding said (Err OutOfMemory) = Unit {0}

-- a reader: what it has read, the bytes that it couldn't yet use and the offset of the first of them, or the fault
pub record Feeding : Type 0 where
  pub parser : Parser
  pub pending : List ℕ
  pub start : ℕ
  pub refusal : Option Fault

-- the bytes are those that were used and the pending ones; they say what the parser has, and whatever follows, they and
-- it are read as the reader reads on
pub record Holding (bytes : List ℕ) (r : Feeding) : Type 0 where
  pub used : List ℕ
  pub split : bytes ≡ used ++ r.pending
  pub start : r.start ≡ length used
  pub low : r.start + widest * most r.parser ≤ widest * most unread
  pub now : read_of bytes ≡ said r.parser bytes
  pub later : (rest : List ℕ)
      → read_of (bytes ++ rest) ≡ ended (bytes ++ rest) (remaining r.parser (bytes ++ rest) (length used))

-- whatever follows, the bytes have this fault, which isn't that they end inside a field
pub record Refused (bytes : List ℕ) (refusal : Fault) : Type 0 where
  pub lasting : refusal.number ≡ 1 → ⊥
  pub later : (rest : List ℕ) → read_of (bytes ++ rest) ≡ Err refusal

-- a reader that refused, or that reads on
abbrev pub FedTo : List ℕ → Feeding → Option Fault → Type 0
FedTo bytes r (Some refusal) = Refused bytes refusal
FedTo bytes r None = Holding bytes r

-- the reader was fed these bytes
abbrev pub HasFed : List ℕ → Feeding → Type 0
HasFed bytes r = FedTo bytes r r.refusal
