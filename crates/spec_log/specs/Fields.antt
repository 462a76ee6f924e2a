-- What bytes say, field by field: readers of single fields, and of files that are read stage by stage. Fields are read in
-- order, and each is checked when it has been read whole.
use Rattle.std.specs.Prelude.{ℕ, zero, suc, ◌+◌, ◌-◌, ◌*◌, nat_lt, nat_le, Bool, true, ◌&&◌, List, []}
use Rattle.std.specs.Prelude.{◌∷◌, ◌++◌, length, take, drop, Option, Some, None, slice_get, Result, Ok, Err, if◌then◌else◌}
use Rattle.spec_log.specs.declared.fault.Fault.{Fault}

-- the fault number 1 is that the bytes end inside a field
abbrev pub fails : {X : Type 0} → ℕ → ℕ → Result X Fault
fails number offset = Err (record { number = number; offset = offset })

-- what was read, and the offset after it
pub record Read (X : Type 0) : Type 0 where
  pub value : X
  pub after : ℕ

-- a reader gives what stands at an offset of the bytes, or a fault
abbrev pub Reader : Type 0 → Type 0
Reader X = List ℕ → ℕ → Result (Read X) Fault

abbrev pub continues : {X Y : Type 0} → Result (Read X) Fault → (X → ℕ → Result Y Fault) → Result Y Fault
continues (Ok r) next = next r.value r.after
continues (Err fault) next = Err fault

-- reads nothing, and gives the value
abbrev pub gives : {X : Type 0} → X → Reader X
gives x bytes at = Ok (record { value = x; after = at })

-- one reader after another, which may look at what the first has read
abbrev pub read : {X Y : Type 0} → Reader X → (X → Reader Y) → Reader Y
read first next bytes at = continues (first bytes at) (λ x after. next x bytes after)

-- so many bytes as they are
abbrev pub raw : ℕ → Reader (List ℕ)
raw width bytes at =
    if nat_lt (length bytes) (at + width) then fails 1 (length bytes)
    else Ok (record { value = take width (drop at bytes); after = at + width })

-- the number in bytes, the low one first
abbrev pub number_of : List ℕ → ℕ
number_of [] = 0
number_of (byte ∷ bytes) = byte + 256 * number_of bytes

-- a value that has to pass a test, else this is the fault at its first byte
abbrev pub passes : {X : Type 0} → Bool → ℕ → ℕ → X → Reader X
passes good fault start x bytes at = if good then gives x bytes at else fails fault start

-- a number of so many bytes, with the fault where it fails its test
abbrev pub number : ℕ → ℕ → (ℕ → Bool) → Reader ℕ
number width fault good bytes start =
    read (raw width) (λ field. passes (good (number_of field)) fault start (number_of field)) bytes start

-- a number in a range, and any number
abbrev pub field : ℕ → (ℕ → Bool) → Reader ℕ
field width good = number width 5 good

abbrev pub any : ℕ → Reader ℕ
any width = field width (λ x. true)

abbrev pub at_most : ℕ → ℕ → Bool
at_most limit x = nat_le x limit

abbrev pub from_to : ℕ → ℕ → ℕ → Bool
from_to low high x = nat_le low x && nat_le x high

-- the bytes of a record after their number, of at most so many
abbrev pub counted_in : ℕ → Reader (List ℕ)
counted_in most = read (field 2 (at_most most)) raw

-- whether an entry comes after the one before it, if there is one
abbrev pub comes_after : {X : Type 0} → (X → X → Bool) → Option X → X → Bool
comes_after earlier None x = true
comes_after earlier (Some before) x = earlier before x

-- the last entry so far
abbrev pub last : {X : Type 0} → List X → Option X
last entries = slice_get entries (length entries - 1)

-- an entry that comes after those before it; the fault is at its first byte
abbrev pub next_entry : {X : Type 0} → (X → X → Bool) → Reader X → List X → Reader X
next_entry earlier entry before bytes start =
    read entry (λ x. passes (comes_after earlier (last before) x) 6 start x) bytes start

-- the entries with one more
abbrev pub one_more : {X : Type 0} → (X → X → Bool) → Reader X → List X → Reader (List X)
one_more earlier entry before = read (next_entry earlier entry before) (λ x. gives (before ++ x ∷ []))

-- a stage of a file: how many times it is read, and what is read each time, of what was read before
pub record Stage (D : Type 0) : Type 0 where
  pub times : D → Reader ℕ
  pub one : D → Reader D

-- a stage that is read once
abbrev pub once : {D : Type 0} → (D → Reader D) → Stage D
once one = record { times = λ d. gives 1; one = one }

-- entries after their number
abbrev pub listed : {D : Type 0} → (D → Reader D) → Stage D
listed one = record { times = λ d. any 4; one = one }

-- the same so many times
abbrev pub repeated : {D : Type 0} → (D → Reader D) → ℕ → D → Reader D
repeated one zero d = gives d
repeated one (suc n) d = read (one d) (repeated one n)

abbrev pub staged : {D : Type 0} → Stage D → D → Reader D
staged stage d = read (stage.times d) (λ n. repeated stage.one n d)

-- these stages, one after another
abbrev pub all_of : {D : Type 0} → List (Stage D) → D → Reader D
all_of [] d = gives d
all_of (stage ∷ stages) d = read (staged stage d) (all_of stages)
