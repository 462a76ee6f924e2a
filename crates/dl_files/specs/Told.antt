-- What a system tells of its files, if it tells: what they hold, and how many of its calls were refused.
use Rattle.std.specs.Prelude.{◌≡◌, ◌≢◌, ℕ, Bool, ◌+◌, ◌<◌, ◌≤◌, ◌^◌, ◌⊎◌, List, ◌++◌, length, Contains, Option, None, Some, IfSome, option_map, refl}
use Rattle.std.specs.Coded.{Coded, code_by, coded×, coded_ℕ, coded_bool, coded_list, coded_option}
use Rattle.std.specs.FinMap.{get, insert}
use Rattle.dl_files.specs.Contents.{Contents, contents_code}
use Rattle.dl_files.specs.Count.{Rose, next}
use Rattle.dl_files.specs.Seen.{Seen, Counts, telling, untold}
use Rattle.dl_files.specs.declared.beginning.Beginning.{Beginning}

-- what the files hold; the names of which only the next part can be read, as pipes; how often a file was opened; how many calls
-- failed; and how many were interrupted and are to be made again
pub record Told : Type 0 where
  pub holds : Contents
  pub pipes : List (List ℕ)
  pub opened : ℕ
  pub failed : ℕ
  pub interrupted : ℕ

-- what the files hold, if it is told
abbrev pub held : Option Told → Option Contents
held told = option_map (λ t. t.holds) told

-- the same system, whose files now hold what this makes of what they held
abbrev pub holding : (Contents → Contents) → Option Told → Option Told
holding f told = option_map {T = Told} (λ t. record t { holds = f t.holds }) told

-- the same system once a file was opened, or was to be
abbrev pub opening : Option Told → Option Told
opening told = option_map {T = Told} (λ t. record t { opened = next t.opened }) told

-- if the system tells, this is so of what it told before and tells after
abbrev pub Goes : (Told → Told → Type 0) → Option Told → Option Told → Type 0
Goes P None None = Unit {0}
Goes P (Some old) (Some new) = P old new
Goes P _ _ = ⊥

-- nothing but interruptions
pub record IsRead (old new : Told) : Type 0 where
  pub holds : new.holds ≡ old.holds
  pub opened : new.opened ≡ old.opened
  pub failed : new.failed ≡ old.failed
  pub interrupted : old.interrupted ≤ new.interrupted

-- a call was refused, and no file has changed
pub record IsRefused (old new : Told) : Type 0 where
  pub holds : new.holds ≡ old.holds
  pub opened : new.opened ≡ old.opened
  pub refused : Rose (old.failed + old.interrupted) (new.failed + new.interrupted)

-- a name that held some bytes now holds these after them
pub record IsGrown (name bytes : List ℕ) (old new : Told) : Type 0 where
  pub holds : (m : Contents) (base : List ℕ) → old.holds ≡ insert m name base → new.holds ≡ insert m name (base ++ bytes)
  pub others : (other : List ℕ) → other ≢ name → get new.holds other ≡ get old.holds other
  pub opened : new.opened ≡ old.opened
  pub refused : old.failed + old.interrupted ≤ new.failed + new.interrupted

-- a call was refused, and no other name has changed
pub record IsSpoiled (name : List ℕ) (old new : Told) : Type 0 where
  pub others : (other : List ℕ) → other ≢ name → get new.holds other ≡ get old.holds other
  pub opened : new.opened ≡ old.opened
  pub refused : Rose (old.failed + old.interrupted) (new.failed + new.interrupted)

abbrev pub Reads : Option Told → Option Told → Type 0
Reads old new = Goes IsRead old new

abbrev pub Refuses : Option Told → Option Told → Type 0
Refuses old new = Goes IsRefused old new

abbrev pub Grows : (name bytes : List ℕ) → Option Told → Option Told → Type 0
Grows name bytes old new = Goes (IsGrown name bytes) old new

abbrev pub Spoils : (name : List ℕ) → Option Told → Option Told → Type 0
Spoils name old new = Goes (IsSpoiled name) old new

-- a file of that name was opened, to be read from its first byte on; no file has 2^63 bytes
abbrev pub IsOpened : (known : Option Contents) → (name : List ℕ) → (whole left : Option (List ℕ)) → Type 0
IsOpened known name whole left = IfSome known (λ m. (bytes : List ℕ) × (get m name ≡ Some bytes) × (whole ≡ Some bytes) × (left ≡ Some bytes) × (length bytes < 2 ^ 63))

-- more than 2^30 bytes are held
abbrev pub IsTooLarge : Option Contents → (name : List ℕ) → Type 0
IsTooLarge known name = IfSome known (λ m. IfSome (get m name) (λ bytes. 2 ^ 30 < length bytes))

-- at most 2^30 bytes are held, if the name is there
abbrev pub Fits : Option Contents → (name : List ℕ) → Type 0
Fits known name = IfSome known (λ m. IfSome (get m name) (λ bytes. length bytes ≤ 2 ^ 30))

-- a read of that name failed: a call was refused, or the file is too large
abbrev pub CantRead : (name : List ℕ) → Option Told → Option Told → Type 0
CantRead name old new = Refuses old new ⊎ (IsTooLarge (held old) name × Reads old new)

-- a file was opened once, and no other call was made that changes anything
abbrev pub IsOpenedOnce : Option Told → Option Told → Type 0
IsOpenedOnce old new = Goes (λ (old : Told) (new : Told). new.opened ≡ next old.opened) old new

-- a name was read in parts since it is no pipe, and at once since it is one
abbrev pub IsReadAs : Option Told → (name : List ℕ) → Beginning → Type 0
IsReadAs told name (Beginning.Part n) = IfSome told (λ t. Contains t.pipes name → ⊥)
IsReadAs told name (Beginning.Whole bytes) = IfSome told (λ t. Contains t.pipes name)

-- what real files are seen as: what their system tells, and their counts
pub record Outside : Type 0 where
  pub told : Option Told
  pub counts : Counts

-- as files they are seen so: if the system tells, absent names aren't among the faults
abbrev pub seen_by : Option Told → Counts → Seen
seen_by None counts = untold counts
seen_by (Some t) counts = record (telling t.holds counts.failed None) { unwritten = counts.unwritten }

-- what a system tells is stored as its parts, and so is what real files are seen as
abbrev pub told_code : Coded Told
told_code =
    code_by (Contents × (List (List ℕ) × (ℕ × (ℕ × ℕ)))) (coded× contents_code (coded× (coded_list (coded_list coded_ℕ)) (coded× coded_ℕ (coded× coded_ℕ coded_ℕ))))
    (λ t. (t.holds, (t.pipes, (t.opened, (t.failed, t.interrupted)))))
    (λ p. record { holds = p.0; pipes = p.1.0; opened = p.1.1.0; failed = p.1.1.1.0; interrupted = p.1.1.1.1 }) (λ _. refl)

abbrev pub outside_code : Coded Outside
outside_code =
    code_by (Option Told × (ℕ × (ℕ × (ℕ × (ℕ × Bool))))) (coded× (coded_option told_code) (coded× coded_ℕ (coded× coded_ℕ (coded× coded_ℕ (coded× coded_ℕ coded_bool)))))
    (λ o. (o.told, (o.counts.faults, (o.counts.failed, (o.counts.unread, (o.counts.changes, o.counts.unwritten))))))
    (λ p. record { told = p.0; counts = record { faults = p.1.0; failed = p.1.1.0; unread = p.1.1.1.0; changes = p.1.1.1.1.0; unwritten = p.1.1.1.1.1 } }) (λ _. refl)

-- what a sink over an output is seen as: what the output holds, if it tells, how many of its calls were refused, and the count of
-- faults
pub record Out : Type 0 where
  pub taken : Option (List ℕ)
  pub refusals : ℕ
  pub faults : ℕ
