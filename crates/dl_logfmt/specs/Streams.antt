-- Readers in pieces, and those whose answer holds wherever their bytes stand: it stays whatever stands before these bytes, and, unless they
-- end inside a field, whatever stands after them.
use Rattle.std.specs.Prelude.{◌≡◌, ℕ, ◌+◌, ◌≤◌, List, [], ◌∷◌, ◌++◌, length, Option, Some, None, Result, Ok, Err}
use Rattle.spec_log.specs.declared.fault.Fault.{Fault}
use Rattle.spec_log.specs.Fields.{Read, Reader, Stage, read, gives, repeated, all_of}

-- what was read at an offset of the bytes, at most so many of them, is what is read of the whole
pub record Goes {X : Type 0} (most : ℕ) (before bytes : List ℕ) (at : ℕ) (r : Read X) (whole : Result (Read X) Fault)
    : Type 0 where
  pub same : whole ≡ Ok (record { value = r.value; after = length before + r.after })
  pub onward : at ≤ r.after
  pub within : r.after ≤ length bytes
  pub few : r.after ≤ at + most

-- a fault of the bytes is that of the whole, but where they end inside a field only if nothing follows
pub record Stays {X : Type 0} (before bytes behind : List ℕ) (fault : Fault) (whole : Result (Read X) Fault)
    : Type 0 where
  pub within : fault.offset ≤ length bytes
  pub short : fault.number ≡ 1 → fault.offset ≡ length bytes
  pub same : (fault.number ≡ 1 → behind ≡ [])
      → whole ≡ Err (record { number = fault.number; offset = length before + fault.offset })

-- what the bytes answer holds of the whole
abbrev pub Holds : {X : Type 0} → ℕ → (before bytes behind : List ℕ) → ℕ → Result (Read X) Fault → Result (Read X) Fault
    → Type 0
Holds most before bytes behind at (Ok r) whole = Goes most before bytes at r whole
Holds most before bytes behind at (Err fault) whole = Stays before bytes behind fault whole

-- what the reader answers of any bytes holds of any whole
pub record Streams {X : Type 0} (most : ℕ) (reader : Reader X) : Type 0 where
  pub holds : (before bytes behind : List ℕ) (at : ℕ) → at ≤ length bytes
      → Holds most before bytes behind at (reader bytes at) (reader (before ++ (bytes ++ behind)) (length before + at))

-- in any whole, one reader at one offset of the bytes answers as another does at another
abbrev pub Leads : {X : Type 0} → List ℕ → Reader X → ℕ → Reader X → ℕ → Type 0
Leads bytes first at then after =
    (before behind : List ℕ)
    → first (before ++ (bytes ++ behind)) (length before + at)
    ≡ then (before ++ (bytes ++ behind)) (length before + after)

-- in any whole, the reader ends at a fault of the bytes
abbrev pub Stops : {X : Type 0} → List ℕ → Reader X → ℕ → Fault → Type 0
Stops bytes reader at fault =
    (before behind : List ℕ)
    → Stays before bytes behind fault (reader (before ++ (bytes ++ behind)) (length before + at))

-- what is left to be read of these stages, where the first is still read so many times, if that is known
abbrev pub rest_in : {D : Type 0} → List (Stage D) → Option ℕ → D → Reader D
rest_in stages None d = all_of stages d
rest_in [] (Some left) d = gives d
rest_in (stage ∷ stages) (Some left) d = read (repeated stage.one left d) (all_of stages)
