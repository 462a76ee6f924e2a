-- What a reader of a log's bytes answers.
use Rattle.std.specs.Prelude.{◌≡◌, ℕ, Result, Ok, Err}
use Rattle.spec_log.specs.declared.fault.Fault.{Fault}
use Rattle.spec_log.specs.Fields.{Read}
use Rattle.spec_log.specs.declared.log.LogParts.{LogParts}
use Rattle.dl_logfmt.specs.declared.error.LogError.{LogError}
use Rattle.dl_logfmt.specs.declared.error.LogError.TheVariants.{Malformed, OutOfMemory}

-- a call that stopped at this offset gave what is read, or the fault; only for memory that ran out no cause is asked
abbrev pub Answers : {X : Type 0} → Result (Read X) Fault → Result X LogError → ℕ → Type 0
Answers reading (Ok x) after = reading ≡ Ok (record { value = x; after = after })
Answers reading (Err (Malformed fault)) after = reading ≡ Err fault
Answers reading (Err OutOfMemory) after = Unit {0}

-- the same of a call that makes of a value what is read, or leaves it with the fault
abbrev pub Makes : {X : Type 0} → Result (Read X) Fault → Result (Unit {0}) LogError → (old new : X) → ℕ → Type 0
Makes reading (Ok x) old new after = reading ≡ Ok (record { value = new; after = after })
Makes reading (Err (Malformed fault)) old new after = (reading ≡ Err fault) × (new ≡ old)
Makes reading (Err OutOfMemory) old new after = Unit {0}

-- the parts of the log that was read, or the fault; only for memory that ran out no cause is asked
abbrev pub IsReading : Result LogParts Fault → Result LogParts LogError → Type 0
IsReading reading (Ok log) = reading ≡ Ok log
IsReading reading (Err (Malformed fault)) = reading ≡ Err fault
IsReading reading (Err OutOfMemory) = Unit {0}
