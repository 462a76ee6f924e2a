-- What is answered of bytes that are read as strata.
use Rattle.std.specs.Prelude.{◌≡◌, ℕ, Result, Ok, Err}
use Rattle.spec_log.specs.declared.fault.Fault.{Fault}
use Rattle.spec_log.specs.Fields.{Read}
use Rattle.spec_strata.specs.declared.strata.StrataParts.{StrataParts}
use Rattle.dl_logfmt.specs.declared.error.LogError.{LogError}
use Rattle.dl_logfmt.specs.declared.error.LogError.TheVariants.{Malformed as BadField, OutOfMemory as NoMemory}
use Rattle.dl_strata.specs.declared.error.StrataError.{StrataError}
use Rattle.dl_strata.specs.declared.error.StrataError.TheVariants.{Malformed, OutOfMemory}

-- the same fault, or that memory ran out
abbrev pub error_of : LogError → StrataError
error_of (BadField fault) = Malformed fault
error_of NoMemory = OutOfMemory

-- a call leaves in a value what is read, and stops after it; with a fault, whatever it has come to
abbrev pub Leaves : {X : Type 0} → Result (Read X) Fault → Result (Unit {0}) LogError → (new : X) → ℕ → Type 0
Leaves reading (Ok x) new after = reading ≡ Ok (record { value = new; after = after })
Leaves reading (Err (BadField fault)) new after = reading ≡ Err fault
Leaves reading (Err NoMemory) new after = Unit {0}

-- the parts of the strata that were read, or the fault; that memory ran out has no cause
abbrev pub IsReading : Result StrataParts Fault → Result StrataParts StrataError → Type 0
IsReading reading (Ok strata) = reading ≡ Ok strata
IsReading reading (Err (Malformed fault)) = reading ≡ Err fault
IsReading reading (Err OutOfMemory) = Unit {0}
