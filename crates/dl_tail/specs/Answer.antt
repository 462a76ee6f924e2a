-- What is answered of bytes that are read as a tail.
use Rattle.std.specs.Prelude.{◌≡◌, ℕ, Result, Ok, Err}
use Rattle.spec_log.specs.declared.fault.Fault.{Fault}
use Rattle.spec_log.specs.Fields.{Read}
use Rattle.spec_tail.specs.Tails.{Tail}
use Rattle.dl_logfmt.specs.declared.error.LogError.{LogError}
use Rattle.dl_logfmt.specs.declared.error.LogError.TheVariants.{Malformed as BadField, OutOfMemory as NoMemory}
use Rattle.dl_tail.specs.declared.error.TailError.{TailError}
use Rattle.dl_tail.specs.declared.error.TailError.TheVariants.{Malformed, OutOfMemory}

-- a call that stopped at this offset left in a value what is read; with a fault, whatever it has come to. That memory ran out
-- has no cause
abbrev pub Leaves : {X : Type 0} → Result (Read X) Fault → Result (Unit {0}) LogError → (new : X) → ℕ → Type 0
Leaves reading (Ok x) new after = reading ≡ Ok (record { value = new; after = after })
Leaves reading (Err (BadField fault)) new after = reading ≡ Err fault
Leaves reading (Err NoMemory) new after = Unit {0}

-- the same fault, or that memory ran out
abbrev pub error_of : LogError → TailError
error_of (BadField fault) = Malformed fault
error_of NoMemory = OutOfMemory

-- the tail that was read, or the fault; that memory ran out has no cause
abbrev pub IsReading : Result Tail Fault → Result Tail TailError → Type 0
IsReading reading (Ok tail) = reading ≡ Ok tail
IsReading reading (Err (Malformed fault)) = reading ≡ Err fault
IsReading reading (Err OutOfMemory) = Unit {0}
