-- Which flight stops a request for a commit.
use Rattle.std.specs.Prelude.{ℕ, List, Option, Some, None}
use Rattle.spec_engine.specs.declared.answers.Asked.{Asked}
use Rattle.spec_engine.specs.declared.answers.AskedSerial.{AskedSerial}
use Rattle.spec_engine.specs.Signatures.{Signature}
use Rattle.spec_engine.specs.Flights.{Flight, first_slot, meets_chunk, is_of_sphere}

abbrev pub denied_by : Option ℕ → Asked
denied_by None = Asked.Grant
denied_by (Some k) = Asked.Denied k

-- a chunk is denied by the flight in the lowest slot that its reads or writes hit
abbrev pub ask : (reads writes : Signature) → List (Option Flight) → Asked
ask reads writes slots = denied_by (first_slot (meets_chunk reads writes) slots)

abbrev pub busy_by : Option ℕ → AskedSerial
busy_by None = AskedSerial.Grant
busy_by (Some k) = AskedSerial.SphereBusy k

-- a serial step waits for the flight of its sphere in the lowest slot
abbrev pub ask_serial : (sphere : ℕ) → List (Option Flight) → AskedSerial
ask_serial i slots = busy_by (first_slot (is_of_sphere i) slots)
