-- What files say as scripts.
use Rattle.std.specs.Prelude.{◌≡◌, ℕ, List, Option, Some, IfSome, option_map, Result, Ok, Err}
use Rattle.std.specs.FinMap.{get}
use Rattle.dl_event.specs.Script.{script_of, Refuses}
use Rattle.dl_event.specs.declared.error.ScriptError.{ScriptError}
use Rattle.dl_files.specs.Contents.{Contents}
use Rattle.dl_scriptio.specs.declared.reading.ScriptRead.{ScriptRead}
use Rattle.spec_protocol.specs.declared.event.Event.{Event}

-- the events, or the number of the first line that is refused
abbrev pub read_view : ScriptRead → Result (List Event) ℕ
read_view (ScriptRead.Good events) = Ok events
read_view (ScriptRead.Refused line) = Err line

-- if known, this is what the name's bytes say
abbrev pub SaysScript : Option Contents → (name : List ℕ) → Result (List Event) ℕ → Type 0
SaysScript known name read = IfSome known (λ m. option_map script_of (get m name) ≡ Some read)

-- the answer of a call that reads a script is what the script means, unless memory ran out
abbrev pub IsReadAs : (meant : Result (List Event) ℕ) → Result (List Event) ScriptError → Type 0
IsReadAs meant (Ok events) = meant ≡ Ok events
IsReadAs meant (Err error) = Refuses meant error
