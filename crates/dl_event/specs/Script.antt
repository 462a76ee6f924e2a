-- A script: the events that its lines hold, or the first line that is refused.
use Rattle.std.specs.Prelude.{ℕ, ◌+◌, ◌^◌, ◌≡◌, Bool, true, false, nat_le, nat_eq, List, length, map, take, Option, Some, None, Result, Ok, Err}
use Rattle.std.specs.List.{filter_map, position, range_with_len, slice_split, slice_get}
use Rattle.spec_protocol.specs.declared.event.Event.{Event}
use Rattle.dl_event.specs.declared.error.ScriptError.{ScriptError}
use Rattle.dl_event.specs.declared.error.ScriptError.TheVariants.{Refused, OutOfMemory}
use Rattle.dl_event.specs.declared.line.Line.{Line}
use Rattle.dl_event.specs.declared.line.Line.TheVariants.{Holds, Wrong}
use Rattle.dl_event.specs.Line.{line_of}

-- lines end with LF; after the last LF there is one more, which may be empty
abbrev pub lines_of : List ℕ → List Line
lines_of bytes = map line_of (slice_split (λ byte. nat_eq byte 10) bytes)

abbrev pub event_in : Line → Option Event
event_in (Holds event) = Some event
event_in _ = None

abbrev pub events_of : List Line → List Event
events_of lines = filter_map event_in lines

-- a line is refused if it is wrong, or holds an event after 2^24 others
abbrev pub is_refused_after : List Event → Option Line → Bool
is_refused_after before (Some Wrong) = true
is_refused_after before (Some (Holds event)) = nat_le (2 ^ 24) (length before)
is_refused_after before _ = false

abbrev pub is_refused : List Line → ℕ → Bool
is_refused lines index = is_refused_after (events_of (take index lines)) (slice_get lines index)

abbrev pub first_refused : List Line → Option ℕ
first_refused lines = position (is_refused lines) (range_with_len 0 (length lines))

-- indices count from 0, and the numbers of lines from 1
abbrev pub outcome : List Line → Option ℕ → Result (List Event) ℕ
outcome lines None = Ok (events_of lines)
outcome lines (Some index) = Err (index + 1)

-- the events, if no line is refused, and else the number of the first that is
abbrev pub script_of : List ℕ → Result (List Event) ℕ
script_of bytes = outcome (lines_of bytes) (first_refused (lines_of bytes))

-- the error that refuses the script, unless memory ran out
abbrev pub Refuses : Result (List Event) ℕ → ScriptError → Type 0
Refuses meant (Refused line) = meant ≡ Err line
Refuses meant OutOfMemory = Unit {0}
