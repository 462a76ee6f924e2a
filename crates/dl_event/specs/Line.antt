-- What a line of a script says: nothing, one event, or something that isn't allowed.
use Rattle.std.specs.Prelude.{ℕ, ◌-◌, ◌^◌, Bool, not, ◌&&◌, nat_eq, nat_le, List, [], ◌∷◌, length, codes, Option, Some, None, if◌then◌else◌}
use Rattle.std.specs.List.{filter, slice_split, starts_with}
use Rattle.std.specs.Option.{option_and_then, option_map}
use Rattle.std.specs.Str.{bytes_eq, all_ascii_digits}
use Rattle.std.specs.Str.Parse.{digits_value}
use Rattle.spec_protocol.specs.declared.event.Event.{Event}
use Rattle.dl_event.specs.declared.line.Line.{Line}
use Rattle.dl_event.specs.declared.line.Line.TheVariants.{Empty, Holds, Wrong}

-- what is between the spaces
abbrev pub words_of : List ℕ → List (List ℕ)
words_of line = filter (λ word. not (bytes_eq word [])) (slice_split (λ byte. nat_eq byte 32) line)

-- ---- numbers

-- 1 to 10 decimal digits
abbrev pub is_number : List ℕ → Bool
is_number word = nat_le 1 (length word) && nat_le (length word) 10 && all_ascii_digits word

abbrev pub number_of : List ℕ → Option ℕ
number_of word = if is_number word then Some (digits_value 10 word) else None

-- a number, if it is no more than that
abbrev pub at_most : ℕ → Option ℕ → Option ℕ
at_most most None = None
at_most most (Some n) = if nat_le n most then Some n else None

-- cores, slots, spheres and threads are numbers up to 255, and a value is a number up to 2^32 - 1
abbrev pub byte_of : List ℕ → Option ℕ
byte_of word = at_most 255 (number_of word)

abbrev pub value_of : List ℕ → Option ℕ
value_of word = at_most (2 ^ 32 - 1) (number_of word)

-- ---- events

-- step C, cut C, ask C, drain K, retire K and dma S
abbrev pub event_of_one : List ℕ → ℕ → Option Event
event_of_one word n =
    if bytes_eq word (codes "step") then Some (Event.Step n)
    else if bytes_eq word (codes "cut") then Some (Event.Cut n)
    else if bytes_eq word (codes "ask") then Some (Event.Ask n)
    else if bytes_eq word (codes "drain") then Some (Event.Drain n)
    else if bytes_eq word (codes "retire") then Some (Event.Retire n)
    else if bytes_eq word (codes "dma") then Some (Event.Dma n)
    else None

-- deliver C K
abbrev pub event_of_two : List ℕ → (core slot : ℕ) → Option Event
event_of_two word core slot = if bytes_eq word (codes "deliver") then Some (Event.Deliver core slot) else None

-- place C S T, and raise S T V, whose last number is a value
abbrev pub event_of_three : List ℕ → (first second : ℕ) → (third : List ℕ) → Option Event
event_of_three word first second third =
    if bytes_eq word (codes "place") then option_map (Event.Place first second) (byte_of third)
    else if bytes_eq word (codes "raise") then option_map (Event.Raise first second) (value_of third)
    else None

-- a line is wrong if it doesn't hold an event
abbrev pub held : Option Event → Line
held (Some event) = Holds event
held None = Wrong

-- an empty line has no word, and an event is a word and one to three numbers
abbrev pub said : List (List ℕ) → Line
said [] = Empty
said (word ∷ a ∷ []) = held (option_and_then (event_of_one word) (byte_of a))
said (word ∷ a ∷ b ∷ []) = held (option_and_then (λ m. option_and_then (event_of_two word m) (byte_of b)) (byte_of a))
said (word ∷ a ∷ b ∷ c ∷ []) =
    held (option_and_then (λ m. option_and_then (λ n. event_of_three word m n c) (byte_of b)) (byte_of a))
said _ = Wrong

-- a line that begins with `#` says nothing, like an empty one
abbrev pub line_of : List ℕ → Line
line_of line = if starts_with nat_eq line (codes "#") then Empty else said (words_of line)
