-- A source: its lines, the place of each, its labels, the rules that its lines break, and its words.
use Rattle.std.specs.Prelude.{ℕ, zero, suc, ◌++◌, ◌+◌, ◌*◌, ◌==◌, Bool, true, false, not, nat_lt, List, [], length, take, get_or, Option, Some, None}
use Rattle.std.specs.Prelude.{if◌then◌else◌}
use Rattle.std.specs.List.{slice_split, sum_by, list_any, position}
use Rattle.std.specs.Option.{option_map, option_or}
use Rattle.std.specs.Str.{bytes_eq}
use Rattle.spec_isa.specs.declared.instr.Instr.{Instr}
use Rattle.dl_asm.specs.declared.error.Rule.{Rule}
use Rattle.dl_asm.specs.declared.form.Form.{Form}
use Rattle.dl_asm.specs.declared.number.Number.{Number}
use Rattle.dl_asm.specs.declared.statement.Statement.{Statement}
use Rattle.dl_asm.specs.Numbers.{number_in}
use Rattle.dl_asm.specs.Values.{holds, takes_distance, address_number, distance_number, instr_of, words_of}
use Rattle.dl_asm.specs.Lines.{Said, Misspelled, Unknown, Unfit, Says, said, label_of, count_said, count_of}

-- lines end with LF; what comes after the last LF is one more, which may be empty
abbrev pub lines_of : (source : List ℕ) → List (List ℕ)
lines_of source = slice_split (λ c. c == 10) source

-- ---- places: a line's is the number of words before it, a quarter of its address

abbrev pub place_of : List (List ℕ) → (index : ℕ) → ℕ
place_of lines i = sum_by count_of (take i lines)

abbrev pub is_label : (name : List ℕ) → Option (List ℕ) → Bool
is_label name None = false
is_label name (Some label) = bytes_eq name label

abbrev pub has_label : (name line : List ℕ) → Bool
has_label name line = is_label name (label_of line)

-- a label's is that of the first line that has it
abbrev pub label_place : List (List ℕ) → (name : List ℕ) → Option ℕ
label_place lines name = option_map (place_of lines) (position (has_label name) lines)

-- whether an earlier line has the label
abbrev pub repeats : (earlier : List (List ℕ)) → Option (List ℕ) → Bool
repeats earlier None = false
repeats earlier (Some name) = list_any (has_label name) earlier

-- ---- the number that a statement's value stands for; a form without a value has 0

abbrev pub number_by_label : Form → (here : ℕ) → (there : ℕ) → Number
number_by_label form here there = if takes_distance form then distance_number (4 * here) (4 * there) else address_number (4 * there)

abbrev pub number_of : Form → (here : ℕ) → (label : Option ℕ) → (value : List ℕ) → Option Number
number_of form here label value =
    if length value == 0 then Some (address_number 0)
    else option_or (number_in value) (option_map (number_by_label form here) label)

-- `labels` says where each label is
abbrev pub number_said : (here : ℕ) (labels : List ℕ → Option ℕ) → Said → Option Number
number_said here labels (Says form registers value) = number_of form here (labels value) value
number_said here labels _ = None

-- ---- the rules, each by what a line says and the number of its value

abbrev pub is_misspelled : Said → Bool
is_misspelled Misspelled = true
is_misspelled _ = false

abbrev pub is_unknown : Said → Bool
is_unknown Unknown = true
is_unknown _ = false

abbrev pub is_unfit : Said → Bool
is_unfit (Unfit form) = true
is_unfit _ = false

abbrev pub is_out_of_range : Said → Option Number → Bool
is_out_of_range (Says form registers value) (Some n) = not (holds form n)
is_out_of_range _ _ = false

abbrev pub is_without_label : Said → Option Number → Bool
is_without_label (Says form registers value) None = true
is_without_label _ _ = false

-- code over 16,777,216 bytes
abbrev pub is_too_long : (words : ℕ) → Bool
is_too_long words = nat_lt 4194304 words

-- the first that is broken, in the order of their numbers
abbrev pub broken_by : Said → Option Number → (twice : Bool) → (words : ℕ) → Option Rule
broken_by line number twice words =
    if is_misspelled line then Some Rule.Syntax
    else if is_unknown line then Some Rule.Mnemonic
    else if is_unfit line then Some Rule.Operands
    else if is_out_of_range line number then Some Rule.Range
    else if twice then Some Rule.LabelTwice
    else if is_without_label line number then Some Rule.NoLabel
    else if is_too_long words then Some Rule.TooLong
    else None

unfoldable pub broken : (here : ℕ) (labels : List ℕ → Option ℕ) (twice : Bool) → Said → Option Rule
broken here labels twice line = broken_by line (number_said here labels line) twice (here + count_said line)

-- ---- its statement, with its instruction and its words

abbrev pub statement_by : Said → Option Number → Option Statement
statement_by (Says form registers value) (Some n) = Some (record { form = form; registers = registers; number = n })
statement_by _ _ = None

unfoldable pub statement_said : (here : ℕ) (labels : List ℕ → Option ℕ) → Said → Option Statement
statement_said here labels line = statement_by line (number_said here labels line)

abbrev pub instr_by : Option Statement → Option Instr
instr_by None = None
instr_by (Some s) = instr_of s.form s.registers s.number

abbrev pub words_by : Option Statement → List ℕ
words_by None = []
words_by (Some s) = words_of s.form s.registers s.number

-- ---- line by line

abbrev pub line_at : List (List ℕ) → ℕ → List ℕ
line_at lines i = get_or lines i []

abbrev pub broken_at : List (List ℕ) → (index : ℕ) → Option Rule
broken_at lines i = broken (place_of lines i) (label_place lines) (repeats (take i lines) (label_of (line_at lines i))) (said (line_at lines i))

abbrev pub statement_at : List (List ℕ) → (index : ℕ) → Option Statement
statement_at lines i = statement_said (place_of lines i) (label_place lines) (said (line_at lines i))

abbrev pub instr_at : List (List ℕ) → (index : ℕ) → Option Instr
instr_at lines i = instr_by (statement_at lines i)

abbrev pub words_at : List (List ℕ) → (index : ℕ) → List ℕ
words_at lines i = words_by (statement_at lines i)

-- the words of the lines before an index, one line after the other
abbrev pub words_up_to : List (List ℕ) → (index : ℕ) → List ℕ
words_up_to lines zero = []
words_up_to lines (suc i) = words_up_to lines i ++ words_at lines i

-- the words of the source
abbrev pub words_in : List (List ℕ) → List ℕ
words_in lines = words_up_to lines (length lines)
