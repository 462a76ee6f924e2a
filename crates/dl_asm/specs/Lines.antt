-- A line of a source: a label, a statement and a comment, each of which may be missing.
use Rattle.std.specs.Prelude.{ℕ, ◌==◌, ◌&&◌, not, nat_lt, List, length, Option, Some, None, is_some, if◌then◌else◌}
use Rattle.std.specs.List.{list_all}
use Rattle.dl_asm.specs.declared.form.Form.{Form}
use Rattle.dl_asm.specs.declared.fields.Registers.{Registers}
use Rattle.dl_asm.specs.declared.number.Number.{Number}
use Rattle.dl_asm.specs.Characters.{is_printable}
use Rattle.dl_asm.specs.Texts.{after_blanks, trimmed, place_of, before, behind, first_word, other_words, is_name, is_mnemonic}
use Rattle.dl_asm.specs.Numbers.{number_in}
use Rattle.dl_asm.specs.Mnemonics.{form_named}
use Rattle.dl_asm.specs.Operands.{are_operands}
use Rattle.dl_asm.specs.Fields.{Fields, fields_of}
use Rattle.dl_asm.specs.Values.{within}

-- ---- its parts

-- a name before a colon
abbrev pub label_in : List ℕ → Option (List ℕ)
label_in text = if nat_lt (place_of 58 text) (length text) && is_name (before 58 text) then Some (before 58 text) else None

-- the one that the line begins with, after blanks
unfoldable pub label_of : List ℕ → Option (List ℕ)
label_of line = label_in (after_blanks line)

abbrev pub after_label : List ℕ → List ℕ
after_label text = if is_some (label_in text) then behind 58 text else text

-- what is between the label and the comment, which begins with `#`
abbrev pub statement_of : List ℕ → List ℕ
statement_of line = trimmed (before 35 (after_label (after_blanks line)))

abbrev pub mnemonic_of : List ℕ → List ℕ
mnemonic_of statement = first_word statement

abbrev pub operands_of : List ℕ → List ℕ
operands_of statement = trimmed (other_words statement)

-- ---- what it says

-- nothing; something without the form of a line; an unknown mnemonic; operands that aren't the form's; or a statement, by its
-- form, its registers and the text of its value
pub data Said : Type 0 where
  Nothing : Said
  Misspelled : Said
  Unknown : Said
  Unfit : Form → Said
  Says : Form → Registers → List ℕ → Said

abbrev pub said_by : Form → Option Fields → Said
said_by form None = Unfit form
said_by form (Some fields) = Says form (fields.0) (fields.1)

abbrev pub said_of : Option Form → (operands : List ℕ) → Said
said_of None operands = Unknown
said_of (Some form) operands = said_by form (fields_of form operands)

abbrev pub said_in : (statement : List ℕ) → Said
said_in statement =
    if length statement == 0 then Nothing
    else if not (is_mnemonic (mnemonic_of statement) && are_operands (operands_of statement)) then Misspelled
    else said_of (form_named (mnemonic_of statement)) (operands_of statement)

unfoldable pub said : (line : List ℕ) → Said
said line = if list_all is_printable line then said_in (statement_of line) else Misspelled

-- ---- how many words it takes; if it breaks a rule, by its mnemonic alone

abbrev pub zeros_capped : Option Number → ℕ
zeros_capped None = 0
zeros_capped (Some n) = if within 0 4194304 n then n.magnitude else 0

abbrev pub count_by_form : Form → (words : ℕ) → ℕ
count_by_form Form.Zero words = words
count_by_form _ words = 1

abbrev pub count_said : Said → ℕ
count_said Nothing = 0
count_said Misspelled = 0
count_said Unknown = 0
count_said (Unfit form) = count_by_form form 0
count_said (Says form registers value) = count_by_form form (zeros_capped (number_in value))

abbrev pub count_of : (line : List ℕ) → ℕ
count_of line = count_said (said line)
