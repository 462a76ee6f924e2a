-- Operands: numbers and names, alone or with parentheses, separated by commas.
use Rattle.std.specs.Prelude.{ℕ, ◌-◌, ◌==◌, Bool, false, not, ◌&&◌, ◌||◌, nat_eq, nat_lt, List, [], ◌∷◌, length, take, map, codes, Option, Some, None}
use Rattle.std.specs.Prelude.{is_some, if◌then◌else◌}
use Rattle.std.specs.List.{list_all, slice_split, ends_with}
use Rattle.dl_asm.specs.Texts.{trimmed, place_of, before, behind, is_name}
use Rattle.dl_asm.specs.Numbers.{number_in, register_in}

-- a register and a label are names
abbrev pub is_plain : List ℕ → Bool
is_plain text = is_some (number_in text) || is_name text

-- what is before the parentheses, and what is between them
abbrev pub memory_in : List ℕ → Option (List ℕ × List ℕ)
memory_in text =
    let inside = behind 40 text in
    if nat_lt (place_of 40 text) (length text) && ends_with nat_eq inside (codes ")")
    then Some (trimmed (before 40 text), trimmed (take (length inside - 1) inside))
    else None

-- there need be nothing before the parentheses
abbrev pub is_memory : Option (List ℕ × List ℕ) → Bool
is_memory None = false
is_memory (Some memory) = ((length (memory.0) == 0) || is_plain (memory.0)) && is_plain (memory.1)

abbrev pub is_operand : List ℕ → Bool
is_operand text = is_plain text || is_memory (memory_in text)

-- a number, or the name of a label, which no register has
abbrev pub is_value : List ℕ → Bool
is_value text = is_plain text && not (is_some (register_in text))

-- ---- several

-- what is between the commas
abbrev pub operands_in : List ℕ → List (List ℕ)
operands_in text = map trimmed (slice_split (λ c. c == 44) text)

-- nothing, or operands each of which has the form of one
unfoldable pub are_operands : List ℕ → Bool
are_operands text = (length text == 0) || list_all is_operand (operands_in text)

abbrev pub two_of : List (List ℕ) → Option (List ℕ × List ℕ)
two_of (a ∷ b ∷ []) = Some (a, b)
two_of _ = None

abbrev pub three_of : List (List ℕ) → Option (List ℕ × List ℕ × List ℕ)
three_of (a ∷ b ∷ c ∷ []) = Some (a, b, c)
three_of _ = None
