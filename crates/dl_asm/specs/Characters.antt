-- The characters of a source, by their ASCII codes.
use Rattle.std.specs.Prelude.{ℕ, ◌==◌, Bool, ◌||◌}
use Rattle.std.specs.Char.{is_ascii_graphic, is_ascii_alphabetic, is_ascii_alphanumeric}

-- space and tab
abbrev pub is_blank : ℕ → Bool
is_blank c = (c == 32) || (c == 9)

-- what a line may contain
abbrev pub is_printable : ℕ → Bool
is_printable c = is_ascii_graphic c || is_blank c

-- a letter or `_`
abbrev pub begins_name : ℕ → Bool
begins_name c = is_ascii_alphabetic c || (c == 95)

-- a letter, a digit or `_`
abbrev pub continues_name : ℕ → Bool
continues_name c = is_ascii_alphanumeric c || (c == 95)

-- mnemonics have dots too
abbrev pub begins_mnemonic : ℕ → Bool
begins_mnemonic c = begins_name c || (c == 46)

abbrev pub continues_mnemonic : ℕ → Bool
continues_mnemonic c = continues_name c || (c == 46)
