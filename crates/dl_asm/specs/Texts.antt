-- Pieces of a line: what is left without blanks, names, and mnemonics.
use Rattle.std.specs.Prelude.{ℕ, ◌-◌, ◌==◌, Bool, not, ◌&&◌, false, List, [], ◌∷◌, length, take, drop}
use Rattle.std.specs.List.{list_all, position_or_len, before_first, after_first, suffix_len}
use Rattle.dl_asm.specs.Characters.{is_blank, begins_name, continues_name, begins_mnemonic, continues_mnemonic}

-- without the blanks that it begins with
abbrev pub after_blanks : List ℕ → List ℕ
after_blanks text = drop (position_or_len (λ c. not (is_blank c)) text) text

-- without the blanks that it ends with
abbrev pub before_blanks : List ℕ → List ℕ
before_blanks text = take (length text - suffix_len is_blank text) text

abbrev pub trimmed : List ℕ → List ℕ
trimmed text = before_blanks (after_blanks text)

-- the place of the first character of that code, or the length if there is none
abbrev pub place_of : (code : ℕ) → List ℕ → ℕ
place_of code text = position_or_len (λ c. c == code) text

-- what comes before it, and what comes after it
abbrev pub before : (code : ℕ) → List ℕ → List ℕ
before code text = before_first (λ c. c == code) text

abbrev pub behind : (code : ℕ) → List ℕ → List ℕ
behind code text = after_first (λ c. c == code) text

-- up to the first blank, and what follows it
abbrev pub first_word : List ℕ → List ℕ
first_word text = before_first is_blank text

abbrev pub other_words : List ℕ → List ℕ
other_words text = after_first is_blank text

-- a first character of one kind, and any number of another
abbrev pub is_word : (first next : ℕ → Bool) → List ℕ → Bool
is_word first next [] = false
is_word first next (c ∷ cs) = first c && list_all next cs

abbrev pub is_name : List ℕ → Bool
is_name text = is_word begins_name continues_name text

abbrev pub is_mnemonic : List ℕ → Bool
is_mnemonic text = is_word begins_mnemonic continues_mnemonic text
