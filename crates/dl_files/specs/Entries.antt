-- Files as a list: the names in the order in which they came, each with its bytes.
use Rattle.std.specs.Prelude.{◌≡◌, ℕ, ◌<◌, List, [], ◌∷◌, ◌++◌, length, Option, option_map, slice_get, position, is_some, if◌then◌else◌}
use Rattle.std.specs.Str.{bytes_eq}
use Rattle.std.specs.FinMap.{from_entries}
use Rattle.dl_files.specs.Contents.{Contents}

-- a name and its bytes
abbrev pub Entry : Type 0
Entry = List ℕ × List ℕ

-- the list as contents
abbrev pub contents_of : List Entry → Contents
contents_of entries = from_entries entries

-- the place of a name
abbrev pub place_of : List ℕ → List Entry → Option ℕ
place_of name entries = position (λ (e : Entry). bytes_eq e.0 name) entries

-- the name at a place
abbrev pub name_at : List Entry → ℕ → Option (List ℕ)
name_at entries i = option_map (λ (e : Entry). e.0) (slice_get entries i)

-- the bytes at a place
abbrev pub bytes_at : List Entry → ℕ → Option (List ℕ)
bytes_at entries i = option_map (λ (e : Entry). e.1) (slice_get entries i)

-- the list with the name in it: a new name comes last and has no bytes
abbrev pub with_name : List ℕ → List Entry → List Entry
with_name name entries = if is_some (place_of name entries) then entries else entries ++ (name, []) ∷ []

-- each name that was there stays at its place
abbrev pub NamesStay : List Entry → List Entry → Type 0
NamesStay old new = (i : ℕ) → i < length old → name_at new i ≡ name_at old i
