-- What a table holds at a key, and whether it has other keys.
use Rattle.std.specs.Prelude.{ℕ, ℤ, Bool, true, ◌&&◌, List, [], ◌∷◌, Option}
use Rattle.toml.specs.Data.{Data, Items, item, no_items, Members, no_members, member, get_member, as_integer, as_str}
use Rattle.dl_plan.specs.Names.{is_one_of}
use Rattle.dl_plan.specs.Optional.{◌>>=◌, if_there}

-- the whole number at the key, if one stands there
abbrev pub number : Members → List ℕ → Option ℤ
number ms key = get_member key ms >>= as_integer

-- the text at the key, if one stands there
abbrev pub text : Members → List ℕ → Option (List ℕ)
text ms key = get_member key ms >>= as_str

-- the whole number at a key that may be absent: None where a value of another type stands there
abbrev pub optional_number : Members → List ℕ → Option (Option ℤ)
optional_number ms key = if_there as_integer (get_member key ms)

-- the text at a key that may be absent: None where a value of another type stands there
abbrev pub optional_text : Members → List ℕ → Option (Option (List ℕ))
optional_text ms key = if_there as_str (get_member key ms)

-- the items of an array, as a list
abbrev pub list_of : Items → List Data
list_of no_items = []
list_of (item d ds) = d ∷ list_of ds

-- the table has no key but these
abbrev pub has_only : List (List ℕ) → Members → Bool
has_only keys no_members = true
has_only keys (member key d ms) = is_one_of keys key && has_only keys ms
