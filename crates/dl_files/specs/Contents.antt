-- What files hold, if it is known: a finite map from names to bytes.
use Rattle.std.specs.Prelude.{◌≡◌, ◌≢◌, ℕ, ◌≤◌, List, [], ◌++◌, take, drop, Option, None, Some, IsSome, IfSome, option_map, unwrap_or}
use Rattle.std.specs.Ordering.{nat_cmp}
use Rattle.std.specs.Cmp.Lexicographic.{slice_cmp}
use Rattle.std.specs.FinMap.{FinMap, code, get, insert}
use Rattle.std.specs.Coded.{Coded, coded_ℕ, coded_list}
use Rattle.dl_files.specs.declared.beginning.Beginning.{Beginning}

-- names and bytes are lists of bytes
abbrev pub Contents : Type 0
Contents = FinMap (slice_cmp nat_cmp) (List ℕ)

-- contents are stored as their entries
abbrev pub contents_code : Coded Contents
contents_code = code (coded_list coded_ℕ) (coded_list coded_ℕ)

-- if known, these are the name's bytes
abbrev pub Holds : Option Contents → List ℕ → List ℕ → Type 0
Holds known name bytes = IfSome known (λ m. get m name ≡ Some bytes)

-- the name's bytes from an offset on, as many as fit in a piece of that size
abbrev pub part_of : Contents → (name : List ℕ) → (offset room : ℕ) → Option (List ℕ)
part_of m name offset room = option_map (λ bytes. take room (drop offset bytes)) (get m name)

-- if known, these are the name's bytes from an offset on, as many as fit in a piece of that size
abbrev pub HoldsAt : Option Contents → (name : List ℕ) → (offset room : ℕ) → (bytes : List ℕ) → Type 0
HoldsAt known name offset room bytes = IfSome known (λ m. part_of m name offset room ≡ Some bytes)

-- if known, the name is there
abbrev pub IsThere : Option Contents → List ℕ → Type 0
IsThere known name = IfSome known (λ m. IsSome (get m name))

-- if known, these are the first bytes of a name, as many as fit in a piece of that size, or all of them
abbrev pub Begins : Option Contents → (name : List ℕ) → (room : ℕ) → (piece : List ℕ) → Beginning → Type 0
Begins known name room piece (Beginning.Part n) = (n ≤ room) × HoldsAt known name 0 room (take n piece)
Begins known name room piece (Beginning.Whole bytes) = Holds known name bytes.items

-- the contents once the name holds these bytes
abbrev pub with_file : List ℕ → List ℕ → Option Contents → Option Contents
with_file name bytes known = option_map (λ m. insert m name bytes) known

-- the contents once these bytes follow those of the name, which is made if it isn't there
abbrev pub more : List ℕ → List ℕ → Contents → Contents
more name bytes m = insert m name (unwrap_or (get m name) [] ++ bytes)

-- the same, if known
abbrev pub with_more : List ℕ → List ℕ → Option Contents → Option Contents
with_more name bytes known = option_map (more name bytes) known

-- every other name holds what it held
abbrev pub SameBut : List ℕ → Option Contents → Option Contents → Type 0
SameBut name None None = Unit {0}
SameBut name (Some old) (Some new) = (other : List ℕ) → other ≢ name → get new other ≡ get old other
SameBut name _ _ = ⊥

-- if known, the last fault is at this name
abbrev pub IsLast : Option (List ℕ) → List ℕ → Type 0
IsLast last name = IfSome last (λ n. n ≡ name)
