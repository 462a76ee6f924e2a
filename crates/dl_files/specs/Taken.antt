-- What a sink took, if it is known: a list of bytes.
use Rattle.std.specs.Prelude.{ℕ, List, ◌++◌, take, Option, option_map}

-- what was taken once the first n bytes of a piece are taken too
abbrev pub with_taken : ℕ → List ℕ → Option (List ℕ) → Option (List ℕ)
with_taken n piece known = option_map (λ taken. taken ++ take n piece) known
