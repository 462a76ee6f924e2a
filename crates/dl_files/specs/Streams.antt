-- What readers have left, if it is known.
use Rattle.std.specs.Prelude.{ℕ, ◌<◌, ◌≤◌, ◌^◌, List, length, Option, IfSome}

-- more than 2^30 bytes are left
abbrev pub IsLarge : (left : Option (List ℕ)) → Type 0
IsLarge left = IfSome left (λ bytes. 2 ^ 30 < length bytes)

-- at most 2^30 bytes are left
abbrev pub IsSmall : (left : Option (List ℕ)) → Type 0
IsSmall left = IfSome left (λ bytes. length bytes ≤ 2 ^ 30)
