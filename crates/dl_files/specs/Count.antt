-- A count that is kept in 64 bits and never falls.
use Rattle.std.specs.Prelude.{ℕ, ◌+◌, ◌-◌, ◌^◌, ◌≤◌, min, max}

-- the greatest count
abbrev pub greatest : ℕ
greatest = 2 ^ 64 - 1

-- the count after one more; the greatest count stays
abbrev pub next : ℕ → ℕ
next n = max n (min (n + 1) greatest)

-- the count rose; at its greatest it counts as risen in every call
abbrev pub Rose : ℕ → ℕ → Type 0
Rose old new = min (old + 1) greatest ≤ new
