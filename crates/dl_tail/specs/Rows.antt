-- A row of a memory, as it is written.
use Rattle.std.specs.Prelude.{ℕ, List, [], if◌then◌else◌}
use Rattle.spec_tail.specs.Bytes.{is_empty, row_bytes}

-- its bytes, unless it is empty
abbrev pub first_bytes : (number : ℕ) → (bytes : List ℕ) → List ℕ
first_bytes number bytes = if is_empty bytes then [] else row_bytes (record { number = number; bytes = bytes })

-- whether it is written, as a number
abbrev pub filled : (bytes : List ℕ) → ℕ
filled bytes = if is_empty bytes then 0 else 1
