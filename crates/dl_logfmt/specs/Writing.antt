-- What is left of a log that is being written.
use Rattle.std.specs.Prelude.{◌≡◌, ℕ, ◌<◌, Bool, true, false, List, [], ◌++◌, length, Option, Some, None}
use Rattle.std.specs.List.{flat_map}
use Rattle.dl_entry.specs.declared.actor.Actor.{Actor}
use Rattle.spec_log.specs.Bytes.{section, order_bytes, actor_bytes}

-- the bytes of a section from here on: its count, unless that is begun, and its entries
abbrev pub section_left : {X : Type 0} → (X → List ℕ) → Bool → List X → List ℕ
section_left entry false entries = section entry entries
section_left entry true entries = flat_map entry entries

-- the bytes of the order from here on
abbrev pub order_left : (version : ℕ) → Bool → List Actor → List ℕ
order_left version false actors = order_bytes version actors
order_left version true actors = actor_bytes version actors

-- the first unit of what is left is begun, so that the others are left; at the end there is none
abbrev pub IsNextUnit : List ℕ → Option (List ℕ) → List ℕ → Type 0
IsNextUnit left (Some unit) behind = (left ≡ unit ++ behind) × (0 < length unit)
IsNextUnit left None behind = (left ≡ []) × (behind ≡ [])
