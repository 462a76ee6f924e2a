-- A row of slots.
use Rattle.std.specs.Prelude.{◌≡◌, ℕ, ◌≤◌, Bool, List, length, Option, slice_set}
use Rattle.std.specs.List.{list_all}
use Rattle.spec_engine.specs.Flights.{Flight, Flights, is_none}

-- there are from 1 to 8 cores, and from 1 to 8 slots; and it is known whether each slot is free
pub record AreSlots (cores : ℕ) (slots : List (Option Flight)) (is_empty : Bool) : Type 0 where
  pub some_core : 1 ≤ cores
  pub most_cores : cores ≤ 8
  pub some_slot : 1 ≤ length slots
  pub most_slots : length slots ≤ 8
  pub known : is_empty ≡ list_all is_none slots

-- with this in slot k
abbrev pub set_slot : (k : ℕ) → Option Flight → Flights → Flights
set_slot k slot f = record f { slots = slice_set f.slots k slot }
