-- Schedules that are drawn from a seed: each random word of the seed's stream 1 stands for one event.
use Rattle.std.specs.Prelude.{ℕ, zero, suc, ◌/◌, ◌%◌, nat_le, nat_eq, List, [], ◌∷◌, if◌then◌else◌}
use Rattle.rand_pcg.specs.Lcg.{Lcg, started, increment_of}
use Rattle.rand_pcg.specs.Pcg.{multiplier_64, pcg32}
use Rattle.spec_protocol.specs.declared.event.Event.{Event}

-- the actors and the value of a word, each in bits of its own
abbrev pub core_in : ℕ → ℕ
core_in w = w / 64 % 8

abbrev pub sphere_in : ℕ → ℕ
sphere_in w = w / 512 % 8

abbrev pub thread_in : ℕ → ℕ
thread_in w = w / 4096 % 16

abbrev pub slot_in : ℕ → ℕ
slot_in w = w / 65536 % 8

abbrev pub value_in : ℕ → ℕ
value_in w = w / 524288

-- the event of a word, by its lowest six bits: of their 64 values 40 are steps, 6 asks, 6 drains, 5 delivers and 3 retires,
-- and one each is a place, a cut, a raise and a DMA
abbrev pub drawn : ℕ → Event
drawn w =
    let kind = w % 64 in
    if nat_le kind 39 then Event.Step (core_in w)
    else if nat_le kind 45 then Event.Ask (core_in w)
    else if nat_le kind 51 then Event.Drain (slot_in w)
    else if nat_le kind 56 then Event.Deliver (core_in w) (slot_in w)
    else if nat_le kind 59 then Event.Retire (slot_in w)
    else if nat_eq kind 60 then Event.Place (core_in w) (sphere_in w) (thread_in w)
    else if nat_eq kind 61 then Event.Cut (core_in w)
    else if nat_eq kind 62 then Event.Raise (sphere_in w) (thread_in w) (value_in w)
    else Event.Dma (sphere_in w)

-- the state of the random words at the start of a seed's schedule
abbrev pub seeded : (seed : ℕ) → Lcg
seeded seed = started 64 multiplier_64 seed (increment_of 64 1)

-- the next n events from there
unfoldable pub schedule : (n : ℕ) → Lcg → List Event
schedule zero g = []
schedule (suc n) g = drawn (pcg32 g).0 ∷ schedule n (pcg32 g).1
