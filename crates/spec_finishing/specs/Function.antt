-- Finishing as a function of the world: so the outcome of a run is a function of its setup and its schedule.
use Rattle.std.specs.Prelude.{ℕ, zero, suc, ◌+◌, ◌*◌, ◌^◌, ◌<◌, ◌≤◌, List, [], ◌∷◌, length, Some, None}
use Rattle.spec_protocol.specs.declared.event.Event.{Event}
use Rattle.spec_protocol.specs.machine.World.{World}
use Rattle.spec_protocol.specs.machine.Machine.{Setup, happens, world_after}
use Rattle.spec_protocol.specs.machine.Finishing.{next}
use Rattle.spec_protocol.specs.promises.Promises.{after}
use Rattle.spec_protocol.specs.promises.Sound.{IsWithinLimits}
use Rattle.spec_finishing.specs.Ending.{work, Ends, CanFinish}

-- the next events, each after the one before, until none is left or the fuel is used up
abbrev pub finishing : (fuel : ℕ) → World → List Event
finishing zero w = []
finishing (suc n) w = elim (next w) [ None ↦ [] | Some e ↦ e ∷ finishing n (happens w e).world ]

-- at most this many events finish a run
abbrev pub most_events : Setup → List Event → ℕ
most_events s es = (s.cores + 6) * work s es

-- the events that finish what a schedule leaves, and the world after them, with the points and the replies of the whole run
abbrev pub finishing_of : Setup → (schedule : List Event) → List Event
finishing_of s es = finishing (most_events s es) (after s es)

abbrev pub finished : Setup → (schedule : List Event) → World
finished s es = world_after (after s es) (finishing_of s es)

-- with the bound, or more, as the fuel, these are the events that finish the run: all that is promised of them holds
abbrev pub FinishingIsAFunction : Type 0
FinishingIsAFunction =
    (s : Setup) (es : List Event) (fuel : ℕ)
    → CanFinish s
    → most_events s es ≤ fuel
    → Ends s es (finishing fuel (after s es))

-- ---- the bound

-- within the limits of a setup, a schedule of up to 2^32 events and those that finish it are together fewer than 2^63
abbrev pub RunsAreShort : Type 0
RunsAreShort =
    (s : Setup) (es : List Event)
    → IsWithinLimits s
    → length es ≤ 2 ^ 32
    → length es + most_events s es < 2 ^ 63

-- every setup within its limits can be finished
abbrev pub SetupsCanFinish : Type 0
SetupsCanFinish = (s : Setup) → IsWithinLimits s → CanFinish s
