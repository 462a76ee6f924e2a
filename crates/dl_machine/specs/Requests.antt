-- What a core asks for.
use Rattle.std.specs.Prelude.{◌≡◌, ℕ, true, false, Option, Some, option_map}
use Rattle.spec_engine.specs.declared.answers.How.{How}
use Rattle.spec_engine.specs.Flights.{at}
use Rattle.spec_sphere.specs.sphere.Spheres.{replays}
use Rattle.spec_protocol.specs.machine.World.{Occupant, World, sphere_at}
use Rattle.dl_machine.specs.declared.one_core.Held.{Held as Seen}
use Rattle.dl_machine.specs.Cores.{seen, waits}

-- core c holds this
abbrev pub Holds : World → (core : ℕ) → Seen → Type 0
Holds w c h = option_map seen (at w.cores c) ≡ Some h

abbrev pub closed_by : Occupant → Option How
closed_by h = h.chunk.closed

-- its older chunk was closed so
abbrev pub IsClosedBy : World → (core : ℕ) → How → Type 0
IsClosedBy w c how = option_map closed_by (at w.cores c) ≡ Some (Some how)

-- a step runs one of its chunks: the older is open, or else it doesn't wait
abbrev pub Runs : World → (core : ℕ) → Seen → Type 0
Runs w c held =
    held.closed ≡ true
    → option_map (waits w.numbers.depth (replays (sphere_at w held.sphere).role)) (at w.cores c) ≡ Some false
