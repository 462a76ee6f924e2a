-- What is left to do before a world is finished, as a number that each event of finishing reduces.
use Rattle.std.specs.Prelude.{ℕ, zero, suc, ◌+◌, ◌-◌, ◌*◌, List, [], ◌∷◌, length, slice_index_or, Option, Some, None, if◌then◌else◌}
use Rattle.dl_entry.specs.declared.Actor.{Actor}
use Rattle.spec_log.specs.declared.LogParts.{LogParts}
use Rattle.spec_play.specs.Plays.{Played, plays}
use Rattle.spec_play.specs.Intervals.{commits_in}
use Rattle.spec_strata.specs.Costs.{stratum_cost}
use Rattle.spec_strata.specs.Standing.{Standing}
use Rattle.spec_engine.specs.Flights.{Flight, at, told_at}
use Rattle.spec_engine.specs.Chunks.{is_open}
use Rattle.spec_sphere.specs.sphere.Spheres.{Cursor, Role, Plain, Record, Replay, Sphere, is_over}
use Rattle.spec_protocol.specs.machine.World.{World, Occupant, core_of}
use Rattle.spec_sphere.specs.sphere.Setups.{first_played, ReplaySetup, SphereSetup}
use Rattle.spec_protocol.specs.machine.Machine.{Setup}
use Rattle.spec_protocol.specs.machine.Finishing.{SphereTurn, least, standing}
use Rattle.spec_finishing.specs.Work.{commits_work}

-- ---- flights

-- how many of the first n cores were not told
abbrev pub untold_cores : (n told : ℕ) → ℕ
untold_cores zero t = 0
untold_cores (suc n) t = (if told_at t n then 0 else 1) + untold_cores n t

-- one, the words left, and the cores that were not told
abbrev pub flight_rank : (cores : ℕ) → Option Flight → ℕ
flight_rank cores None = 0
flight_rank cores (Some f) = suc (length f.words + untold_cores cores f.told)

abbrev pub flights_rank : (cores : ℕ) → List (Option Flight) → ℕ
flights_rank cores [] = 0
flights_rank cores (slot ∷ slots) = flight_rank cores slot + flights_rank cores slots

-- ---- replays

-- the work that n commits of a play have left after the first i of them and that many instructions in pieces of the next:
-- all of it minus theirs
abbrev pub play_left : LogParts → Played → (n i total : ℕ) → ℕ
play_left log y n i total = commits_work log y 0 n - commits_work log y 0 i - total

-- the commits that a sphere is asked to replay, as its cursor keeps them: in which strata they are makes no difference to their
-- play
abbrev pub asked_of : Cursor → ReplaySetup
asked_of b = record { log = b.log; interval = b.interval; strata = None }

-- in strata: all of it, minus the strata before the present one, minus what is done of that
abbrev pub strata_left : LogParts → Played → (n : ℕ) → Standing → (total : ℕ) → ℕ
strata_left log y n x total =
    play_left log y n x.before (stratum_cost log (plays log y x.before) (λ k. slice_index_or x.done k 0) + total)

abbrev pub left_in : LogParts → Played → (n i : ℕ) → Option Standing → (total : ℕ) → ℕ
left_in log y n i None total = play_left log y n i total
left_in log y n i (Some x) total = strata_left log y n x total

-- what a replay of the image has left after it has done that many commits: nothing if it has stopped
unfoldable pub replay_left : SphereSetup → Cursor → (commits : ℕ) → ℕ
replay_left image b i =
    if is_over b.now then 0
    else left_in b.log (first_played image (asked_of b)) (commits_in b.log.count b.interval) i b.strata b.total

-- how many events there may be for that much work
unfoldable pub price : (cores work : ℕ) → ℕ
price cores work = (cores + 6) * work

abbrev pub role_rank : (cores : ℕ) → SphereSetup → Sphere → Role → ℕ
role_rank cores image p Plain = 0
role_rank cores image p (Record recording) = 0
role_rank cores image p (Replay b) = price cores (replay_left image b (length p.progress.commits))

-- of the spheres that began as these images
abbrev pub spheres_rank : (cores : ℕ) → List SphereSetup → List Sphere → ℕ
spheres_rank cores [] ps = 0
spheres_rank cores (image ∷ images) [] = 0
spheres_rank cores (image ∷ images) (p ∷ ps) = role_rank cores image p p.role + spheres_rank cores images ps

-- of flights and replays
abbrev pub potential : Setup → World → ℕ
potential s w = flights_rank s.cores w.slots + spheres_rank s.cores s.spheres w.spheres

-- ---- what is under way

-- one if the thread is on a core, plus its chunk's instructions, plus one if the chunk is closed
abbrev pub held_under_way : Option Occupant → ℕ
held_under_way None = 0
held_under_way (Some h) = suc (h.chunk.done.n + (if is_open h.chunk then 0 else 1))

abbrev pub core_under_way : World → Option ℕ → ℕ
core_under_way w None = 0
core_under_way w (Some c) = held_under_way (at w.cores c)

abbrev pub actor_under_way : World → (i : ℕ) → Actor → ℕ
actor_under_way w i Actor.Dma = 0
actor_under_way w i (Actor.Thread k) = core_under_way w (core_of w i k)

abbrev pub turn_under_way : World → Option SphereTurn → ℕ
turn_under_way w None = 0
turn_under_way w (Some who) = actor_under_way w who.sphere who.actor

abbrev pub standing_under_way : World → Option ℕ → ℕ
standing_under_way w (Some k) = 0
standing_under_way w None = turn_under_way w (least 0 w.spheres)

-- if no flight is left: of the thread whose turn it is, in the lowest-numbered replay that still goes on
unfoldable pub under_way : World → ℕ
under_way w = standing_under_way w (standing w)

-- ---- both

abbrev pub rank : Setup → World → ℕ
rank s w = potential s w - under_way w
