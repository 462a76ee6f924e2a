-- The work of a run bounds what is left after its schedule.
use Rattle.std.proofs.Common.{◌≡◌, ℕ, zero, suc, ◌+◌, ◌*◌, ◌≤◌, List, [], ◌∷◌, ◌++◌, map, replicate, Option, Some, None, refl, sym, ap, ◌∙◌, subst, arith}
use Rattle.std.specs.Prelude.{option_map}
use Rattle.spec_log.specs.declared.LogParts.{LogParts}
use Rattle.spec_play.specs.Progress.{position}
use Rattle.spec_play.specs.Plays.{Played}
use Rattle.spec_strata.specs.declared.stratum.Stratum.{Stratum}
use Rattle.spec_strata.specs.Standing.{stratum_begun}
use Rattle.spec_protocol.specs.declared.event.Event.{Event}
use Rattle.spec_sphere.specs.sphere.Spheres.{Cursor}
use Rattle.spec_protocol.specs.machine.World.{Numbers, World, Move}
use Rattle.spec_sphere.specs.sphere.Commits.{between}
use Rattle.spec_sphere.specs.sphere.Setups.{first_played, first_standing, RoleSetup, IsPlain, IsRecorded, IsReplayed, SphereSetup, sphere_as, sphere_of}
use Rattle.spec_protocol.specs.machine.Machine.{Setup, world_of, happens, world_after, with_move, moves}
use Rattle.spec_protocol.specs.machine.Serial.{SerialState, serial_start}
use Rattle.spec_protocol.specs.machine.Shown.{shown_of}
use Rattle.spec_protocol.specs.machine.Moves.{do_if}
use Rattle.spec_protocol.specs.promises.Promises.{after}
use Rattle.spec_protocol.proofs.Invariants.Schedules.{happens-preserved, start-shown}
use Rattle.spec_replay.proofs.Intervals.{commits_of}
use Rattle.spec_finishing.specs.Work.{commits_work, setup_work, plays_work, moves_work}
use Rattle.spec_finishing.specs.Rank.{left_in, replay_left, price, flights_rank, spheres_rank, potential}
use Rattle.spec_finishing.specs.Ending.{work, CanFinish}
use Rattle.spec_finishing.proofs.Left.Rows.{sphere_rank}
use Rattle.spec_finishing.proofs.Left.Pricing.{price-none, price-sum, price-least}
use Rattle.spec_finishing.proofs.Paying.Plays.{left-most}
use Rattle.spec_finishing.proofs.Ending.Knowing.{Known, known-after, after-event}
use Rattle.spec_finishing.proofs.Left.Spending.{if_work, happens-spends}

-- ---- the start

free_none : (c n : ℕ) → flights_rank c (replicate n None) ≡ 0
free_none c zero = refl
free_none c (suc n) = let r = free_none c n in omega (arith, r)

start_has : (log : LogParts) (x : Played) (n : ℕ) (asked : Option (List Stratum)) → left_in log x n 0 (option_map (λ strata. stratum_begun strata 0) asked) 0 ≤ commits_work log x 0 n
start_has log x n None = omega arith
start_has log x n (Some strata) = omega arith

start_role : (c s : ℕ) (image : SphereSetup) (r : RoleSetup) → sphere_rank c image (sphere_as s image r) ≤ price c (setup_work image r)
start_role c s image IsPlain = omega arith
start_role c s image (IsRecorded asked) = omega arith
start_role c s image (IsReplayed asked) =
    let x : Played = first_played image asked in
    let n : ℕ = commits_of asked in
    let b : Cursor = between asked.log asked.interval (first_standing asked) (position x.progress) x.used x.now in
    let l = left-most image b 0 in
    let e = start_has asked.log x n asked.strata in
    price-least c (replay_left image b 0) (commits_work asked.log x 0 n) (omega (arith, l, e))

start_spheres : (c s : ℕ) (images : List SphereSetup) → spheres_rank c images (map (sphere_of s) images) ≤ price c (plays_work images)
start_spheres c s [] = let e = price-none c in omega (arith, e)
start_spheres c s (image ∷ images) =
    let h = start_role c s image image.role in
    let r = start_spheres c s images in
    let e = price-sum c (setup_work image image.role) (plays_work images) in
    omega (arith, h, r, e)

start_potential : (s : Setup) → potential s (world_of s) ≤ price s.cores (plays_work s.spheres)
start_potential s =
    let e = free_none s.cores s.window in let r = start_spheres s.cores s.numbers.s s.spheres in omega (arith, e, r)

-- ---- a schedule

with_work : (z : Numbers) (x : SerialState) (o : Option Move) (ms : List Move) → moves_work z x (with_move o ms) ≡ if_work x o + moves_work z (do_if z x o) ms
with_work z x None ms = omega arith
with_work z x (Some m) ms = refl

-- the work of a list of events is that of the first one's move and that of the others from its world
pub event_work : (s : Setup) (w : World) (e : Event) (es : List Event) → Known s w → let a = happens w e in moves_work s.numbers (shown_of w) (moves w (e ∷ es)) ≡ if_work (shown_of w) a.move + moves_work s.numbers (shown_of a.world) (moves a.world es)
event_work s w e es known =
    let a = happens w e in
    let kept = happens-preserved w e known.good in
    let x = if_work (shown_of w) a.move in
    with_work s.numbers (shown_of w) a.move (moves a.world es)
    ∙ ap (λ (z : Numbers). x + moves_work s.numbers (do_if z (shown_of w) a.move) (moves a.world es)) (sym known.sizes.numbers)
    ∙ ap (λ (y : SerialState). x + moves_work s.numbers y (moves a.world es)) (sym kept.whole)

abbrev Bounded : Setup → World → List Event → Type 0
Bounded s w es = potential s (world_after w es) ≤ potential s w + price s.cores (moves_work s.numbers (shown_of w) (moves w es))

schedule_bounded : (s : Setup) → CanFinish s → (before es : List Event) → Bounded s (after s before) es
schedule_bounded s can before [] = omega arith
schedule_bounded s can before (e ∷ es) =
    let w = after s before in
    let a = happens w e in
    let known = known-after s before can in
    let r = subst (λ (v : World). Bounded s v es) (after-event (world_of s) before e) (schedule_bounded s can (before ++ e ∷ []) es) in
    let spends = happens-spends s w e known in
    let split = ap (price s.cores) (event_work s w e es known) ∙ price-sum s.cores (if_work (shown_of w) a.move) (moves_work s.numbers (shown_of a.world) (moves a.world es)) in
    omega (arith, r, spends, split)

-- what is left after a schedule is bounded by the work of the run
pub potential-bounded : (s : Setup) (es : List Event) → CanFinish s → potential s (after s es) ≤ (s.cores + 6) * work s es
unfolding price
potential-bounded s es can =
    let r = schedule_bounded s can [] es in
    let start = start_potential s in
    let same = ap (λ (x : SerialState). price s.cores (moves_work s.numbers x (moves (world_of s) es))) (start-shown s) in
    let sum = price-sum s.cores (plays_work s.spheres) (moves_work s.numbers (serial_start s) (moves (world_of s) es)) in
    omega (arith, r, start, same, sum)
