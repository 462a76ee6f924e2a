-- Every replay is its log's play.
use Rattle.std.proofs.Common.{◌≡◌, ℕ, ◌<◌, inl, List, None, refl, sym, ap, subst, arith}
use Rattle.std.specs.Prelude.{option_map}
use Rattle.spec_play.specs.Progress.{position}
use Rattle.spec_play.specs.Plays.{Played}
use Rattle.spec_strata.specs.Standing.{stratum_begun}
use Rattle.spec_protocol.specs.declared.event.Event.{Event}
use Rattle.spec_sphere.specs.sphere.Spheres.{Cursor, Sphere}
use Rattle.spec_sphere.specs.sphere.Commits.{between}
use Rattle.spec_sphere.specs.sphere.Setups.{first_played, first_standing, replay_at, ReplaySetup, RoleSetup, IsReplayed, SphereSetup, sphere_as, sphere_of}
use Rattle.spec_protocol.specs.machine.Machine.{Setup}
use Rattle.spec_replay.specs.Following.{Follows}
use Rattle.spec_replay.specs.Promises.{IsReplay, ReplaysArePlays}
use Rattle.spec_replay.proofs.Intervals.{is-start}
use Rattle.spec_replay.proofs.Commits.Standing.{whole-stands}
use Rattle.spec_replay.proofs.Commits.Done.{Reaches}
use Rattle.spec_replay.proofs.Replays.Keeping.{after-stands}
use Rattle.spec_replay.proofs.Replays.Moved.{CanReplay, what-stands}

-- ---- the start

start_reaches : (asked : ReplaySetup) (z : ℕ) (image : SphereSetup) → 0 < asked.log.s → asked.strata ≡ None → image.role ≡ IsReplayed asked → Reaches asked (first_played image asked) (sphere_of z image)
start_reaches asked z image s none role =
    let start : Played = first_played image asked in
    let p : Sphere = replay_at asked start in
    let b : Cursor = between asked.log asked.interval (first_standing asked) (position start.progress) start.used start.now in
    let follows : Follows asked start p = record {
      cursor = b;
      role = refl;
      same_log = refl;
      same_interval = refl;
      progress = refl;
      used = refl;
      now = inl refl;
      ended = λ how e. e;
      state = whole-stands asked start p b s (is-start image asked).lives (record { memory = refl; threads = refl; total = refl; loads = refl });
    }
    in
    subst (λ (r : RoleSetup). Reaches asked start (sphere_as z image r)) (sym role) (record { follows = follows; within = omega arith; in_order = ap (option_map (λ strata. stratum_begun strata 0)) none })

-- ---- the promise

-- after every schedule a replayed sphere is in its log's play
pub replays_reach : (image : SphereSetup) (asked : ReplaySetup) (s : Setup) (es : List Event) (i : ℕ) (p : Sphere) → IsReplay image asked s es i p → asked.strata ≡ None → Reaches asked (first_played image asked) p
replays_reach image asked s es i p r none =
    let start : Played = first_played image asked in
    let c : CanReplay asked start = record { from = is-start image asked; standard = r.standard } in
    after-stands (Reaches asked start) image s es i p r.setup r.there
    (λ x j q is reaches moment what fits. what-stands asked start x j q c is reaches s.numbers moment what fits)
    (start_reaches asked s.numbers.s image r.standard none r.replays) r.shown

-- after every schedule a sphere replayed without strata has followed its log's play
pub replays_follow : ReplaysArePlays
replays_follow image asked s es i p r none = (replays_reach image asked s es i p r none).follows
