-- Tails of a recorded sphere's log: each is the one before it, without its earliest commits.
use Rattle.std.proofs.Common.{◌≡◌, ℕ, zero, suc, ◌+◌, ◌-◌, ◌≤◌, List, [], ◌∷◌, ◌++◌, length, Some, refl, sym, ap, ◌∙◌, subst, arith}
use Rattle.std.specs.Prelude.{slice_get}
use Rattle.std.proofs.lemmas.List.{append_assoc, length-append}
use Rattle.std.proofs.lemmas.Grind.{flat_map-append}
use Rattle.dl_entry.specs.declared.Input.{Input}
use Rattle.dl_entry.specs.declared.Point.{Point}
use Rattle.spec_log.specs.declared.LogParts.{LogParts}
use Rattle.spec_play.specs.Progress.{position}
use Rattle.spec_play.specs.States.{State}
use Rattle.spec_play.specs.Epochs.{log_from}
use Rattle.spec_protocol.specs.declared.event.Event.{Event}
use Rattle.spec_sphere.specs.sphere.Spheres.{Sphere}
use Rattle.spec_sphere.specs.sphere.Setups.{RecordSetup, IsRecorded, SphereSetup}
use Rattle.spec_protocol.specs.machine.Machine.{Setup}
use Rattle.spec_protocol.specs.machine.Serial.{SerialState, serial_start, do_points, serial, CanDoAll}
use Rattle.spec_sphere.specs.sphere.Logged.{Supplied, actors_of, listed, inputs_of, logged_after, logged}
use Rattle.spec_protocol.specs.machine.Logged.{sphere_in, supplied, done_in, logged_since}
use Rattle.spec_sphere.specs.sphere.Epochs.{state_in}
use Rattle.spec_sphere.specs.sphere.Kept.{points_until, points_since}
use Rattle.spec_protocol.specs.machine.Kept.{serial_until, epoch_of, supplied_since, tail_log}
use Rattle.spec_protocol.specs.promises.Promises.{after}
use Rattle.spec_protocol.specs.promises.Kept.{TailsAreOfPoints}
use Rattle.spec_sphere.proofs.Points.OneMore.{points_so}
use Rattle.spec_protocol.proofs.Points.Serial.{serial-after}
use Rattle.spec_protocol.proofs.Sound.Schedules.{setup-within}
use Rattle.spec_sphere.proofs.Kept.Cutting.{commits_among, among-append, until-since, among-until, until-later, since-later}
use Rattle.spec_protocol.proofs.Kept.Cutting.{do-append, supplied-append, told-commits}
use Rattle.spec_protocol.proofs.Kept.Base.{kept-so, sphere-holds, log-since}
use Rattle.spec_protocol.proofs.Points.Logs.{how_kept}

-- ---- of any points

-- up to n + m commits: the state is that after m more
pub until-state : (s : Setup) (ps : List Point) (i n m : ℕ) → serial_until s ps i (n + m) ≡ do_points (serial_until s ps i n) (points_until i m (points_since i n ps))
until-state s ps i n m =
    ap (do_points (serial_start s)) (until-later i n m ps) ∙ do-append (serial_start s) (points_until i n ps) (points_until i m (points_since i n ps))

-- the commits after the n-th are all others
pub among-since : (i n : ℕ) (ps : List Point) → n ≤ commits_among i ps → n + commits_among i (points_since i n ps) ≡ commits_among i ps
among-since i n ps l =
    let a = among-append i (points_until i n ps) (points_since i n ps) in
    let b = ap (commits_among i) (until-since i n ps) in
    let c = among-until i n ps l in
    omega arith

inputs_more : (cs ds : List Supplied) → length (inputs_of (cs ++ ds)) ≡ length (inputs_of cs) + length (inputs_of ds)
inputs_more cs ds = ap (λ (is : List Input). length is) (flat_map-append (λ (c : Supplied). listed c.input) cs ds) ∙ length-append (inputs_of cs) (inputs_of ds)

-- the inputs up to a later commit are those up to an earlier one and those between
pub inputs-until : (s : Setup) (ps : List Point) (i n m : ℕ) → (epoch_of s ps i (n + m)).inputs ≡ (epoch_of s ps i n).inputs + length (inputs_of (supplied i (serial_until s ps i n) (points_until i m (points_since i n ps))))
inputs-until s ps i n m =
    ap (λ (qs : List Point). length (inputs_of (supplied i (serial_start s) qs))) (until-later i n m ps)
    ∙ ap (λ (cs : List Supplied). length (inputs_of cs)) (supplied-append i (serial_start s) (points_until i n ps) (points_until i m (points_since i n ps)))
    ∙ inputs_more (supplied i (serial_start s) (points_until i n ps)) (supplied i (serial_until s ps i n) (points_until i m (points_since i n ps)))

-- ---- of a recorded sphere

module _ (s : Setup) (i : ℕ) (image : SphereSetup) (asked : RecordSetup) (there : slice_get s.spheres i ≡ Some image) (role : image.role ≡ IsRecorded asked) where
  -- it has done as many commits as are among the points
  pub done-among : (ps : List Point) → CanDoAll (serial_start s) ps → position (sphere_in (serial s ps) i).progress ≡ commits_among i ps
  done-among ps can =
      let k = sphere-holds (how_kept s asked) i (supplied i (serial_start s) ps) (serial s ps) (kept-so s i image asked there role ps can) in
      let a = k.place in
      let b = told-commits i (serial_start s) ps in
      omega arith

  -- a tail without its first m commits is the tail after them
  pub tail-next : (ps : List Point) (n m : ℕ) → CanDoAll (serial_start s) ps → n + m ≤ commits_among i ps
      → log_from m ((epoch_of s ps i (n + m)).inputs - (epoch_of s ps i n).inputs) (epoch_of s ps i (n + m)).state (tail_log s ps i asked n) ≡ tail_log s ps i asked (n + m)
  tail-next ps n m can l =
      let qs = points_until i n ps in
      let more = points_since i n ps in
      let ts = points_until i m more in
      let rs = points_since i m more in
      let y : SerialState = serial_until s ps i n in
      let z : SerialState = do_points y ts in
      let all : qs ++ (ts ++ rs) ≡ ps = ap (λ (xs : List Point). qs ++ xs) (until-since i m more) ∙ until-since i n ps in
      let there_ : serial_until s ps i (n + m) ≡ z = until-state s ps i n m in
      let cut = log-since s i image asked there role qs ts rs (subst (CanDoAll (serial_start s)) (sym all) can) asked.version asked.mode s.numbers.s in
      let count : length (actors_of (points_so (supplied i y ts))) ≡ m =
      told-commits i y ts ∙ among-until i m more (let a = among-since i n ps (omega (arith, l)) in omega (arith, l, a)) in
      let inputs : (epoch_of s ps i (n + m)).inputs - (epoch_of s ps i n).inputs ≡ length (inputs_of (supplied i y ts)) = (let a = inputs-until s ps i n m in omega arith) in
      (λ j. log_from (sym count j) (inputs j) (state_in (sphere_in (there_ j) i).memory (sphere_in (there_ j) i)) (logged_since asked.version asked.mode s.numbers.s y i (supplied i y (sym (until-since i m more) j))))
      ∙ cut
      ∙ (λ j. logged_since asked.version asked.mode s.numbers.s (sym there_ j) i (supplied i (sym there_ j) (sym (since-later i n m ps) j)))

  -- the tail after no commit is the whole log
  pub tail-whole : (ps : List Point) → tail_log s ps i asked 0 ≡ logged asked.version asked.mode s.numbers.s (supplied i (serial_start s) ps)
  tail-whole ps =
      let k = sphere-holds (how_kept s asked) i [] (serial_start s) (kept-so s i image asked there role [] tt) in
      let none : (j : ℕ) → done_in (serial_start s) i j ≡ 0 = (λ j. let h = k.commits j in omega arith) in
      let first : position (sphere_in (serial_start s) i).progress ≡ 0 = (let h = k.place in omega arith) in
      (λ h. logged_after asked.version asked.mode s.numbers.s (λ (j : ℕ). none j h) (first h) (supplied i (serial_start s) ps))

-- the whole log without what comes before an epoch is the tail from there on
pub tails_of_points : TailsAreOfPoints
tails_of_points s es i image asked n limits there role l =
    let ps = (after s es).points in
    let can = (serial-after s es (setup-within s limits)).possible in
    let e : 0 + n ≡ n = omega arith in
    let few : 0 + n ≤ commits_among i ps = (let d = done-among s i image asked there role ps can in omega (arith, l, d)) in
    let none : (epoch_of s ps i n).inputs ≡ (epoch_of s ps i n).inputs - 0 = omega arith in
    (λ j. log_from n (none j) (epoch_of s ps i n).state (sym (tail-whole s i image asked there role ps) j))
    ∙ (λ j. log_from n ((epoch_of s ps i (sym e j)).inputs - 0) (epoch_of s ps i (sym e j)).state (tail_log s ps i asked 0))
    ∙ tail-next s i image asked there role ps 0 n can few
    ∙ ap (tail_log s ps i asked) e
