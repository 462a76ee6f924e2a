-- What a world holds that shows a run that is over: all that the run leaves, or the tail of what is recorded in epochs.
use Rattle.std.proofs.Common.{◌≡◌, ℕ, zero, suc, ◌+◌, ◌*◌, ◌%◌, ◌<◌, ◌≤◌, Bool, true, false, not, ◌&&◌, List, [], ◌∷◌, ◌++◌, length, drop, Option, Some, None, refl, sym, ap, ◌∙◌, subst, arith}
use Rattle.std.specs.Prelude.{slice_get, nat_eq}
use Rattle.std.proofs.Math.Nat.{zero-mod, zero-mul}
use Rattle.std.proofs.lemmas.Bool.{true≢false}
use Rattle.std.proofs.lemmas.Option.{none-some}
use Rattle.dl_account.specs.Account.{account_of}
use Rattle.dl_entry.specs.declared.End.{End}
use Rattle.dl_entry.specs.declared.Point.{Point}
use Rattle.spec_play.specs.Epochs.{Epoch, is_due}
use Rattle.spec_play.specs.Progress.{position}
use Rattle.spec_protocol.specs.declared.event.Event.{Event}
use Rattle.spec_protocol.specs.machine.Kept.{epoch_of, epochs_of, serial_until, tail_log}
use Rattle.spec_protocol.specs.machine.Logged.{sphere_in}
use Rattle.spec_sphere.specs.sphere.Epochs.{base_of}
use Rattle.spec_sphere.specs.sphere.Setups.{EpochSetup, RecordSetup, ReplaySetup, RoleSetup, IsPlain, IsRecorded, IsReplayed, SphereSetup}
use Rattle.spec_protocol.specs.machine.Machine.{Setup, world_of}
use Rattle.spec_sphere.specs.sphere.Spheres.{replays, Role, Record, Sphere}
use Rattle.spec_protocol.specs.machine.Serial.{serial}
use Rattle.spec_protocol.specs.machine.World.{World, sphere_at}
use Rattle.spec_protocol.specs.promises.Alike.{AreAlike, all_forgotten}
use Rattle.spec_sphere.specs.promises.Alike.{epochs_in, forgotten}
use Rattle.spec_protocol.specs.promises.Kept.{IsKept, IsKeptFrom, NoneIsDue, WillKeep}
use Rattle.spec_sphere.specs.promises.Kept.{is_due_in}
use Rattle.spec_protocol.specs.promises.Promises.{WillRecord, after}
use Rattle.spec_protocol.specs.promises.Sound.{IsWithinLimits}
use Rattle.spec_protocol.proofs.Alike.Good.{sphere-alike, spheres-alike}
use Rattle.spec_protocol.proofs.Alike.Whole.{same-position, same-whole}
use Rattle.spec_protocol.proofs.Kept.Due.{IsInLast, base-is, not-due}
use Rattle.spec_finishing.specs.Ending.{CanFinish, IsAtEnd}
use Rattle.spec_finishing.specs.Function.{finished, finishing_of}
use Rattle.spec_finishing.proofs.Ending.ShortRuns.{setups_finish}
use Rattle.spec_tail.specs.Tails.{Tail, state_of}
use Rattle.spec_run.specs.Runs.{points_of, counts_of, executed}
use Rattle.spec_run.specs.Tails.{base_in, tail_at, tail_of_points}
use Rattle.spec_run.specs.Texts.{account_as, recorded_account}
use Rattle.spec_run.specs.Promise.{ShowsRun, end_as, account_held, HoldsTail, HasRecorded, HasRole, IsDescribed, IsRunDescribed, RunsAreDescribed, SpheresAreDescribed}
use Rattle.spec_finishing.proofs.Ending.Played.{after_both}
use Rattle.spec_run.proofs.Described.{epochs_asked, IsKnown, known, IsThere, sphere-there, executed-is, whole-described}
use Rattle.spec_run.proofs.Tails.{base-within, has-size, keeps-some, sphere-then}

-- it is alike to the world in which nothing was given up
alike-finished : (s : Setup) (es : List Event) (w : World) → ShowsRun s es w → AreAlike w (finished s es)
alike-finished s es w shows = shows.shows.alike ∙ ap all_forgotten (after_both (world_of s) es (finishing_of s es))

-- ---- the whole run

-- it has the points, the replies and the devices of the run, and its spheres
pub runs_described : RunsAreDescribed
runs_described s es w is shows =
    let k : IsKnown s (finished s es) = known s es is in
    let same = alike-finished s es w shows in
    record {
      spheres = sym (spheres-alike w (finished s es) same) ∙ k.sizes;
      points = ap (λ (u : World). u.points) same;
      counts = ap (λ (u : World). u.counts) same;
      devices = ap (λ (u : World). u.devices) same ∙ k.devices;
      possible = k.possible;
    }

-- ---- a sphere that isn't recorded in epochs

no-epochs : (s : Setup) (es : List Event) (i : ℕ) (role : RoleSetup) (q : Sphere) → epochs_asked role ≡ None → HasRole s es i role q → epochs_in q.role ≡ None
no-epochs s es i IsPlain q none has = ap epochs_in has
no-epochs s es i (IsRecorded asked) q none has = ap epochs_in (subst (λ (o : Option EpochSetup). HasRecorded s es i asked o q) none has)
no-epochs s es i (IsReplayed asked) q none has = ap epochs_in has.1

described-whole : (s : Setup) (es : List Event) (w : World) (i : ℕ) (image : SphereSetup) → CanFinish s → ShowsRun s es w → slice_get s.spheres i ≡ Some image → epochs_asked image.role ≡ None → IsDescribed s es i image (sphere_at w i)
described-whole s es w i image can shows is none =
    let q : Sphere = sphere_at (finished s es) i in
    let d : IsDescribed s es i image q = whole-described s es i image can is none in
    let same : sphere_at w i ≡ q = same-whole (sphere_at w i) q (sphere-alike w (finished s es) i (alike-finished s es w shows)) (no-epochs s es i image.role q none d.role) in
    subst (IsDescribed s es i image) (sym same) d

-- ---- a sphere that is recorded in epochs

-- if no epoch is kept, one is due
none-kept : (given keep size n : ℕ) → 1 ≤ keep → (0 < given → 0 ≡ keep) → n ≤ (given + 0) * size → n ≡ 0
none-kept zero keep size n some all next = (let z : zero * size ≡ 0 = zero-mul size in omega (arith, next, z))
none-kept (suc m) keep size n some all next = (let h = all (omega arith) in absurd (omega (arith, h, some)))

due-first : (n size : ℕ) → n ≡ 0 → (nat_eq (n % size) 0 && true) ≡ true
due-first n size none = ap (λ (m : ℕ). nat_eq (m % size) 0 && true) none ∙ of-none size where
  of-none : (size : ℕ) → (nat_eq (0 % size) 0 && true) ≡ true
  of-none zero = refl
  of-none (suc m) = ap (λ (r : ℕ). nat_eq r 0 && true) (zero-mod (suc m))

module _ (s : Setup) (es : List Event) (w : World) (i : ℕ) (image : SphereSetup) (asked : RecordSetup) (x : EpochSetup) (limits : IsWithinLimits s) (shows : ShowsRun s es w) (will : WillKeep s i image asked x) where
  abbrev p : Sphere
  p = sphere_at w i

  abbrev whole : Sphere
  whole = sphere_in (executed s es) i

  abbrev ps : List Point
  ps = points_of s es

  can : CanFinish s
  can = setups_finish s limits

  abbrev hs : List Event
  hs = es ++ finishing_of s es

  points : (after s hs).points ≡ ps
  points = ap (λ (u : World). u.points) (after_both (world_of s) es (finishing_of s es))

  kept-so : IsKept s ps i asked x p
  kept-so = subst (λ (qs : List Point). IsKept s qs i asked x p) points (shows.shows.kept i image asked x will)

  alike : forgotten p ≡ forgotten whole
  alike =
      let t = sphere-there s es i image can will.there in
      let k = known s es can.setup in
      let records : WillRecord s i image asked = record { setup = can.setup; there = will.there; role = will.role } in
      let live : replays t.0.role ≡ false = ap (λ (q : Sphere). replays q.role) (sym t.1.at) ∙ ap replays (k.logs i image asked records) in
      sphere-alike w (finished s es) i (alike-finished s es w shows) ∙ ap forgotten (t.1.at ∙ sym (executed-is s es i image t.0 can t.1 live))

  few : position p.progress ≡ position whole.progress
  few = same-position p whole alike

  keeps : 1 ≤ x.keep
  keeps = keeps-some s.numbers.s image.role asked x will.role will.epochs (limits.images i image will.there).role

  -- the first n commits are done there
  done-until : (n : ℕ) → n ≤ position whole.progress → position (sphere_in (serial_until s ps i n) i).progress ≡ n
  done-until n l =
      subst (λ (qs : List Point). position (sphere_in (serial_until s qs i n) i).progress ≡ n) points
      (sphere-then s hs i image asked (record { setup = can.setup; there = will.there; role = will.role }) n
      (let e = ap (λ (qs : List Point). position (sphere_in (serial s qs) i).progress) points in omega (arith, l, e)))

  some-size : 1 ≤ x.size
  some-size = has-size s.numbers.s image.role asked x will.role will.epochs (limits.images i image will.there).role

  -- the earliest kept epoch begins at the base
  base-so : (given kept : ℕ) → IsKeptFrom s ps i asked x given kept p → given * x.size ≡ base_in whole x
  base-so given kept k =
      let n = position p.progress in
      let last : IsInLast x.size (given + kept) n = record { next = k.next; last = k.last } in
      let none : is_due n (record { size = x.size; keep = x.keep; begun = epochs_of s ps i x.size (given * x.size) kept }) ≡ false = sym (ap (λ (r : Role). is_due_in r n) k.role) ∙ shows.still i in
      let later : n < (given + kept) * x.size = not-due s ps i x.size n some-size (λ m l. done-until m (omega (arith, l, few))) given kept x.keep last none in
      base-is given kept x.size x.keep n some-size k.few k.all last later ∙ ap (λ (c : ℕ). base_of c x.size x.keep) few

  tail-held : (given kept : ℕ) → IsKeptFrom s ps i asked x given kept p → HoldsTail (tail_of_points s es i asked x) p
  tail-held given zero k =
      let none = none-kept given x.keep x.size (position p.progress) keeps k.all k.next in
      let due : is_due_in p.role (position p.progress) ≡ true = ap (λ (r : Role). is_due_in r (position p.progress)) k.role ∙ due-first (position p.progress) x.size none in
      absurd (true≢false (sym due ∙ shows.still i))
  tail-held given (suc m) k =
      let n = given * x.size in
      let base : n ≡ base_in whole x = base-so given (suc m) k in
      let there : position (sphere_in (serial_until s ps i n) i).progress ≡ n = done-until n (let l = base-within (position whole.progress) x keeps in omega (arith, base, l)) in
      record {
        size = x.size;
        keep = x.keep;
        earliest = epoch_of s ps i n;
        later = epochs_of s ps i x.size (n + x.size) m;
        role = k.role ∙ ap (λ (b : ℕ). Record (record { log = tail_log s ps i asked b; epochs = Some (record { size = x.size; keep = x.keep; begun = epoch_of s ps i n ∷ epochs_of s ps i x.size (n + x.size) m }) })) base;
        state = ap (λ (c : ℕ). record (state_of (tail_at s ps i asked n)) { commits = c }) there ∙ ap (λ (b : ℕ). state_of (tail_at s ps i asked b)) base;
        first = k.first ∙ base;
      }

  account-held : (given kept : ℕ) → IsKeptFrom s ps i asked x given kept p → account_held p ≡ recorded_account whole (Some x)
  account-held given kept k =
      let base : given * x.size ≡ base_in whole x = base-so given kept k in
      let first : p.progress.first ≡ base_in whole x = k.first ∙ base in
      let commits = k.commits ∙ ap (λ (n : ℕ). drop n whole.progress.commits) base in
      ap (λ (r : Role). account_of p.progress.first p.progress.commits p.threads p.progress.request p.memory (end_as r (position p.progress))) k.role
      ∙ (λ j. account_of (first j) (commits j) (alike j).threads (alike j).progress.request (alike j).memory (End.Complete (few j)))

  described-kept : IsDescribed s es i image p
  described-kept =
      let k = kept-so.2 in
      let live : replays p.role ≡ false = ap replays k.role in
      record {
        role = subst (λ (r : RoleSetup). HasRole s es i r p) (sym will.role) (subst (λ (o : Option EpochSetup). HasRecorded s es i asked o p) (sym will.epochs) (tail-held kept-so.0 kept-so.1 k));
        account = account-held kept-so.0 kept-so.1 k ∙ ap (recorded_account whole) (sym will.epochs) ∙ ap (account_as image whole) (sym will.role);
        commits = λ live. few;
        over = subst IsAtEnd (sym k.role) tt;
        played = λ replay b role is. absurd (true≢false (sym (ap replays is) ∙ live));
        done = λ replay role. absurd (other will.role role);
      } where
        other : {r : RoleSetup} {replay : ReplaySetup} → r ≡ IsRecorded asked → r ≡ IsReplayed replay → ⊥
        other a b = (let h : IsRecorded asked ≡ IsReplayed _ = sym a ∙ b in cc)

-- ---- any sphere

by-epochs : (s : Setup) (es : List Event) (w : World) (i : ℕ) (image : SphereSetup) (role : RoleSetup) (o : Option EpochSetup) → IsWithinLimits s → ShowsRun s es w → slice_get s.spheres i ≡ Some image
    → image.role ≡ role → epochs_asked role ≡ o → IsDescribed s es i image (sphere_at w i)
by-epochs s es w i image role None limits shows is told none = described-whole s es w i image (setups_finish s limits) shows is (ap epochs_asked told ∙ none)
by-epochs s es w i image IsPlain (Some x) limits shows is told some = absurd (none-some x some)
by-epochs s es w i image (IsRecorded asked) (Some x) limits shows is told some =
    described-kept s es w i image asked x limits shows (record { there = is; role = told; epochs = some })
by-epochs s es w i image (IsReplayed asked) (Some x) limits shows is told some = absurd (none-some x some)

-- so it is of each sphere, whatever its role
pub spheres_described : SpheresAreDescribed
spheres_described s es w i image limits shows is = by-epochs s es w i image image.role (epochs_asked image.role) limits shows is refl refl
