-- A sphere that keeps the end of its log: what its points since the base tell of it.
use Rattle.std.proofs.Common.{◌≡◌, ℕ, zero, suc, ◌+◌, ◌*◌, ◌<◌, ◌≤◌, Bool, true, false, cond, List, [], ◌∷◌, ◌++◌, length, Option, Some, None, refl, sym, ap, ◌∙◌, subst, arith}
use Rattle.std.specs.Prelude.{slice_get, option_map, find}
use Rattle.std.specs.List.{flat_map}
use Rattle.std.proofs.lemmas.List.{length-append, map-append}
use Rattle.dl_entry.specs.Numbers.{most_threads}
use Rattle.dl_entry.specs.declared.Actor.{Actor}
use Rattle.dl_entry.specs.declared.Point.{Point}
use Rattle.spec_isa.specs.declared.thread.Parts.{Parts}
use Rattle.spec_log.specs.declared.Interrupt.{Interrupt}
use Rattle.spec_log.specs.Versions.{new_threads}
use Rattle.spec_play.specs.Progress.{position}
use Rattle.spec_play.specs.Epochs.{commits_of as done_by}
use Rattle.spec_play.specs.Verdicts.{interrupt_at}
use Rattle.spec_sphere.specs.sphere.Spheres.{Record, Sphere}
use Rattle.spec_sphere.specs.sphere.Setups.{EpochSetup, RecordSetup, IsRecorded, SphereSetup}
use Rattle.spec_protocol.specs.machine.Machine.{Setup}
use Rattle.spec_protocol.specs.machine.Serial.{SerialState, serial_start, do_points, CanDoAll}
use Rattle.spec_sphere.specs.sphere.Logged.{Supplied, actors_of, interrupts_of, threads, all_interrupts}
use Rattle.spec_protocol.specs.machine.Logged.{sphere_in, supplied, done_in}
use Rattle.spec_sphere.specs.sphere.Kept.{points_until, points_since}
use Rattle.spec_protocol.specs.machine.Kept.{serial_until, epochs_of, supplied_since}
use Rattle.spec_sphere.specs.promises.Sound.{AreFresh}
use Rattle.spec_sphere.proofs.Logs.Inserting.{is_of_moment, found_first}
use Rattle.spec_sphere.proofs.Logs.Lookups.{none-there, count-append}
use Rattle.spec_sphere.specs.promises.Standing.{count_of}
use Rattle.spec_sphere.proofs.Logs.Entries.{find_parts, part-none, threads_from}
use Rattle.spec_sphere.proofs.Points.OneMore.{points_so, commits_of, actors-append, interrupts-append}
use Rattle.spec_sphere.proofs.Points.KeptLogs.{Keeping, log_by, keeping, Keeps}
use Rattle.spec_protocol.proofs.Points.Logs.{how_kept}
use Rattle.spec_sphere.proofs.Kept.Cutting.{until-since}
use Rattle.spec_protocol.proofs.Kept.Cutting.{can-split, supplied-append}
use Rattle.spec_protocol.proofs.Kept.Base.{kept-so, sphere-holds}

-- ---- not found

-- what is in neither of two lists is not in both
pub find_both : {X : Type 0} (test : X → Bool) (xs ys : List X) → find test xs ≡ None → find test ys ≡ None → find test (xs ++ ys) ≡ None
find_both test [] ys a b = b
find_both {X} test (x ∷ xs) ys a b =
    let p = found_first test x xs a in
    ap (λ (c : Bool). cond c (Some x) (find test (xs ++ ys))) p.0 ∙ find_both test xs ys p.1 b

none_from : {X : Type 0} (test : X → Bool) (f : ℕ → List X) (a n : ℕ) → ((k : ℕ) → k < a + n → find test (f k) ≡ None) → find test (flat_map f (threads_from a n)) ≡ None
none_from test f a zero none = refl
none_from test f a (suc n) none = find_both test (f a) (flat_map f (threads_from (suc a) n)) (none a (omega arith)) (none_from test f (suc a) n (λ k l. none k (omega (arith, l))))

-- nor in those of all threads
pub none_of_all : {X : Type 0} (test : X → Bool) (f : ℕ → List X) → ((k : ℕ) → k < most_threads → find test (f k) ≡ None) → find test (flat_map f threads) ≡ None
none_of_all test f none = none_from test f 0 most_threads (λ k l. none k (omega (arith, l)))

-- ---- since a base

-- how the log is kept of which so many epochs were given up, and so many are kept
abbrev pub how_since : Setup → List Point → (i : ℕ) → RecordSetup → EpochSetup → (given kept : ℕ) → Keeping
how_since s ps i asked x given kept =
    let y = serial_until s ps i (given * x.size) in
    record {
      version = asked.version;
      mode = asked.mode;
      s = s.numbers.s;
      epochs = Some (record { size = x.size; keep = x.keep; begun = epochs_of s ps i x.size (given * x.size) kept });
      done = done_in y i;
      before = position (sphere_in y i).progress;
    }

module _ (s : Setup) (i : ℕ) (image : SphereSetup) (asked : RecordSetup) (there : slice_get s.spheres i ≡ Some image) (role : image.role ≡ IsRecorded asked) where
  -- what all points tell is what those up to a base tell, and those since
  pub split-at : (ps : List Point) (n : ℕ) → supplied i (serial_start s) ps ≡ supplied i (serial_start s) (points_until i n ps) ++ supplied_since s ps i n
  split-at ps n = ap (supplied i (serial_start s)) (sym (until-since i n ps)) ∙ supplied-append i (serial_start s) (points_until i n ps) (points_since i n ps)

  module _ (ps : List Point) (n : ℕ) (can : CanDoAll (serial_start s) ps) where
    -- at a base it keeps the log of the points up to it
    pub base_holds : Keeps (how_kept s asked) (supplied i (serial_start s) (points_until i n ps)) (sphere_in (serial_until s ps i n) i)
    base_holds =
        sphere-holds (how_kept s asked) i (supplied i (serial_start s) (points_until i n ps)) (serial_until s ps i n)
        (kept-so s i image asked there role (points_until i n ps) (can-split (serial_start s) (points_until i n ps) (points_since i n ps) (subst (CanDoAll (serial_start s)) (sym (until-since i n ps)) can)).0)

    -- an interrupt that isn't in the whole log isn't in that since the base
    none_since : (k j : ℕ) → interrupt_at (all_interrupts (λ (h : ℕ). 0) (points_so (supplied i (serial_start s) ps))) k j ≡ None → interrupt_at (all_interrupts (done_in (serial_until s ps i n) i) (points_so (supplied_since s ps i n))) k j ≡ None
    none_since k j none =
        let c = supplied i (serial_start s) (points_until i n ps) in
        let d = supplied_since s ps i n in
        let done = done_in (serial_until s ps i n) i in
        let test = is_of_moment (λ (r : Interrupt). r.thread) (λ (r : Interrupt). r.index) k j in
        let all : points_so (supplied i (serial_start s) ps) ≡ points_so c ++ points_so d = ap points_so (split-at ps n) ∙ map-append (λ (x : Supplied). x.point) c d in
        let whole = none-there (all_interrupts (λ (h : ℕ). 0) (points_so (supplied i (serial_start s) ps))) k j none in
        let each : (t : ℕ) → t < most_threads → find test (interrupts_of t (done t) (points_so d)) ≡ None = (λ t l.
        let one = part-none test (λ (h : ℕ). interrupts_of h 0 (points_so (supplied i (serial_start s) ps))) t l whole in
        let split : interrupts_of t 0 (points_so (supplied i (serial_start s) ps)) ≡ interrupts_of t 0 (points_so c) ++ interrupts_of t (done t) (points_so d) =
        ap (interrupts_of t 0) all ∙ interrupts-append t 0 (points_so c) (points_so d) ∙ ap (λ (m : ℕ). interrupts_of t 0 (points_so c) ++ interrupts_of t m (points_so d)) (base_holds.commits t) in
        (find_parts test (interrupts_of t 0 (points_so c)) (interrupts_of t (done t) (points_so d)) (sym (ap (find test) split) ∙ one)).1) in
        ap (option_map (λ (r : Interrupt). r.value)) (none_of_all test (λ (t : ℕ). interrupts_of t (done t) (points_so d)) each)

    -- a sphere that has the threads of the whole, as many commits, and the log since the base, keeps the log of the points since
    pub keeps-since : (how : Keeping) (p q : Sphere) → Keeps (how_kept s asked) (supplied i (serial_start s) ps) p → q.threads ≡ p.threads → position q.progress ≡ position p.progress
        → how.version ≡ asked.version → how.done ≡ done_in (serial_until s ps i n) i → how.before ≡ position (sphere_in (serial_until s ps i n) i).progress
        → q.role ≡ Record (keeping how (log_by how (supplied_since s ps i n))) → Keeps how (supplied_since s ps i n) q
    keeps-since how p q whole same place version done before is =
        let c = supplied i (serial_start s) (points_until i n ps) in
        let d = supplied_since s ps i n in
        let actors : actors_of (points_so (supplied i (serial_start s) ps)) ≡ actors_of (points_so c) ++ actors_of (points_so d) =
        ap (λ (cs : List Supplied). actors_of (points_so cs)) (split-at ps n) ∙ ap actors_of (map-append (λ (x : Supplied). x.point) c d) ∙ actors-append (points_so c) (points_so d) in
        let fresh : AreFresh p.threads (all_interrupts (done_in (serial_until s ps i n) i) (points_so d)) =
        record {
          later = λ k j t e l. none_since k j (whole.fresh.later k j t e l);
          unmasked = λ k t e mask. none_since k t.commits (whole.fresh.unmasked k t e mask);
          absent = λ k j e. none_since k j (whole.fresh.absent k j e);
        }
        in
        record {
          role = is;
          commits = λ k. ap (λ (f : ℕ → ℕ). f k + commits_of k (points_so d)) done
              ∙ (let a = base_holds.commits k in let b = whole.commits k in let e = ap (count_of k) actors in let f = count-append k (actors_of (points_so c)) (actors_of (points_so d)) in omega arith)
              ∙ ap (λ (ts : List Parts). done_by (slice_get ts k)) (sym same);
          place = (let a = base_holds.place in let b = whole.place in let e = ap (λ (as_ : List Actor). length as_) actors in let f = length-append (actors_of (points_so c)) (actors_of (points_so d)) in omega arith);
          fresh = subst (λ (f : ℕ → ℕ). AreFresh q.threads (all_interrupts f (points_so d))) (sym done) (subst (λ (ts : List Parts). AreFresh ts (all_interrupts (done_in (serial_until s ps i n) i) (points_so d))) (sym same) fresh);
          few = (let a = whole.few in let b = ap (λ (ts : List Parts). length ts) same in subst (λ (v : ℕ). length q.threads ≤ new_threads v) (sym version) (omega (arith, a, b)));
        }
