-- The log since one state of a recorded sphere, without what comes before a later one, is the log since that.
use Rattle.std.proofs.Common.{◌≡◌, ℕ, zero, suc, ◌+◌, ◌<◌, ◌≤◌, Bool, true, false, List, [], ◌∷◌, ◌++◌, length, Option, Some, None, refl, sym, ap, ◌∙◌, subst, arith}
use Rattle.std.specs.Prelude.{slice_get, slice_index_or, find}
use Rattle.std.proofs.lemmas.Bool.{true≢false}
use Rattle.std.proofs.lemmas.List.{append_assoc, length-append, map-append}
use Rattle.std.proofs.lemmas.Option.{get_or_from_slice_get}
use Rattle.dl_entry.specs.Numbers.{most_threads}
use Rattle.dl_entry.specs.declared.Actor.{Actor}
use Rattle.dl_entry.specs.declared.Point.{Point}
use Rattle.spec_isa.specs.declared.thread.Parts.{Parts}
use Rattle.spec_log.specs.declared.ModeName.{ModeName}
use Rattle.spec_log.specs.declared.Interrupt.{Interrupt}
use Rattle.spec_play.specs.Progress.{position}
use Rattle.spec_play.specs.Verdicts.{interrupt_at}
use Rattle.spec_play.specs.Epochs.{commits_of as done_by, is_masked, log_from}
use Rattle.spec_sphere.specs.sphere.Spheres.{Recording, Record, Sphere, no_sphere}
use Rattle.spec_sphere.specs.sphere.Setups.{RecordSetup, IsRecorded, SphereSetup}
use Rattle.spec_protocol.specs.machine.Machine.{Setup}
use Rattle.spec_protocol.specs.machine.Serial.{SerialState, serial_start, do_points, CanDoAll}
use Rattle.spec_sphere.specs.sphere.Logged.{Supplied, actors_of, interrupts_of, inputs_of, all_interrupts}
use Rattle.spec_protocol.specs.machine.Logged.{sphere_in, supplied, done_in, logged_since}
use Rattle.spec_sphere.specs.sphere.Epochs.{state_in}
use Rattle.spec_sphere.specs.promises.Sound.{AreFresh, commits_in}
use Rattle.spec_sphere.proofs.Logs.Inserting.{is_of_moment}
use Rattle.spec_sphere.proofs.Logs.Lookups.{none-there, count-append}
use Rattle.spec_sphere.specs.promises.Standing.{count_of}
use Rattle.spec_sphere.proofs.Logs.Entries.{find_parts, part-none}
use Rattle.spec_sphere.proofs.Points.OneMore.{points_so, commits_of, actors-append, interrupts-append}
use Rattle.spec_protocol.proofs.Points.OneByOne.{HoldsIn, points-kept}
use Rattle.spec_sphere.proofs.Points.KeptLogs.{Keeping, log_by, keeping, Keeps, keeps-by-points}
use Rattle.spec_protocol.proofs.Points.Logs.{how_kept, start-kept}
use Rattle.spec_protocol.proofs.Kept.Cutting.{do-append, can-split, supplied-append}
use Rattle.spec_sphere.proofs.Kept.Shortening.{IntsFrom, Cuts, log-cut}
use Rattle.spec_sphere.proofs.Kept.Masked.{Handles, Waits, waits-by-points}

handles_of : (k : ℕ) (ts : List Parts) (o : Option Parts) → slice_get ts k ≡ o → is_masked o ≡ true → Handles k ts
handles_of k ts None e m = absurd (true≢false (sym m))
handles_of k ts (Some t) e m = (t, e, m)

-- of the sphere that there is
pub sphere-holds : (how : Keeping) (i : ℕ) (cs : List Supplied) (x : SerialState) → HoldsIn (Keeps how) i cs x → Keeps how cs (sphere_in x i)
sphere-holds how i cs x k = subst (Keeps how cs) (sym (get_or_from_slice_get x.spheres i k.sphere no_sphere k.there)) k.holds

-- a thread that handles no interrupt has none at its present number of commits
none_now : (k : ℕ) (ts : List Parts) (is : List Interrupt) → AreFresh ts is → (o : Option Parts) → slice_get ts k ≡ o → is_masked o ≡ false → interrupt_at is k (done_by o) ≡ None
none_now k ts is fresh None e m = fresh.absent k 0 e
none_now k ts is fresh (Some t) e m = fresh.unmasked k t e m

-- sphere i is recorded
module _ (s : Setup) (i : ℕ) (image : SphereSetup) (asked : RecordSetup) (there : slice_get s.spheres i ≡ Some image) (role : image.role ≡ IsRecorded asked) where
  -- so far it keeps its whole log
  pub kept-so : (ps : List Point) → CanDoAll (serial_start s) ps → HoldsIn (Keeps (how_kept s asked)) i (supplied i (serial_start s) ps) (do_points (serial_start s) ps)
  kept-so ps can = points-kept (Keeps (how_kept s asked)) (keeps-by-points (how_kept s asked)) i [] (serial_start s) ps (start-kept s i image asked there role) can

  -- ---- cut twice

  -- so does what comes of it from there on
  pub kept-on : (qs ts : List Point) → CanDoAll (serial_start s) qs → CanDoAll (do_points (serial_start s) qs) ts
      → let y = do_points (serial_start s) qs in
      HoldsIn (Keeps (how_kept s asked)) i (supplied i (serial_start s) qs ++ supplied i y ts) (do_points y ts)
  kept-on qs ts can more = points-kept (Keeps (how_kept s asked)) (keeps-by-points (how_kept s asked)) i (supplied i (serial_start s) qs) (do_points (serial_start s) qs) ts (kept-so qs can) more

  -- the state after the first points, and that after the next ones
  pub cuts_at : (qs ts rs : List Point) → CanDoAll (serial_start s) (qs ++ (ts ++ rs))
      → let y = do_points (serial_start s) qs in
      let z = do_points y ts in
      Cuts (done_in y i) (done_in z i) (position (sphere_in y i).progress) (supplied i y ts) (supplied i z rs) (state_in (sphere_in z i).memory (sphere_in z i))
  cuts_at qs ts rs can =
      let y : SerialState = do_points (serial_start s) qs in
      let z : SerialState = do_points y ts in
      let two = can-split (serial_start s) qs (ts ++ rs) can in
      let three = can-split y ts rs two.1 in
      let c = supplied i (serial_start s) qs in
      let d = supplied i y ts in
      let k1 = sphere-holds (how_kept s asked) i c y (kept-so qs two.0) in
      let k2 = sphere-holds (how_kept s asked) i (c ++ d) z (kept-on qs ts two.0 three.0) in
      let all : points_so (c ++ d) ≡ points_so c ++ points_so d = map-append (λ (x : Supplied). x.point) c d in
      let actors : actors_of (points_so (c ++ d)) ≡ actors_of (points_so c) ++ actors_of (points_so d) = ap actors_of all ∙ actors-append (points_so c) (points_so d) in
      record {
        commits = (let a = k1.place in let b = k2.place in let e = ap (λ (as_ : List Actor). length as_) actors in let f = length-append (actors_of (points_so c)) (actors_of (points_so d)) in omega arith);
        counted = λ k. (let a = k1.commits k in let b = k2.commits k in let e = ap (count_of k) actors in let f = count-append k (actors_of (points_so c)) (actors_of (points_so d)) in omega arith);
        threads_ = λ k. refl;
        early = λ k l unmasked.
            let n = done_in z i k in
            let test = is_of_moment (λ (r : Interrupt). r.thread) (λ (r : Interrupt). r.index) k n in
            let none : interrupt_at (all_interrupts (λ (j : ℕ). 0) (points_so (c ++ d))) k n ≡ None = none_now k (sphere_in z i).threads (all_interrupts (λ (j : ℕ). 0) (points_so (c ++ d))) k2.fresh (slice_get (sphere_in z i).threads k) refl unmasked in
            let own : find test (interrupts_of k 0 (points_so (c ++ d))) ≡ None = part-none test (λ (j : ℕ). interrupts_of j 0 (points_so (c ++ d))) k l (none-there (all_interrupts (λ (j : ℕ). 0) (points_so (c ++ d))) k n none) in
            let split : interrupts_of k 0 (points_so (c ++ d)) ≡ interrupts_of k 0 (points_so c) ++ interrupts_of k (done_in y i k) (points_so d) =
            ap (interrupts_of k 0) all ∙ interrupts-append k 0 (points_so c) (points_so d) ∙ ap (λ (m : ℕ). interrupts_of k 0 (points_so c) ++ interrupts_of k m (points_so d)) (k1.commits k) in
            (find_parts test (interrupts_of k 0 (points_so c)) (interrupts_of k (done_in y i k) (points_so d)) (sym (ap (find test) split) ∙ own)).1;
        late = λ k l masked.
            let n = done_in z i k in
            let h = kept-on qs ts two.0 three.0 in
            let start : HoldsIn (Waits k n) i [] z =
            record {
              sphere = h.sphere;
              there = h.there;
              holds = record {
                recorded = (keeping (how_kept s asked) (log_by (how_kept s asked) (c ++ d)), h.holds.role);
                from = tt;
                handles = λ none. subst (λ (p : Sphere). Handles k p.threads) (get_or_from_slice_get z.spheres i h.sphere no_sphere h.there) (handles_of k (sphere_in z i).threads (slice_get (sphere_in z i).threads k) refl masked);
              };
            }
            in
            (points-kept (Waits k n) (waits-by-points k n) i [] z rs start three.1).holds.from;
      }

  -- the log since the first state, without what comes before the second, is that since the second
  pub log-since : (qs ts rs : List Point) → CanDoAll (serial_start s) (qs ++ (ts ++ rs))
      → (version : ℕ) (mode : ModeName) (size : ℕ)
      → let y = do_points (serial_start s) qs in
      let z = do_points y ts in
      log_from (length (actors_of (points_so (supplied i y ts)))) (length (inputs_of (supplied i y ts))) (state_in (sphere_in z i).memory (sphere_in z i)) (logged_since version mode size y i (supplied i y (ts ++ rs)))
      ≡ logged_since version mode size z i (supplied i z rs)
  log-since qs ts rs can version mode size =
      let y : SerialState = do_points (serial_start s) qs in
      let z : SerialState = do_points y ts in
      ap (λ (cs : List Supplied). log_from (length (actors_of (points_so (supplied i y ts)))) (length (inputs_of (supplied i y ts))) (state_in (sphere_in z i).memory (sphere_in z i)) (logged_since version mode size y i cs)) (supplied-append i y ts rs)
      ∙ log-cut (done_in y i) (done_in z i) (position (sphere_in y i).progress) (supplied i y ts) (supplied i z rs) (state_in (sphere_in z i).memory (sphere_in z i)) (cuts_at qs ts rs can) version mode size
