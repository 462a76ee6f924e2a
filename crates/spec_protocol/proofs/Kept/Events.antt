-- One event more: the world goes on to show the end of what its points tell.
use Rattle.std.proofs.Common.{◌≡◌, ◌≢◌, ℕ, zero, suc, ◌+◌, ◌*◌, ◌<◌, ◌≤◌, inl, inr, Bool, true, false, cond, List, [], ◌∷◌, ◌++◌, length, drop, Option, Some, None, refl, sym, ap, ◌∙◌, subst, arith}
use Rattle.std.specs.Prelude.{slice_get}
use Rattle.std.proofs.lemmas.Bool.{true≢false, cases_Bool, eqb-true}
use Rattle.std.proofs.lemmas.Option.{same_Some, get_or_from_slice_get}
use Rattle.std.proofs.Math.Nat.{add-mul}
use Rattle.dl_entry.specs.declared.Point.{Point}
use Rattle.spec_play.specs.Progress.{Progress, position}
use Rattle.spec_protocol.specs.declared.event.Event.{Event}
use Rattle.spec_sphere.specs.sphere.Spheres.{Role, Record, Sphere, no_sphere}
use Rattle.spec_protocol.specs.machine.World.{World, EventOutcome, sphere_at}
use Rattle.spec_sphere.specs.sphere.Setups.{EpochSetup, RecordSetup, IsRecorded, SphereSetup}
use Rattle.spec_protocol.specs.machine.Machine.{Setup, with_point, happens, world_of, world_after}
use Rattle.spec_protocol.specs.machine.Serial.{SerialState, serial_start, do_points, serial, CanDoAll}
use Rattle.spec_protocol.specs.machine.Shown.{shown, shown_of}
use Rattle.spec_protocol.specs.machine.Moves.{do_if}
use Rattle.spec_sphere.specs.sphere.Logged.{Supplied, is_of}
use Rattle.spec_protocol.specs.machine.Logged.{sphere_in, supplied, logged_since}
use Rattle.spec_sphere.specs.sphere.Kept.{is_commit_of, points_until, points_since}
use Rattle.spec_protocol.specs.machine.Kept.{serial_until, epoch_of, epochs_of, supplied_since, tail_log}
use Rattle.spec_protocol.specs.promises.Promises.{IsSetup, after}
use Rattle.spec_sphere.specs.promises.Sound.{AreEpochs}
use Rattle.spec_protocol.specs.promises.Sound.{IsWithinLimits}
use Rattle.spec_protocol.specs.promises.Alike.{AreAlike}
use Rattle.spec_protocol.specs.promises.Kept.{IsKeptFrom, IsKept, WillKeep, Shows, IsReady}
use Rattle.spec_sphere.specs.promises.Kept.{has_due, is_due_in}
use Rattle.spec_protocol.proofs.Invariants.Preserved.{sphere_of_point}
use Rattle.spec_protocol.proofs.Invariants.Schedules.{happens-preserved}
use Rattle.spec_protocol.proofs.Points.Counts.{points_made}
use Rattle.spec_protocol.proofs.Points.Serial.{Agrees, agrees_itself, do_if_point, CanIf, event_follows}
use Rattle.spec_protocol.proofs.Points.OneByOne.{HoldsIn, of-sphere, one-more}
use Rattle.spec_sphere.proofs.Points.KeptLogs.{Keeping, log_by, keeping, Keeps}
use Rattle.spec_protocol.proofs.Sound.Schedules.{setup-within}
use Rattle.spec_protocol.proofs.Alike.Events.{happen-alike}
use Rattle.spec_sphere.proofs.Kept.Cutting.{commits_among, among-append, until-since, among-until, other_commit, since-all}
use Rattle.spec_protocol.proofs.Kept.Cutting.{can-split}
use Rattle.spec_protocol.proofs.Kept.Tails.{done-among}
use Rattle.spec_protocol.proofs.Kept.Due.{IsInLast, not-due}
use Rattle.spec_protocol.proofs.Kept.Dropping.{cut_at}
use Rattle.spec_protocol.proofs.Kept.Holding.{how_since}
use Rattle.spec_protocol.proofs.Kept.Showing.{holds-shown}
use Rattle.spec_protocol.proofs.Kept.Standing.{Stand, stands}
use Rattle.spec_protocol.proofs.Kept.Stepping.{epochs-more, until-stays, since-told, count-kept, base-among, next-holds, next-progress}

-- ---- numbers

-- of these points none is of the sphere, or fewer commits than this are done
abbrev pub IsEarly : (i n limit : ℕ) → Option Point → Type 0
IsEarly i n limit None = Unit {0}
IsEarly i n limit (Some p) = is_of i p ≡ true → n < limit

record Goes (s : Setup) (ps : List Point) (i limit : ℕ) : Type 0 where
  next : commits_among i ps ≤ limit
  still : commits_among i ps ≡ limit → supplied_since s ps i (commits_among i ps) ≡ []

one_more_commit : (i : ℕ) (ps : List Point) (p : Point) (b : Bool) → is_commit_of i p ≡ b → commits_among i (ps ++ p ∷ []) ≡ commits_among i ps + cond b 1 0
one_more_commit i ps p b e = among-append i ps (p ∷ []) ∙ ap (λ (c : Bool). commits_among i ps + cond c 1 0) e

goes_on : (s : Setup) (ps : List Point) (i limit : ℕ) (o : Option Point) → Goes s ps i limit → IsEarly i (commits_among i ps) limit o → Goes s (with_point o ps) i limit
goes_on s ps i limit None g early = g
goes_on s ps i limit (Some p) g early =
    let n = commits_among i ps in
    elim (cases_Bool (is_of i p)) [
      | inl own ↦ (
          let less = early own in
          elim (cases_Bool (is_commit_of i p)) [
            | inl commit ↦ (
                let one : commits_among i (ps ++ p ∷ []) ≡ suc n = one_more_commit i ps p true commit ∙ omega arith in
                record {
                  next = omega (arith, one, less);
                  still = λ _. ap (λ (k : ℕ). supplied_since s (ps ++ p ∷ []) i k) one ∙ ap (supplied i (serial_until s (ps ++ p ∷ []) i (suc n))) (since-all i ps p commit);
                }
                )
            | inr none ↦ (
                let same : commits_among i (ps ++ p ∷ []) ≡ n = one_more_commit i ps p false none ∙ omega arith in
                record { next = omega (arith, same, less); still = λ e. absurd (omega (arith, same, less, e)) }
                )
          ]
          )
      | inr other ↦ (
          let same : commits_among i (ps ++ p ∷ []) ≡ n = one_more_commit i ps p false (other_commit i p other) ∙ omega arith in
          record {
            next = (let a = g.next in omega (arith, same, a));
            still = λ e. ap (λ (k : ℕ). supplied_since s (ps ++ p ∷ []) i k) same ∙ since-told s ps (p ∷ []) i n (omega arith)
                ∙ (λ j. g.still (sym same ∙ e) j ++ one-more i (serial s ps) p [] false other j);
          }
          )
    ]

grown : (i : ℕ) (ps : List Point) (o : Option Point) → commits_among i ps ≤ commits_among i (with_point o ps)
grown i ps None = omega arith
grown i ps (Some p) = let a = among-append i ps (p ∷ []) in omega arith

-- ---- one sphere

-- an epoch counts the commits before it
pub epoch-commits : (s : Setup) (i : ℕ) (image : SphereSetup) (asked : RecordSetup) → slice_get s.spheres i ≡ Some image → image.role ≡ IsRecorded asked → (ps : List Point) → CanDoAll (serial_start s) ps → (n : ℕ) → n ≤ commits_among i ps → (epoch_of s ps i n).state.commits ≡ n
epoch-commits s i image asked there role ps can n l =
    done-among s i image asked there role (points_until i n ps) (can-split (serial_start s) (points_until i n ps) (points_since i n ps) (subst (CanDoAll (serial_start s)) (sym (until-since i n ps)) can)).0
    ∙ among-until i n ps l

-- a sphere is kept as another with the same role and progress is
pub kept-as : (s : Setup) (ps : List Point) (i : ℕ) (asked : RecordSetup) (x : EpochSetup) (given m : ℕ) (p q : Sphere) → p.progress ≡ q.progress → p.role ≡ q.role → IsKeptFrom s ps i asked x given m p → IsKeptFrom s ps i asked x given m q
kept-as s ps i asked x given m p q progress role k =
    record {
      first = ap (λ (g : Progress). g.first) (sym progress) ∙ k.first;
      commits = ap (λ (g : Progress). g.commits) (sym progress) ∙ k.commits;
      role = sym role ∙ k.role;
      few = k.few;
      all = k.all;
      next = subst (λ (g : Progress). position g ≤ (given + m) * x.size) progress k.next;
      last = subst (λ (g : Progress). (given + m) * x.size ≤ position g + x.size) progress k.last;
      still = subst (λ (g : Progress). position g ≡ (given + m) * x.size → supplied_since s ps i (position g) ≡ []) progress k.still;
    }

module _ (s : Setup) (i : ℕ) (image : SphereSetup) (asked : RecordSetup) (x : EpochSetup) (there : slice_get s.spheres i ≡ Some image) (role : image.role ≡ IsRecorded asked) (some : 0 < x.size) where
  -- the log and the epochs, told by the points so far, are those that the points then tell
  role_more : (ps : List Point) (o : Option Point) (given m : ℕ) → (given + m) * x.size ≤ commits_among i ps + x.size → given * x.size ≤ commits_among i ps
      → let how = how_since s ps i asked x given m in
      Record (keeping how (log_by how (supplied_since s (with_point o ps) i (given * x.size))))
      ≡ Record (record {
        log = tail_log s (with_point o ps) i asked (given * x.size);
        epochs = Some (record { size = x.size; keep = x.keep; begun = epochs_of s (with_point o ps) i x.size (given * x.size) m });
      })
  role_more ps None given m last base = refl
  role_more ps (Some p) given m last base =
      let b = given * x.size in
      let a : (given + m) * x.size ≡ given * x.size + m * x.size = add-mul given m x.size in
      (λ j. Record (record {
        log = logged_since asked.version asked.mode s.numbers.s (sym (until-stays s ps (p ∷ []) i b base) j) i (supplied_since s (ps ++ p ∷ []) i b);
        epochs = Some (record { size = x.size; keep = x.keep; begun = sym (epochs-more s ps (p ∷ []) i x.size b m some (omega (arith, last, a))) j });
      }))

  -- none is due in it, so the next epoch begins later
  pub early-in : (es : List Event) (w : World) (kept whole : Sphere) (given m : ℕ) → Stand s es w i asked kept whole → IsKeptFrom s (after s es).points i asked x given m (sphere_at w i) → has_due (sphere_at w i) ≡ false → commits_among i (after s es).points < (given + m) * x.size
  early-in es w kept whole given m st k none =
      let ps = (after s es).points in
      let q = sphere_at w i in
      let n = position q.progress in
      let count = count-kept s i image asked x there role es w kept whole st in
      let less : n < (given + m) * x.size =
      not-due s ps i x.size n some (λ c l. epoch-commits s i image asked there role ps st.can c (omega (arith, l, count))) given m x.keep (record { next = k.next; last = k.last })
      (ap (λ (r : Role). is_due_in r n) (sym k.role) ∙ none)
      in
      omega (arith, less, count)

  -- an event that comes before the next epoch, or not in this sphere
  pub event-kept : (es : List Event) (w : World) (e : Event) (kept whole later last : Sphere) (given m : ℕ) (o : Option Point)
      → Stand s es w i asked kept whole
      → Stand s (es ++ e ∷ []) (happens w e).world i asked later last
      → IsKeptFrom s (after s es).points i asked x given m (sphere_at w i)
      → (happens w e).point ≡ o
      → (after s (es ++ e ∷ [])).points ≡ with_point o (after s es).points
      → IsEarly i (commits_among i (after s es).points) ((given + m) * x.size) o
      → IsKeptFrom s (with_point o (after s es).points) i asked x given m (sphere_at (happens w e).world i)
  event-kept es w e kept whole later last given m o st st2 k is points early =
      let ps = (after s es).points in
      let b = given * x.size in
      let size = x.size in
      let a = happens w e in
      let q = sphere_at a.world i in
      let how = how_since s ps i asked x given m in
      let kp = happens-preserved w e st.good in
      let f = event_follows w (shown_of w) a.move a.point (agrees_itself (shown_of w)) st.good.buffer kp.fits kp.point in
      let agrees : Agrees (shown_of a.world) (do_if_point (shown_of w) o) =
      subst (λ (u : SerialState). Agrees u (do_if_point (shown_of w) o)) (sym kp.whole) (subst (λ (p : Option Point). Agrees (do_if w.numbers (shown_of w) a.move) (do_if_point (shown_of w) p)) is f.agrees) in
      let can : CanIf (shown_of w) o = subst (CanIf (shown_of w)) is f.can in
      let h = next-holds s i image asked x there role es w kept whole st given m k o can in
      let same : h.sphere ≡ later = holds-shown how i (supplied_since s (with_point o ps) i b) (shown_of a.world) (do_if_point (shown_of w) o) later agrees st2.there h in
      let progress : q.progress ≡ cut_at b (sphere_in (serial s (with_point o ps)) i).progress =
      sym st2.progress ∙ ap (λ (p : Sphere). p.progress) (sym same) ∙ next-progress s i image asked x there role es w kept whole st given m k o h.sphere h.there in
      let count : position q.progress ≡ commits_among i (with_point o ps) = count-kept s i image asked x there role (es ++ e ∷ []) a.world later last st2 ∙ ap (commits_among i) points in
      let before = count-kept s i image asked x there role es w kept whole st in
      let base = base-among s i image asked x there role es w kept whole st given m k in
      let held : commits_among i ps + size ≤ commits_among i (with_point o ps) + size = (let g = grown i ps o in omega arith) in
      let goes : Goes s (with_point o ps) i ((given + m) * size) =
      goes_on s ps i ((given + m) * size) o
      (record { next = (let n = k.next in omega arith); still = λ h. ap (supplied_since s ps i) (sym before) ∙ k.still (before ∙ h) })
      early
      in
      record {
        first = ap (λ (g : Progress). g.first) progress;
        commits = ap (λ (g : Progress). g.commits) progress;
        role = sym st2.role ∙ ap (λ (p : Sphere). p.role) (sym same) ∙ h.holds.role ∙ role_more ps o given m (let l = k.last in omega arith) base;
        few = k.few;
        all = k.all;
        next = (let n = goes.next in omega arith);
        last = (let l = k.last in omega arith);
        still = λ h2. ap (supplied_since s (with_point o ps) i) count ∙ goes.still (sym count ∙ h2);
      }
