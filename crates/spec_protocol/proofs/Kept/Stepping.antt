-- One event more: a sphere that keeps the end of its recording goes on as the whole one does.
use Rattle.std.proofs.Common.{◌≡◌, ◌≢◌, ℕ, zero, suc, ◌+◌, ◌-◌, ◌*◌, ◌<◌, ◌≤◌, inl, inr, Bool, true, false, cond, List, [], ◌∷◌, ◌++◌, length, drop, Option, Some, None, refl, sym, ap, ◌∙◌, subst, arith}
use Rattle.std.specs.Prelude.{slice_get}
use Rattle.std.proofs.lemmas.Bool.{true≢false, cases_Bool, eqb-true, eq-eqb}
use Rattle.std.proofs.lemmas.List.{append-nil, length-drop}
use Rattle.std.proofs.lemmas.Option.{same_Some, get_or_from_slice_get}
use Rattle.std.proofs.Math.Nat.{suc-mul}
use Rattle.dl_entry.specs.declared.Commit.{Commit}
use Rattle.dl_entry.specs.declared.Point.{Point}
use Rattle.spec_log.specs.declared.LogParts.{LogParts}
use Rattle.spec_play.specs.Progress.{Progress, position}
use Rattle.spec_play.specs.Epochs.{Epoch, Epochs}
use Rattle.spec_protocol.specs.declared.event.Event.{Event}
use Rattle.spec_sphere.specs.sphere.Spheres.{Recording, Role, Record, Sphere, no_sphere}
use Rattle.spec_protocol.specs.machine.World.{World, EventOutcome, sphere_at}
use Rattle.spec_sphere.specs.sphere.Setups.{EpochSetup, RecordSetup, IsRecorded, SphereSetup}
use Rattle.spec_protocol.specs.machine.Machine.{Setup, with_point, happens}
use Rattle.spec_protocol.specs.machine.Serial.{SerialState, serial_start, do_point, do_points, serial, CanDoAll}
use Rattle.spec_protocol.specs.machine.Shown.{shown_of}
use Rattle.spec_protocol.specs.machine.Moves.{do_if}
use Rattle.spec_sphere.specs.sphere.Logged.{Supplied, is_of, inputs_of}
use Rattle.spec_protocol.specs.machine.Logged.{sphere_in, supplied, logged_since}
use Rattle.spec_sphere.specs.sphere.Epochs.{state_in}
use Rattle.spec_sphere.specs.sphere.Kept.{is_commit_of, points_until, points_since}
use Rattle.spec_protocol.specs.machine.Kept.{serial_until, epoch_of, epochs_of, supplied_since, tail_log}
use Rattle.spec_protocol.specs.promises.Promises.{IsSetup, after}
use Rattle.spec_protocol.specs.promises.Kept.{IsKeptFrom}
use Rattle.spec_protocol.proofs.Invariants.Preserved.{sphere_of_point}
use Rattle.spec_protocol.proofs.Invariants.Schedules.{happens-preserved}
use Rattle.spec_protocol.proofs.Points.Serial.{Agrees, agrees_itself, do_if_point, CanIf, event_follows}
use Rattle.spec_protocol.proofs.Points.OneByOne.{HoldsIn, points-kept, supplied_at, point-away, of-sphere, one-more}
use Rattle.spec_sphere.proofs.Points.KeptLogs.{Keeping, log_by, keeping, Keeps, keeps-by-points}
use Rattle.spec_protocol.proofs.Points.Logs.{how_kept}
use Rattle.spec_sphere.proofs.Kept.Cutting.{commits_among, among-append, until-since, among-until, until-more, since-more, since-later}
use Rattle.spec_protocol.proofs.Kept.Cutting.{do-append, supplied-append}
use Rattle.spec_protocol.proofs.Kept.Tails.{done-among, among-since}
use Rattle.spec_protocol.proofs.Kept.Dropping.{cut_at, recorded_so, IsCutIn, point-cut}
use Rattle.spec_protocol.proofs.Kept.Holding.{how_since, keeps-since}
use Rattle.spec_protocol.proofs.Kept.Showing.{holds-shown, supplied-same, AsksAs}
use Rattle.spec_protocol.proofs.Kept.Standing.{Stand}

-- ---- points more

-- the epoch that begins after these points
abbrev epoch_after : Setup → (i : ℕ) → List Point → Epoch
epoch_after s i qs =
    let p = sphere_in (do_points (serial_start s) qs) i in
    record { state = state_in p.memory p; inputs = length (inputs_of (supplied i (serial_start s) qs)) }

-- points more leave the epochs that have begun
pub epochs-more : (s : Setup) (ps qs : List Point) (i size n m : ℕ) → 0 < size → n + m * size ≤ commits_among i ps + size → epochs_of s (ps ++ qs) i size n m ≡ epochs_of s ps i size n m
epochs-more s ps qs i size n zero some l = refl
epochs-more s ps qs i size n (suc m) some l =
    let a : suc m * size ≡ m * size + size = suc-mul m size in
    (λ j. epoch_after s i (until-more i n ps qs (omega (arith, l, a)) j) ∷ epochs-more s ps qs i size (n + size) m some (omega (arith, l, a)) j)

-- the state up to a commit stays
pub until-stays : (s : Setup) (ps qs : List Point) (i n : ℕ) → n ≤ commits_among i ps → serial_until s (ps ++ qs) i n ≡ serial_until s ps i n
until-stays s ps qs i n l = ap (do_points (serial_start s)) (until-more i n ps qs l)

-- what is told since then is told, and then the points more
pub since-told : (s : Setup) (ps qs : List Point) (i n : ℕ) → n ≤ commits_among i ps → supplied_since s (ps ++ qs) i n ≡ supplied_since s ps i n ++ supplied i (serial s ps) qs
since-told s ps qs i n l =
    (λ j. supplied i (until-stays s ps qs i n l j) (since-more i n ps qs l j))
    ∙ supplied-append i (serial_until s ps i n) (points_since i n ps) qs
    ∙ ap (λ (x : SerialState). supplied_since s ps i n ++ supplied i x qs)
    (sym (do-append (serial_start s) (points_until i n ps) (points_since i n ps)) ∙ ap (do_points (serial_start s)) (until-since i n ps))

-- ---- the sphere

module _ (s : Setup) (i : ℕ) (image : SphereSetup) (asked : RecordSetup) (x : EpochSetup) (there : slice_get s.spheres i ≡ Some image) (role : image.role ≡ IsRecorded asked) where
  -- of a world that keeps the end of it
  module _ (es : List Event) (w : World) (kept whole : Sphere) (st : Stand s es w i asked kept whole) where
    -- how many commits it has done
    pub count-kept : position (sphere_at w i).progress ≡ commits_among i (after s es).points
    count-kept =
        ap position (sym st.progress) ∙ st.place ∙ ap (λ (p : Sphere). position p.progress) (sym (get_or_from_slice_get (serial s (after s es).points).spheres i whole no_sphere st.is))
        ∙ done-among s i image asked there role (after s es).points st.can

    module _ (given m : ℕ) (k : IsKeptFrom s (after s es).points i asked x given m (sphere_at w i)) where
      -- its points since the base tell what it keeps
      pub held-since : HoldsIn (Keeps (how_since s (after s es).points i asked x given m)) i (supplied_since s (after s es).points i (given * x.size)) (shown_of w)
      held-since =
          record {
            sphere = kept;
            there = st.there;
            holds = keeps-since s i image asked there role (after s es).points (given * x.size) st.can (how_since s (after s es).points i asked x given m) whole kept st.keeps st.threads st.place refl refl refl (st.role ∙ k.role);
          }

      -- its progress is that of the whole, without the commits before the base
      pub cut-since : kept.progress ≡ cut_at (given * x.size) whole.progress
      cut-since =
          let b = given * x.size in
          let at_ = get_or_from_slice_get (serial s (after s es).points).spheres i whole no_sphere st.is in
          (λ j. record {
            first = (ap (λ (g : Progress). g.first) st.progress ∙ k.first) j;
            commits = (ap (λ (g : Progress). g.commits) st.progress ∙ k.commits ∙ ap (λ (p : Sphere). drop b p.progress.commits) at_) j;
            last = st.last j;
            request = st.request j;
          })

      -- there are as many
      pub base-within : given * x.size ≤ length whole.progress.commits
      base-within =
          let b = given * x.size in
          let e : b + length (drop b whole.progress.commits) ≡ position whole.progress = ap position (sym cut-since) ∙ st.place in
          let d = length-drop b whole.progress.commits in
          let z = st.begins in
          omega arith

      pub base-among : given * x.size ≤ commits_among i (after s es).points
      base-among =
          let a = base-within in
          let z = st.begins in
          let at_ = get_or_from_slice_get (serial s (after s es).points).spheres i whole no_sphere st.is in
          let c : position whole.progress ≡ commits_among i (after s es).points = ap (λ (p : Sphere). position p.progress) (sym at_) ∙ done-among s i image asked there role (after s es).points st.can in
          omega arith

      -- ---- after a point, if there is one

      abbrev how_it : Keeping
      how_it = how_since s (after s es).points i asked x given m

      asks_as : AsksAs (sphere_in (shown_of w) i) (sphere_in (serial s (after s es).points) i)
      asks_as =
          let a = get_or_from_slice_get (shown_of w).spheres i kept no_sphere st.there in
          let b = get_or_from_slice_get (serial s (after s es).points).spheres i whole no_sphere st.is in
          record {
            memory = ap (λ (p : Sphere). p.memory) a ∙ st.memory ∙ ap (λ (p : Sphere). p.memory) (sym b);
            threads = ap (λ (p : Sphere). p.threads) a ∙ st.threads ∙ ap (λ (p : Sphere). p.threads) (sym b);
            request = ap (λ (p : Sphere). p.progress.request) a ∙ st.request ∙ ap (λ (p : Sphere). p.progress.request) (sym b);
          }

      -- the points since the base tell what it keeps then
      pub next-holds : (o : Option Point) → CanIf (shown_of w) o → HoldsIn (Keeps (how_since s (after s es).points i asked x given m)) i (supplied_since s (with_point o (after s es).points) i (given * x.size)) (do_if_point (shown_of w) o)
      next-holds None can = held-since
      next-holds (Some p) can =
          let ps = (after s es).points in
          let b = given * x.size in
          let how = how_since s ps i asked x given m in
          subst (λ (cs : List Supplied). HoldsIn (Keeps how) i cs (do_point (shown_of w) p))
          (ap (λ (cs : List Supplied). supplied_since s ps i b ++ cs) (supplied-same i (shown_of w) (serial s ps) p st.devices asks_as) ∙ sym (since-told s ps (p ∷ []) i b base-among))
          (points-kept (Keeps how) (keeps-by-points how) i (supplied_since s ps i b) (shown_of w) (p ∷ []) held-since (can, tt))

      -- and its progress is that of the whole then
      pub next-progress : (o : Option Point) (p : Sphere) → slice_get (do_if_point (shown_of w) o).spheres i ≡ Some p → p.progress ≡ cut_at (given * x.size) (sphere_in (serial s (with_point o (after s es).points)) i).progress
      next-progress None p e =
          ap (λ (q : Sphere). q.progress) (same_Some _ _ (sym e ∙ st.there)) ∙ cut-since
          ∙ ap (λ (q : Sphere). cut_at (given * x.size) q.progress) (sym (get_or_from_slice_get (serial s (after s es).points).spheres i whole no_sphere st.is))
      next-progress (Some q) p e =
          let ps = (after s es).points in
          let b = given * x.size in
          let how = how_since s ps i asked x given m in
          let all = how_kept s asked in
          let r : Recording = keeping how (log_by how (supplied_since s ps i b)) in
          let a : Recording = keeping all (log_by all (supplied i (serial_start s) ps)) in
          let then : serial s (ps ++ q ∷ []) ≡ do_point (serial s ps) q = do-append (serial_start s) ps (q ∷ []) in
          elim (cases_Bool (is_of i q)) [
            | inl own ↦ (
                let at_ : i ≡ sphere_of_point q = sym (eqb-true (sphere_of_point q) i (sym (of-sphere i q) ∙ own)) in
                let kept_is : slice_get (shown_of w).spheres i ≡ Some (recorded_so whole.memory whole.threads (cut_at b whole.progress) r) =
                st.there ∙ (λ j. Some (record { memory = st.memory j; threads = st.threads j; progress = cut-since j; role = (st.role ∙ k.role) j })) in
                let whole_is : slice_get (serial s ps).spheres i ≡ Some (recorded_so whole.memory whole.threads whole.progress a) = st.is ∙ (λ j. Some (record whole { role = st.keeps.role j })) in
                let c = point-cut b i whole.memory whole.threads whole.progress r a (shown_of w) (serial s ps) q base-within refl st.devices kept_is whole_is at_ in
                ap (λ (z : Sphere). z.progress) (same_Some _ _ (sym e ∙ c.there)) ∙ c.progress
                ∙ ap (λ (z : Sphere). cut_at b z.progress) (sym (get_or_from_slice_get (do_point (serial s ps) q).spheres i c.whole no_sphere c.is) ∙ ap (λ (y : SerialState). sphere_in y i) (sym then))
                )
            | inr other ↦ (
                let ne : i ≢ sphere_of_point q = (λ h. true≢false (sym (eq-eqb (sphere_of_point q) i (sym h)) ∙ sym (of-sphere i q) ∙ other)) in
                let here : p ≡ kept = same_Some _ _ (sym e ∙ point-away (shown_of w) q i ne ∙ st.there) in
                let there_ : slice_get (do_point (serial s ps) q).spheres i ≡ Some whole = point-away (serial s ps) q i ne ∙ st.is in
                ap (λ (z : Sphere). z.progress) here ∙ cut-since
                ∙ ap (λ (z : Sphere). cut_at b z.progress) (sym (get_or_from_slice_get (do_point (serial s ps) q).spheres i whole no_sphere there_) ∙ ap (λ (y : SerialState). sphere_in y i) (sym then))
                )
          ]
