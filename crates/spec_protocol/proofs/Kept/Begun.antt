-- An epoch that begins, and the earliest one that is given up: the sphere still keeps the end of what its points tell.
use Rattle.std.proofs.Common.{◌≡◌, ℕ, zero, suc, ◌+◌, ◌-◌, ◌*◌, ◌<◌, ◌≤◌, inl, inr, Bool, true, false, cond, List, [], ◌∷◌, ◌++◌, length, drop, Option, Some, None, refl, sym, ap, ◌∙◌, subst, arith}
use Rattle.std.specs.Prelude.{slice_get}
use Rattle.std.proofs.lemmas.Bool.{true≢false, cases_Bool, cases_lt, lt-ltb, le-ltb}
use Rattle.std.proofs.lemmas.List.{append-nil, length-append, length-drop, drop-drop}
use Rattle.std.proofs.lemmas.Grind.{flat_map-append}
use Rattle.std.proofs.lemmas.Option.{get_or_from_slice_get}
use Rattle.std.proofs.Math.Nat.{suc-mul, add-mul, zero-mul}
use Rattle.dl_entry.specs.declared.Commit.{Commit}
use Rattle.dl_entry.specs.declared.Input.{Input}
use Rattle.dl_entry.specs.declared.Point.{Point}
use Rattle.spec_log.specs.declared.LogParts.{LogParts}
use Rattle.spec_play.specs.Progress.{Progress, position, nothing_used}
use Rattle.spec_play.specs.States.{State}
use Rattle.spec_play.specs.Epochs.{Epoch, Epochs, log_from, with_epoch, given_up, without_first}
use Rattle.spec_protocol.specs.declared.event.Event.{Event}
use Rattle.spec_sphere.specs.sphere.Spheres.{Recording, Role, Record, Sphere, no_sphere}
use Rattle.spec_protocol.specs.machine.World.{World, sphere_at}
use Rattle.spec_sphere.specs.sphere.Setups.{EpochSetup, RecordSetup, IsRecorded, SphereSetup}
use Rattle.spec_protocol.specs.machine.Machine.{Setup}
use Rattle.spec_protocol.specs.machine.Serial.{SerialState, serial_start, do_points, serial, CanDoAll}
use Rattle.spec_sphere.specs.sphere.Logged.{Supplied, listed, inputs_of}
use Rattle.spec_protocol.specs.machine.Logged.{sphere_in, supplied}
use Rattle.spec_sphere.specs.sphere.Epochs.{state_in, epoch_at, progress_after, as_recorded, trimmed_by, trimmed, begun_if, begun_in, epoch_begun}
use Rattle.spec_play.specs.Epochs.{inputs_before, is_due}
use Rattle.spec_sphere.specs.sphere.Kept.{points_until, points_since}
use Rattle.spec_protocol.specs.machine.Kept.{serial_until, epoch_of, epochs_of, supplied_since, tail_log}
use Rattle.spec_protocol.specs.promises.Promises.{after}
use Rattle.spec_protocol.specs.promises.Kept.{IsKeptFrom}
use Rattle.spec_sphere.specs.promises.Kept.{has_due, is_due_in}
use Rattle.spec_sphere.proofs.Kept.Cutting.{commits_among, until-since, since-later}
use Rattle.spec_protocol.proofs.Kept.Cutting.{do-append, supplied-append, none-told}
use Rattle.spec_protocol.proofs.Kept.Tails.{until-state, inputs-until, tail-next}
use Rattle.spec_protocol.proofs.Kept.Due.{IsInLast, not-due, is-due}
use Rattle.spec_protocol.proofs.Kept.Dropping.{cut_at}
use Rattle.spec_protocol.proofs.Kept.Standing.{Stand}
use Rattle.spec_protocol.proofs.Kept.Stepping.{count-kept, cut-since, base-within, base-among}
use Rattle.spec_protocol.proofs.Kept.Events.{epoch-commits, early-in, kept-as}

-- ---- epochs, one after another

-- one more at the end
pub epochs-snoc : (s : Setup) (ps : List Point) (i size n m : ℕ) → epochs_of s ps i size n m ++ epoch_of s ps i (n + m * size) ∷ [] ≡ epochs_of s ps i size n (suc m)
epochs-snoc s ps i size n zero = let z : zero * size ≡ 0 = zero-mul size in ap (λ (k : ℕ). epoch_of s ps i k ∷ []) (let e : n + zero * size ≡ n = omega arith in e)
epochs-snoc s ps i size n (suc m) =
    let a : suc m * size ≡ m * size + size = suc-mul m size in
    let e : n + suc m * size ≡ (n + size) + m * size = omega arith in
    ap (λ (es : List Epoch). epoch_of s ps i n ∷ es) (ap (λ (k : ℕ). epochs_of s ps i size (n + size) m ++ epoch_of s ps i k ∷ []) e ∙ epochs-snoc s ps i size (n + size) m)

-- as many as there are
pub epochs-length : (s : Setup) (ps : List Point) (i size n m : ℕ) → length (epochs_of s ps i size n m) ≡ m
epochs-length s ps i size n zero = refl
epochs-length s ps i size n (suc m) = ap suc (epochs-length s ps i size (n + size) m)

module _ (s : Setup) (i : ℕ) (image : SphereSetup) (asked : RecordSetup) (x : EpochSetup) (there : slice_get s.spheres i ≡ Some image) (role : image.role ≡ IsRecorded asked) (some : 0 < x.size) (more : 0 < x.keep) where
  module _ (es : List Event) (w : World) (kept whole : Sphere) (given m : ℕ) (st : Stand s es w i asked kept whole) (k : IsKeptFrom s (after s es).points i asked x given m (sphere_at w i)) where
    ends_at : position (sphere_at w i).progress ≡ (given + m) * x.size → given * x.size + m * x.size ≡ position (sphere_at w i).progress
    ends_at due = let a = add-mul given m x.size in omega arith

    -- where the next epoch begins the sphere is as it is now
    sphere_there : position (sphere_at w i).progress ≡ (given + m) * x.size → sphere_in (serial_until s (after s es).points i (position (sphere_at w i).progress)) i ≡ whole
    sphere_there due =
        let ps = (after s es).points in
        let n = position (sphere_at w i).progress in
        let all : do_points (serial_until s ps i n) (points_since i n ps) ≡ serial s ps = sym (do-append (serial_start s) (points_until i n ps) (points_since i n ps)) ∙ ap (do_points (serial_start s)) (until-since i n ps) in
        get_or_from_slice_get (serial_until s ps i n).spheres i whole no_sphere
        (sym (none-told i (serial_until s ps i n) (points_since i n ps) (k.still due)) ∙ ap (λ (y : SerialState). slice_get y.spheres i) all ∙ st.is)

    state_there : position (sphere_at w i).progress ≡ (given + m) * x.size → state_in kept.memory (sphere_at w i) ≡ (epoch_of s (after s es).points i (position (sphere_at w i).progress)).state
    state_there due =
        (λ j. record {
          memory = st.memory j;
          threads = (sym st.parts ∙ st.threads) j;
          request = (ap (λ (g : Progress). g.request) (sym st.progress) ∙ st.request) j;
          last = (ap (λ (g : Progress). g.last) (sym st.progress) ∙ st.last) j;
          commits = (ap position (sym st.progress) ∙ st.place) j;
          used = nothing_used;
        })
        ∙ ap (λ (p : Sphere). state_in p.memory p) (sym (sphere_there due))

    none_given : m ≡ 0 → given * x.size ≡ 0
    none_given e =
        let g : given ≡ 0 = elim (cases_lt 0 given) [ inl positive ↦ absurd (let h = k.all positive in omega (arith, h, e, more)) | inr none ↦ omega (arith, none) ] in
        ap (λ (n : ℕ). n * x.size) g ∙ zero-mul x.size

    inputs_first : (n : ℕ) → m ≡ n → inputs_before (epochs_of s (after s es).points i x.size (given * x.size) n) ≡ (epoch_of s (after s es).points i (given * x.size)).inputs
    inputs_first zero e = sym (ap (λ (b : ℕ). (epoch_of s (after s es).points i b).inputs) (none_given e))
    inputs_first (suc n) e = refl

    inputs_there : position (sphere_at w i).progress ≡ (given + m) * x.size
        → inputs_before (epochs_of s (after s es).points i x.size (given * x.size) m) + length (inputs_of (supplied_since s (after s es).points i (given * x.size)))
        ≡ (epoch_of s (after s es).points i (position (sphere_at w i).progress)).inputs
    inputs_there due =
        let ps = (after s es).points in
        let b = given * x.size in
        let j = m * x.size in
        let n = position (sphere_at w i).progress in
        let e : b + j ≡ n = ends_at due in
        let rest = points_since i b ps in
        let y : SerialState = serial_until s ps i b in
        let told : supplied_since s ps i b ≡ supplied i y (points_until i j rest) =
        ap (supplied i y) (sym (until-since i j rest)) ∙ supplied-append i y (points_until i j rest) (points_since i j rest)
        ∙ ap (λ (cs : List Supplied). supplied i y (points_until i j rest) ++ cs)
        ((λ h. supplied i (sym (until-state s ps i b j) h) (sym (since-later i b j ps) h)) ∙ ap (supplied_since s ps i) e ∙ k.still due)
        ∙ append-nil (supplied i y (points_until i j rest))
        in
        (λ h. inputs_first m refl h + length (inputs_of (told h))) ∙ sym (inputs-until s ps i b j) ∙ ap (λ (c : ℕ). (epoch_of s ps i c).inputs) e

    -- the epoch that begins now is that of the points
    epoch_there : position (sphere_at w i).progress ≡ (given + m) * x.size
        → epoch_at kept.memory (tail_log s (after s es).points i asked (given * x.size)) (record { size = x.size; keep = x.keep; begun = epochs_of s (after s es).points i x.size (given * x.size) m }) (sphere_at w i)
        ≡ epoch_of s (after s es).points i (given * x.size + m * x.size)
    epoch_there due =
        (λ j. record { state = state_there due j; inputs = inputs_there due j }) ∙ ap (epoch_of s (after s es).points i) (sym (ends_at due))

    -- ---- none is given up

    limit_more : (given + suc m) * x.size ≡ (given + m) * x.size + x.size
    limit_more = let e : given + suc m ≡ suc (given + m) = omega arith in ap (λ (n : ℕ). n * x.size) e ∙ suc-mul (given + m) x.size

    added : position (sphere_at w i).progress ≡ (given + m) * x.size → suc m ≤ x.keep
        → IsKeptFrom s (after s es).points i asked x given (suc m)
        (as_recorded (tail_log s (after s es).points i asked (given * x.size)) (record { size = x.size; keep = x.keep; begun = epochs_of s (after s es).points i x.size (given * x.size) (suc m) }) (sphere_at w i))
    added due l =
        let a = limit_more in
        record {
          first = k.first;
          commits = k.commits;
          role = refl;
          few = l;
          all = λ positive. absurd (let h = k.all positive in omega (arith, h, l));
          next = omega (arith, due, a);
          last = omega (arith, due, a);
          still = λ e. absurd (omega (arith, due, a, e, some));
        }

    -- ---- the earliest is given up

    module _ (h : ℕ) (is : m ≡ suc h) (due : position (sphere_at w i).progress ≡ (given + m) * x.size) (full : m ≡ x.keep) where
      within_next : given * x.size + x.size ≤ commits_among i (after s es).points
      within_next =
          let c = count-kept s i image asked x there role es w kept whole st in
          let e = ends_at due in
          let a : suc h * x.size ≡ h * x.size + x.size = suc-mul h x.size in
          let b : m * x.size ≡ suc h * x.size = ap (λ (n : ℕ). n * x.size) is in
          omega (arith, c, e, a, b)

      -- as many commits as an epoch has
      size_given : (epoch_of s (after s es).points i (given * x.size + x.size)).state.commits - (epoch_of s (after s es).points i (given * x.size)).state.commits ≡ x.size
      size_given =
          let l = within_next in
          let a = epoch-commits s i image asked there role (after s es).points st.can (given * x.size + x.size) l in
          let b = epoch-commits s i image asked there role (after s es).points st.can (given * x.size) (omega (arith, l)) in
          omega (arith, a, b)

      length_kept : x.size ≤ length (sphere_at w i).progress.commits
      length_kept =
          let e = ends_at due in
          let f = k.first in
          let a : suc h * x.size ≡ h * x.size + x.size = suc-mul h x.size in
          let b : m * x.size ≡ suc h * x.size = ap (λ (n : ℕ). n * x.size) is in
          omega (arith, e, f, a, b)

      place_kept : (n : ℕ) → n ≡ x.size → position (progress_after n (sphere_at w i).progress) ≡ position (sphere_at w i).progress
      place_kept n e = let d = length-drop n (sphere_at w i).progress.commits in let l = length_kept in omega (arith, d, l, e)

      dropped : let ps = (after s es).points in
          let b = given * x.size in
          let rest : Epochs = record { size = x.size; keep = x.keep; begun = epochs_of s ps i x.size b (suc (suc h)) } in
          IsKeptFrom s ps i asked x (suc given) m (trimmed_by (Some (epoch_of s ps i b, epoch_of s ps i (b + x.size))) (tail_log s ps i asked b) rest (sphere_at w i))
      dropped =
          let ps = (after s es).points in
          let b = given * x.size in
          let q = sphere_at w i in
          let n = (epoch_of s ps i (b + x.size)).state.commits - (epoch_of s ps i b).state.commits in
          let same : n ≡ x.size = size_given in
          let next : b + x.size ≡ suc given * x.size = sym (suc-mul given x.size) in
          let whole_ = sphere_in (serial s ps) i in
          let place : position (progress_after n q.progress) ≡ position q.progress = place_kept n same in
          let limit : (suc given + m) * x.size ≡ (given + m) * x.size + x.size = (let e : suc given + m ≡ suc (given + m) = omega arith in ap (λ (c : ℕ). c * x.size) e ∙ suc-mul (given + m) x.size) in
          let log = log_from n ((epoch_of s ps i (b + x.size)).inputs - (epoch_of s ps i b).inputs) (epoch_of s ps i (b + x.size)).state (tail_log s ps i asked b) in
          let log_is : log ≡ tail_log s ps i asked (suc given * x.size) =
          ap (λ (c : ℕ). log_from c ((epoch_of s ps i (b + x.size)).inputs - (epoch_of s ps i b).inputs) (epoch_of s ps i (b + x.size)).state (tail_log s ps i asked b)) same
          ∙ tail-next s i image asked there role ps b x.size st.can within_next ∙ ap (tail_log s ps i asked) next
          in
          record {
            first = (let f = k.first in omega (arith, f, same, next));
            commits = ap (drop n) k.commits ∙ drop-drop n b whole_.progress.commits ∙ ap (λ (c : ℕ). drop c whole_.progress.commits) (let e : b + n ≡ suc given * x.size = omega (arith, same, next) in e);
            role = (λ j. Record (record {
              log = log_is j;
              epochs = Some (record { size = x.size; keep = x.keep; begun = epochs_of s ps i x.size (next j) (sym is j) });
            }));
            few = k.few;
            all = λ _. full;
            next = omega (arith, place, due, limit);
            last = omega (arith, place, due, limit);
            still = λ e. absurd (omega (arith, place, due, limit, e, some));
          }

    -- ---- either

    -- the sphere keeps the end, and the next epoch begins later
    abbrev pub Went : Sphere → Type 0
    Went p = (g : ℕ) × (h : ℕ) × IsKeptFrom s (after s es).points i asked x g h p × (position p.progress < (g + h) * x.size)

    with_one : (n : ℕ) → position (sphere_at w i).progress ≡ (given + m) * x.size → m ≡ n → suc m ≤ x.keep
        → Went (as_recorded (tail_log s (after s es).points i asked (given * x.size)) (record { size = x.size; keep = x.keep; begun = epochs_of s (after s es).points i x.size (given * x.size) (suc n) }) (sphere_at w i))
    with_one n due is l = (
      given,
      suc m,
      subst (λ (c : ℕ). IsKeptFrom s (after s es).points i asked x given (suc m) (as_recorded (tail_log s (after s es).points i asked (given * x.size)) (record { size = x.size; keep = x.keep; begun = epochs_of s (after s es).points i x.size (given * x.size) (suc c) }) (sphere_at w i))) is (added due l),
      (let a = limit_more in omega (arith, due, a, some)),
    )

    trims : (n : ℕ) → position (sphere_at w i).progress ≡ (given + m) * x.size → m ≡ n
        → Went (trimmed (tail_log s (after s es).points i asked (given * x.size)) (record { size = x.size; keep = x.keep; begun = epochs_of s (after s es).points i x.size (given * x.size) (suc n) }) (sphere_at w i))
    trims zero due is = with_one zero due is (omega (arith, is, more))
    trims (suc h) due is =
        let ps = (after s es).points in
        let b = given * x.size in
        let q = sphere_at w i in
        let log = tail_log s ps i asked b in
        let rest : Epochs = record { size = x.size; keep = x.keep; begun = epochs_of s ps i x.size b (suc (suc h)) } in
        let long : length (epochs_of s ps i x.size b (suc (suc h))) ≡ suc (suc h) = epochs-length s ps i x.size b (suc (suc h)) in
        let first = epoch_of s ps i b in
        let second = epoch_of s ps i (b + x.size) in
        elim (cases_lt x.keep (suc (suc h))) [
          | inl many ↦ (
              let full : m ≡ x.keep = (let f = k.few in omega (arith, f, is, many)) in
              let limit : (suc given + m) * x.size ≡ (given + m) * x.size + x.size = (let e : suc given + m ≡ suc (given + m) = omega arith in ap (λ (c : ℕ). c * x.size) e ∙ suc-mul (given + m) x.size) in
              let place = place_kept h is due full (second.state.commits - first.state.commits) (size_given h is due full) in
              subst Went (ap (λ (c : Bool). trimmed_by (cond c (Some (first, second)) None) log rest q) (sym (lt-ltb x.keep (length (epochs_of s ps i x.size b (suc (suc h)))) (omega (arith, long, many)))))
              (suc given, m, dropped h is due full, omega (arith, place, due, limit, some))
              )
          | inr few ↦ subst Went (ap (λ (c : Bool). trimmed_by (cond c (Some (first, second)) None) log rest q) (sym (le-ltb x.keep (length (epochs_of s ps i x.size b (suc (suc h)))) (omega (arith, long, few)))))
              (with_one (suc h) due is (omega (arith, is, few)))
        ]

    -- an epoch begins if one is due
    pub begun-kept : Went (epoch_begun kept.memory (sphere_at w i))
    unfolding epoch_begun
    begun-kept =
        let ps = (after s es).points in
        let b = given * x.size in
        let q = sphere_at w i in
        let n = position q.progress in
        let log = tail_log s ps i asked b in
        let now : Epochs = record { size = x.size; keep = x.keep; begun = epochs_of s ps i x.size b m } in
        let count = count-kept s i image asked x there role es w kept whole st in
        let counted : (c : ℕ) → c ≤ n → (epoch_of s ps i c).state.commits ≡ c = (λ c l. epoch-commits s i image asked there role ps st.can c (omega (arith, l, count))) in
        let is : IsInLast x.size (given + m) n = record { next = k.next; last = k.last } in
        let known : begun_in q.role kept.memory q ≡ begun_if log (Some now) kept.memory q = ap (λ (r : Role). begun_in r kept.memory q) k.role in
        elim (cases_Bool (is_due n now)) [
          | inl d ↦ (
              let due : n ≡ (given + m) * x.size = is-due s ps i x.size n some counted given m x.keep is more k.all d in
              let begun : now.begun ++ epoch_at kept.memory log now q ∷ [] ≡ epochs_of s ps i x.size b (suc m) = ap (λ (e : Epoch). now.begun ++ e ∷ []) (epoch_there due) ∙ epochs-snoc s ps i x.size b m in
              subst Went
              (sym (known ∙ ap (λ (c : Bool). cond c (trimmed log (with_epoch (epoch_at kept.memory log now q) now) q) q) d
              ∙ ap (λ (es_ : List Epoch). trimmed log (record { size = x.size; keep = x.keep; begun = es_ }) q) begun))
              (trims m due refl)
              )
          | inr d ↦ subst Went (sym (known ∙ ap (λ (c : Bool). cond c (trimmed log (with_epoch (epoch_at kept.memory log now q) now) q) q) d))
              (given, m, k, not-due s ps i x.size n some counted given m x.keep is d)
        ]
