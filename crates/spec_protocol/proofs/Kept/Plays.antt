-- The play of a whole log comes to each epoch's beginning.
use Rattle.std.proofs.Common.{◌≡◌, ◌≢◌, ℕ, zero, suc, ◌+◌, ◌<◌, ◌≤◌, inl, inr, Bool, true, false, ◌&&◌, eqb, cond, List, [], ◌∷◌, ◌++◌, length, Option, Some, None, refl, sym, ap, ◌∙◌, subst, arith}
use Rattle.std.specs.Prelude.{slice_get, find, option_map}
use Rattle.std.specs.List.{flat_map}
use Rattle.std.proofs.lemmas.Bool.{true≢false, cases_Bool, cases_eq, cases_lt}
use Rattle.std.proofs.lemmas.List.{append-nil, append_assoc, map-append}
use Rattle.std.proofs.lemmas.Option.{same_Some, none-some, slice_get_within, get_or_from_slice_get}
use Rattle.dl_entry.specs.Numbers.{most_threads}
use Rattle.dl_entry.specs.declared.Point.{Point}
use Rattle.spec_isa.specs.declared.thread.Parts.{Parts}
use Rattle.spec_log.specs.declared.Interrupt.{Interrupt}
use Rattle.spec_log.specs.declared.LogParts.{LogParts}
use Rattle.spec_play.specs.Progress.{Progress, position}
use Rattle.spec_play.specs.Verdicts.{interrupt_at}
use Rattle.spec_play.specs.Epochs.{commits_of as done_by, is_masked}
use Rattle.spec_play.specs.Plays.{Played, opened, plays}
use Rattle.spec_protocol.specs.declared.event.Event.{Event}
use Rattle.spec_sphere.specs.sphere.Spheres.{Recording, Role, Record, Sphere, no_sphere}
use Rattle.spec_protocol.specs.machine.World.{Numbers, World, sphere_at}
use Rattle.spec_sphere.specs.sphere.Setups.{all_of, first_played, RecordSetup, RoleSetup, IsRecorded, new_recording, SphereSetup, live_sphere, sphere_as}
use Rattle.spec_protocol.specs.machine.Machine.{Setup, with_point, world_of, happens, world_after, moves}
use Rattle.spec_protocol.specs.machine.Serial.{SerialState, serial_start, do_points, serial, CanDoAll}
use Rattle.spec_protocol.specs.machine.Shown.{shown, shown_of}
use Rattle.spec_sphere.specs.sphere.Logged.{Supplied, interrupts_of, inputs_of, all_interrupts}
use Rattle.spec_protocol.specs.machine.Logged.{sphere_in, supplied, done_in}
use Rattle.spec_sphere.specs.sphere.Kept.{is_commit_of, points_until, points_since}
use Rattle.spec_protocol.specs.machine.Kept.{serial_until, epoch_of, supplied_since, tail_log}
use Rattle.spec_protocol.specs.promises.Promises.{IsSetup, after}
use Rattle.spec_protocol.specs.promises.LogsOfPoints.{log_of_points}
use Rattle.spec_sphere.specs.promises.Kept.{after_raise, HasComeTo}
use Rattle.spec_protocol.specs.promises.Kept.{EpochsAreOfPlays}
use Rattle.spec_sphere.proofs.Logs.Inserting.{both_tests, is_of_moment, found_first}
use Rattle.spec_sphere.proofs.Logs.Lookups.{none-there}
use Rattle.spec_sphere.proofs.Logs.Entries.{part-none, threads_from}
use Rattle.spec_sphere.proofs.Logs.Growing.{Ahead}
use Rattle.spec_sphere.proofs.Logs.Coming.{ahead-end}
use Rattle.spec_sphere.proofs.PlayingBack.Following.{early_by, Follows}
use Rattle.spec_protocol.proofs.PlayingBack.All.{Comes, moves_come}
use Rattle.spec_sphere.proofs.PlayingBack.All.{start-stands, start_reaches}
use Rattle.spec_sphere.proofs.Points.OneMore.{points_so, interrupts-append}
use Rattle.spec_protocol.proofs.Points.Counts.{points_made}
use Rattle.spec_sphere.proofs.Points.KeptLogs.{new-most, log_by, keeping}
use Rattle.spec_protocol.proofs.Points.Logs.{how_kept}
use Rattle.spec_protocol.proofs.Invariants.Schedules.{start-sphere, Serial, moves_serial, moves_are, invariants_hold, sizes_kept}
use Rattle.spec_protocol.proofs.Sound.Schedules.{setup-within}
use Rattle.spec_sphere.proofs.Kept.Cutting.{commits_among, among-append, until-since, until-more, since-all}
use Rattle.spec_sphere.proofs.Kept.Shortening.{IntsFrom, ints-from, Cuts}
use Rattle.spec_protocol.proofs.Kept.Base.{cuts_at}
use Rattle.spec_protocol.proofs.Kept.Tails.{done-among}
use Rattle.spec_protocol.proofs.Kept.Holding.{none_of_all, split-at, base_holds}
use Rattle.spec_protocol.proofs.Kept.Standing.{Stand, stands}

-- ---- a commit is of an event

-- these events have made the n-th commit of sphere i, and nothing after it
pub record Commits (i n : ℕ) (w : World) (es : List Event) : Type 0 where
  pub first : List Event
  pub rest : List Event
  pub all : es ≡ first ++ rest
  pub count : commits_among i (world_after w first).points ≡ n
  pub until : points_until i n (world_after w first).points ≡ (world_after w first).points

after-both : (w : World) (es fs : List Event) → world_after w (es ++ fs) ≡ world_after (world_after w es) fs
after-both w [] fs = refl
after-both w (e ∷ es) fs = after-both (happens w e).world es fs

-- points only grow
pub points_grow : (w : World) (es : List Event) → (qs : List Point) × ((world_after w es).points ≡ w.points ++ qs)
points_grow w [] = ([], sym (append-nil w.points))
points_grow w (e ∷ es) =
    let a = happens w e in
    let g = points_grow a.world es in
    elim a.point as (λ (o : Option Point). a.point ≡ o → (qs : List Point) × ((world_after a.world es).points ≡ w.points ++ qs)) [
      | None ↦ λ is. (g.0, g.1 ∙ ap (λ (ps : List Point). ps ++ g.0) ((points_made w e).kept ∙ ap (λ (o : Option Point). with_point o w.points) is))
      | Some p ↦ λ is. (p ∷ g.0, g.1 ∙ ap (λ (ps : List Point). ps ++ g.0) ((points_made w e).kept ∙ ap (λ (o : Option Point). with_point o w.points) is) ∙ append_assoc w.points (p ∷ []) g.0)
    ] refl

until_last : (i : ℕ) (ps : List Point) (p : Point) → is_commit_of i p ≡ true → points_until i (suc (commits_among i ps)) (ps ++ p ∷ []) ≡ ps ++ p ∷ []
until_last i ps p e =
    let n = suc (commits_among i ps) in
    sym (append-nil (points_until i n (ps ++ p ∷ []))) ∙ ap (λ (qs : List Point). points_until i n (ps ++ p ∷ []) ++ qs) (sym (since-all i ps p e)) ∙ until-since i n (ps ++ p ∷ [])

-- what one event makes
record Step (i m : ℕ) (ps qs : List Point) : Type 0 where
  few : suc m ≤ commits_among i qs → (commits_among i qs ≡ suc m) × (points_until i (suc m) qs ≡ qs)

stepped : (i m : ℕ) (ps : List Point) (o : Option Point) → commits_among i ps ≤ m → Step i m ps (with_point o ps)
stepped i m ps None l = record { few = λ h. absurd (omega (arith, l, h)) }
stepped i m ps (Some p) l =
    elim (cases_Bool (is_commit_of i p)) [
      | inl c ↦ (
          let one : commits_among i (ps ++ p ∷ []) ≡ suc (commits_among i ps) = among-append i ps (p ∷ []) ∙ ap (λ (b : Bool). commits_among i ps + cond b 1 0) c ∙ omega arith in
          record {
            few = λ h.
                let same : commits_among i ps ≡ m = omega (arith, one, h, l) in
                (one ∙ ap suc same, subst (λ (n : ℕ). points_until i (suc n) (ps ++ p ∷ []) ≡ ps ++ p ∷ []) same (until_last i ps p c));
          }
          )
      | inr c ↦ (
          let none : commits_among i (ps ++ p ∷ []) ≡ commits_among i ps = among-append i ps (p ∷ []) ∙ ap (λ (b : Bool). commits_among i ps + cond b 1 0) c ∙ omega arith in
          record { few = λ h. absurd (omega (arith, none, h, l)) }
          )
    ]

commits_from : (i m : ℕ) (w : World) (es : List Event) → commits_among i w.points ≤ m → suc m ≤ commits_among i (world_after w es).points → Commits i (suc m) w es
commits_from i m w [] l h = absurd (omega (arith, l, h))
commits_from i m w (e ∷ es) l h =
    let v : World = (happens w e).world in
    let step : Step i m w.points v.points = subst (Step i m w.points) (sym (points_made w e).kept) (stepped i m w.points (happens w e).point l) in
    elim (cases_lt m (commits_among i v.points)) [
      | inl reached ↦ (
          let s = step.few reached in
          record { first = e ∷ []; rest = es; all = refl; count = s.0; until = s.1 }
          )
      | inr below ↦ (
          let c = commits_from i m v es below h in
          record { first = e ∷ c.first; rest = c.rest; all = ap (λ (fs : List Event). e ∷ fs) c.all; count = c.count; until = c.until }
          )
    ]

-- each number of commits was reached so
pub commits_at : (s : Setup) (i n : ℕ) (es : List Event) → n ≤ commits_among i (after s es).points → Commits i n (world_of s) es
commits_at s i zero es l = record { first = []; rest = es; all = refl; count = refl; until = refl }
commits_at s i (suc m) es l = commits_from i m (world_of s) es (omega arith) l

-- ---- interrupts before and after

find_second : {X : Type 0} (test : X → Bool) (xs ys : List X) → find test xs ≡ None → find test (xs ++ ys) ≡ find test ys
find_second test [] ys e = refl
find_second {X} test (x ∷ xs) ys e =
    let p = found_first test x xs e in
    ap (λ (b : Bool). cond b (Some x) (find test (xs ++ ys))) p.0 ∙ find_second test xs ys p.1

find_first : {X : Type 0} (test : X → Bool) (xs ys zs : List X) → find test ys ≡ find test zs → find test (xs ++ ys) ≡ find test (xs ++ zs)
find_first test [] ys zs e = e
find_first {X} test (x ∷ xs) ys zs e = ap (λ (o : Option X). cond (test x) (Some x) o) (find_first test xs ys zs e)

second_from : {X : Type 0} (test : X → Bool) (f g h : ℕ → List X) (a n : ℕ) → ((k : ℕ) → k < a + n → (h k ≡ f k ++ g k) × (find test (f k) ≡ None)) → find test (flat_map h (threads_from a n)) ≡ find test (flat_map g (threads_from a n))
second_from test f g h a zero each = refl
second_from {X} test f g h a (suc n) each =
    let e = each a (omega arith) in
    let rest = second_from test f g h (suc a) n (λ k l. each k (omega (arith, l))) in
    ap (λ (xs : List X). find test (xs ++ flat_map h (threads_from (suc a) n))) e.0
    ∙ ap (find test) (append_assoc (f a) (g a) (flat_map h (threads_from (suc a) n)))
    ∙ find_second test (f a) (g a ++ flat_map h (threads_from (suc a) n)) e.1
    ∙ find_first test (g a) (flat_map h (threads_from (suc a) n)) (flat_map g (threads_from (suc a) n)) rest

none_later : (k n : ℕ) (rs : List Interrupt) → IntsFrom k (suc n) rs → find (is_of_moment (λ (r : Interrupt). r.thread) (λ (r : Interrupt). r.index) k n) rs ≡ None
none_later k n [] a = refl
none_later k n (r ∷ rs) a =
    ap (λ (b : Bool). cond b (Some r) (find (is_of_moment (λ (x : Interrupt). x.thread) (λ (x : Interrupt). x.index) k n) rs)) (both_tests r.thread r.index k n (λ e f. let l = a.1 in omega (arith, f, l)))
    ∙ none_later k n rs a.2

none_other : (k j n m : ℕ) (rs : List Interrupt) → j ≢ k → IntsFrom j m rs → find (is_of_moment (λ (r : Interrupt). r.thread) (λ (r : Interrupt). r.index) k n) rs ≡ None
none_other k j n m [] ne a = refl
none_other k j n m (r ∷ rs) ne a =
    ap (λ (b : Bool). cond b (Some r) (find (is_of_moment (λ (x : Interrupt). x.thread) (λ (x : Interrupt). x.index) k n) rs)) (both_tests r.thread r.index k n (λ e f. ne (sym a.0 ∙ e)))
    ∙ none_other k j n m rs ne a.2

early_raised : (o : Option ℕ) (t : Parts) → early_by None o t ≡ after_raise o t
early_raised None t = refl
early_raised (Some v) t = refl

-- sphere i is recorded; the n-th of its commits is among the points
module _ (s : Setup) (i : ℕ) (image : SphereSetup) (asked : RecordSetup) (there : slice_get s.spheres i ≡ Some image) (role : image.role ≡ IsRecorded asked) (ps : List Point) (n : ℕ) (can : CanDoAll (serial_start s) ps) where
  -- an interrupt that isn't in the log up to the state is found in the whole log as in that since
  found_since : (k j : ℕ) → interrupt_at (all_interrupts (λ (h : ℕ). 0) (points_so (supplied i (serial_start s) (points_until i n ps)))) k j ≡ None
      → interrupt_at (all_interrupts (λ (h : ℕ). 0) (points_so (supplied i (serial_start s) ps))) k j ≡ interrupt_at (tail_log s ps i asked n).interrupts k j
  found_since k j none =
      let c = supplied i (serial_start s) (points_until i n ps) in
      let d = supplied_since s ps i n in
      let done = done_in (serial_until s ps i n) i in
      let test = is_of_moment (λ (r : Interrupt). r.thread) (λ (r : Interrupt). r.index) k j in
      let all : points_so (supplied i (serial_start s) ps) ≡ points_so c ++ points_so d = ap points_so (split-at s i image asked there role ps n) ∙ map-append (λ (x : Supplied). x.point) c d in
      let before = none-there (all_interrupts (λ (h : ℕ). 0) (points_so c)) k j none in
      ap (option_map (λ (r : Interrupt). r.value))
      (second_from test (λ (t : ℕ). interrupts_of t 0 (points_so c)) (λ (t : ℕ). interrupts_of t (done t) (points_so d)) (λ (t : ℕ). interrupts_of t 0 (points_so (supplied i (serial_start s) ps))) 0 most_threads
      (λ t l. (
        ap (interrupts_of t 0) all ∙ interrupts-append t 0 (points_so c) (points_so d) ∙ ap (λ (m : ℕ). interrupts_of t 0 (points_so c) ++ interrupts_of t m (points_so d)) ((base_holds s i image asked there role ps n can).commits t),
        part-none test (λ (h : ℕ). interrupts_of h 0 (points_so c)) t (omega (arith, l)) before,
      )))

  -- a thread that handles an interrupt has none in the log since the state, at its number of commits there
  none_handled : (k : ℕ) (t : Parts) → k < most_threads → slice_get (sphere_in (serial_until s ps i n) i).threads k ≡ Some t → t.mask ≡ true → interrupt_at (tail_log s ps i asked n).interrupts k t.commits ≡ None
  none_handled k t l is mask =
      let z = serial_until s ps i n in
      let d = supplied_since s ps i n in
      let done = done_in z i in
      let count : done k ≡ t.commits = ap done_by is in
      let test = is_of_moment (λ (r : Interrupt). r.thread) (λ (r : Interrupt). r.index) k t.commits in
      let cuts = cuts_at s i image asked there role [] (points_until i n ps) (points_since i n ps) (subst (CanDoAll (serial_start s)) (sym (until-since i n ps)) can) in
      let own : IntsFrom k (suc t.commits) (interrupts_of k (done k) (points_so d)) = subst (λ (c : ℕ). IntsFrom k (suc c) (interrupts_of k (done k) (points_so d))) count (cuts.late k l (ap is_masked is ∙ mask)) in
      ap (option_map (λ (r : Interrupt). r.value))
      (none_of_all test (λ (h : ℕ). interrupts_of h (done h) (points_so d))
      (λ h _. elim (cases_eq h k) [
        | inl e ↦ ap (λ (j : ℕ). find test (interrupts_of j (done j) (points_so d))) e ∙ none_later k t.commits (interrupts_of k (done k) (points_so d)) own
        | inr ne ↦ none_other k h t.commits (done h) (interrupts_of h (done h) (points_so d)) ne (ints-from h (done h) (points_so d))
      ]))

  -- so the play, which takes interrupts as soon as it can, has taken those that come right after the state
  raised_by : (k : ℕ) (t : Parts) (o : Option ℕ) → k < most_threads → slice_get (sphere_in (serial_until s ps i n) i).threads k ≡ Some t
      → interrupt_at (all_interrupts (λ (h : ℕ). 0) (points_so (supplied i (serial_start s) (points_until i n ps)))) k t.commits ≡ o
      → early_by o (interrupt_at (all_interrupts (λ (h : ℕ). 0) (points_so (supplied i (serial_start s) ps))) k t.commits) t
      ≡ after_raise (interrupt_at (tail_log s ps i asked n).interrupts k t.commits) t
  raised_by k t None l is e = early_raised _ t ∙ ap (λ (o : Option ℕ). after_raise o t) (found_since k t.commits e)
  raised_by k t (Some v) l is e =
      elim (cases_Bool t.mask) [
        | inl mask ↦ sym (ap (λ (o : Option ℕ). after_raise o t) (none_handled k t l is mask))
        | inr free ↦ absurd (none-some v (sym ((base_holds s i image asked there role ps n can).fresh.unmasked k t is free) ∙ e))
      ]

-- ---- the play

same_record : (a b : Recording) → Record a ≡ Record b → a ≡ b
same_record a b e = cc

-- after some of the events the play of the log in the end stands where the sphere stands
follows_to : (s : Setup) (es fs : List Event) (i : ℕ) (image : SphereSetup) (asked : RecordSetup) → IsSetup s → slice_get s.spheres i ≡ Some image → image.role ≡ IsRecorded asked
    → let v = after s es in
    let p = shown v.slots i (sphere_at v i) in
    let log = log_of_points s (es ++ fs) i asked in
    Follows log p (log_of_points s es i asked) (plays log (opened log image.memory image.entry) (position p.progress))
follows_to s es fs i image asked is there role =
    let v : World = after s es in
    let u : World = after s (es ++ fs) in
    let z : ℕ = s.numbers.s in
    let begins : Role = Record (new_recording asked z) in
    let how = how_kept s asked in
    let p : Sphere = shown v.slots i (sphere_at v i) in
    let end : Sphere = shown u.slots i (sphere_at u i) in
    let st : Stand s es v i asked p p = stands s es v i image asked is there role refl in
    let st2 : Stand s (es ++ fs) u i asked end end = stands s (es ++ fs) u i image asked is there role refl in
    let m = moves_are s es is in
    let a = moves_come s.numbers (serial_start s) (moves (world_of s) es) i (live_sphere image begins) (new_recording asked z) is.buffer refl
    (start-sphere z s.spheres i image there ∙ ap (λ (r : RoleSetup). Some (sphere_as z image r)) role) refl m.possible in
    let here : a.sphere ≡ p = same_Some _ _ (sym a.there ∙ ap (λ (x : SerialState). slice_get x.spheres i) (sym m.same) ∙ st.there) in
    let log1 : a.recording.log ≡ log_of_points s es i asked =
    (let e : Record a.recording ≡ Record (keeping how (log_by how (supplied i (serial_start s) v.points))) = sym a.role ∙ ap (λ (q : Sphere). q.role) here ∙ st.keeps.role in
    ap (λ (r : Recording). r.log) (same_record a.recording (keeping how (log_by how (supplied i (serial_start s) v.points))) e)) in
    let r = moves_serial v fs (invariants_hold s es is) in
    let b = moves_come v.numbers (shown_of v) (moves v fs) i a.sphere a.recording (invariants_hold s es is).buffer
    (a.grown.s ∙ ap (λ (x : Numbers). x.s) (sym (sizes_kept s es is).numbers)) (st.there ∙ ap Some (sym here)) a.role r.possible in
    let later : world_after v fs ≡ u = sym (after-both (world_of s) es fs) in
    let there_ : b.sphere ≡ end = same_Some _ _ (sym b.there ∙ ap (λ (x : SerialState). slice_get x.spheres i) (sym r.same) ∙ ap (λ (w : World). slice_get (shown_of w).spheres i) later ∙ st2.there) in
    let log2 : b.recording.log ≡ log_of_points s (es ++ fs) i asked =
    (let e : Record b.recording ≡ Record (keeping how (log_by how (supplied i (serial_start s) u.points))) = sym b.role ∙ ap (λ (q : Sphere). q.role) there_ ∙ st2.keeps.role in
    ap (λ (r : Recording). r.log) (same_record b.recording (keeping how (log_by how (supplied i (serial_start s) u.points))) e)) in
    let L : LogParts = b.recording.log in
    let ahead : Ahead L a.sphere a.recording.log = b.grown.ahead L (ahead-end b.sphere L) in
    let reached : Follows L a.sphere a.recording.log (plays L (first_played image (all_of L)) (position a.sphere.progress)) =
    a.grown.reaches L (first_played image (all_of L)) (start-stands z image begins asked.version asked.mode) ahead
    (start_reaches L z image begins asked.version asked.mode (a.grown.ahead L ahead))
    in
    subst (λ (x : LogParts). Follows x p (log_of_points s es i asked) (plays x (opened x image.memory image.entry) (position p.progress))) log2
    (subst (λ (q : Sphere). Follows L q (log_of_points s es i asked) (plays L (opened L image.memory image.entry) (position q.progress))) here
    (subst (λ (x : LogParts). Follows L a.sphere x (plays L (opened L image.memory image.entry) (position a.sphere.progress))) log1 reached))

-- the play of the whole log comes to where each epoch begins
pub epochs_of_plays : EpochsAreOfPlays
epochs_of_plays s es i image asked n limits there role l =
    let is = setup-within s limits in
    let u : World = after s es in
    let ps = u.points in
    let whole : Sphere = shown u.slots i (sphere_at u i) in
    let st2 : Stand s es u i asked whole whole = stands s es u i image asked is there role refl in
    let among : n ≤ commits_among i ps = (let d = done-among s i image asked there role ps st2.can in omega (arith, l, d)) in
    let c = commits_at s i n es among in
    let v : World = after s c.first in
    let p : Sphere = shown v.slots i (sphere_at v i) in
    let st : Stand s c.first v i asked p p = stands s c.first v i image asked is there role refl in
    let log = log_of_points s es i asked in
    let follows : Follows log p (log_of_points s c.first i asked) (plays log (opened log image.memory image.entry) (position p.progress)) =
    subst (λ (fs : List Event). let x = log_of_points s fs i asked in Follows x p (log_of_points s c.first i asked) (plays x (opened x image.memory image.entry) (position p.progress))) (sym c.all)
    (follows_to s c.first c.rest i image asked is there role) in
    let grow = points_grow v c.rest in
    let all : ps ≡ v.points ++ grow.0 = ap (λ (fs : List Event). (after s fs).points) c.all ∙ ap (λ (w : World). w.points) (after-both (world_of s) c.first c.rest) ∙ grow.1 in
    let until : points_until i n ps ≡ v.points = ap (points_until i n) all ∙ until-more i n v.points grow.0 (let k = c.count in omega arith) ∙ c.until in
    let state : serial_until s ps i n ≡ serial s v.points = ap (do_points (serial_start s)) until in
    let sphere : sphere_in (serial_until s ps i n) i ≡ p = ap (λ (x : SerialState). sphere_in x i) state ∙ get_or_from_slice_get (serial s v.points).spheres i p no_sphere st.is in
    let place : position p.progress ≡ n =
    ap (λ (q : Sphere). position q.progress) (sym (get_or_from_slice_get (serial s v.points).spheres i p no_sphere st.is)) ∙ done-among s i image asked there role v.points st.can ∙ c.count in
    let told : supplied i (serial_start s) (points_until i n ps) ≡ supplied i (serial_start s) v.points = ap (supplied i (serial_start s)) until in
    let f : Follows log p (log_of_points s c.first i asked) (plays log (opened log image.memory image.entry) n) =
    subst (λ (k : ℕ). Follows log p (log_of_points s c.first i asked) (plays log (opened log image.memory image.entry) k)) place follows in
    record {
      commits = ap position f.progress ∙ ap (λ (q : Sphere). position q.progress) (sym sphere);
      memory = f.memory ∙ ap (λ (q : Sphere). q.memory) (sym sphere);
      request = ap (λ (g : Progress). g.request) f.progress ∙ ap (λ (q : Sphere). q.progress.request) (sym sphere);
      last = ap (λ (g : Progress). g.last) f.progress ∙ ap (λ (q : Sphere). q.progress.last) (sym sphere);
      inputs = f.inputs ∙ ap (λ (cs : List Supplied). length (inputs_of cs)) (sym told);
      many = f.size ∙ ap (λ (q : Sphere). length q.threads) (sym sphere);
      threads = λ k t e.
          let at_ : slice_get p.threads k ≡ Some t = ap (λ (q : Sphere). slice_get q.threads k) (sym sphere) ∙ e in
          let below : k < most_threads = (let h = slice_get_within p.threads k t at_ in let a = st.keeps.few in let b = new-most asked.version in omega arith) in
          f.threads k t at_
          ∙ ap (λ (cs : List Supplied). Some (early_by (interrupt_at (all_interrupts (λ (h : ℕ). 0) (points_so cs)) k t.commits) (interrupt_at log.interrupts k t.commits) t)) (sym told)
          ∙ ap Some (raised_by s i image asked there role ps n st2.can k t _ below e refl);
    }
