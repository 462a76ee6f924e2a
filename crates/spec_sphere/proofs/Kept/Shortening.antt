-- The log of points, without what comes before a state, is that of the points after it.
use Rattle.std.proofs.Common.{◌≡◌, ℕ, zero, suc, ◌+◌, ◌-◌, ◌<◌, ◌≤◌, inl, inr, Bool, true, false, not, ◌&&◌, ◌||◌, eqb, cond, List, [], ◌∷◌, ◌++◌, length, drop, None, refl, sym, ap, ◌∙◌, arith}
use Rattle.std.specs.Prelude.{slice_get, nat_le, find}
use Rattle.std.specs.List.{flat_map, filter}
use Rattle.std.proofs.lemmas.Bool.{cases_Bool, cases_lt, eq-eqb, ne_eqb, lt-ltb, le-ltb, le-leb, lt-leb}
use Rattle.std.proofs.lemmas.List.{map-append, length-append, drop_at}
use Rattle.std.proofs.lemmas.List.Elements.{filter-append}
use Rattle.std.proofs.lemmas.Grind.{flat_map-append}
use Rattle.std.proofs.Math.ListN.{drop_of_length-le}
use Rattle.dl_entry.specs.declared.Actor.{Actor}
use Rattle.dl_entry.specs.declared.Point.{Point}
use Rattle.dl_entry.specs.Numbers.{most_threads}
use Rattle.spec_log.specs.declared.ModeName.{ModeName}
use Rattle.spec_log.specs.declared.Interrupt.{Interrupt}
use Rattle.spec_log.specs.declared.DmaRecord.{DmaRecord}
use Rattle.spec_log.specs.declared.ShortSize.{ShortSize}
use Rattle.spec_log.specs.declared.Sizes.{Sizes}
use Rattle.spec_log.specs.Size.{is_thread}
use Rattle.spec_log.specs.Versions.{new_threads}
use Rattle.spec_play.specs.Epochs.{commits_of as done_by, is_masked, was_done, was_raised, sizes_from, log_from}
use Rattle.spec_play.specs.States.{State}
use Rattle.spec_sphere.specs.sphere.Logged.{Supplied, actors_of, sizes_of, is_short_chunk, shorts_of, interrupts_of, listed, inputs_of, data_at, dmas_of, threads, order_in, all_shorts, sizes_in, all_interrupts, logged_after}
use Rattle.spec_sphere.proofs.Logs.Inserting.{is_of_moment}
use Rattle.spec_sphere.proofs.Logs.Entries.{Are, are-below, threads_from}
use Rattle.spec_sphere.proofs.Points.OneMore.{points_so, commits_of, actors-append, sizes-append, shorts-append, are-shorts, interrupts-append, AreInts, are-ints, dmas-append, unchanged}

-- ---- what a test leaves of a list

-- the test gives this of each
abbrev Tests : {X : Type 0} → (X → Bool) → Bool → List X → Type 0
Tests {X} p b [] = Unit {0}
Tests {X} p b (x ∷ xs) = (p x ≡ b) × Tests p b xs

none_pass : {X : Type 0} (p : X → Bool) (xs : List X) → Tests p false xs → filter p xs ≡ []
none_pass p [] t = refl
none_pass {X} p (x ∷ xs) t = ap (λ (b : Bool). cond b (x ∷ filter p xs) (filter p xs)) t.0 ∙ none_pass p xs t.1

all_pass : {X : Type 0} (p : X → Bool) (xs : List X) → Tests p true xs → filter p xs ≡ xs
all_pass p [] t = refl
all_pass {X} p (x ∷ xs) t = ap (λ (b : Bool). cond b (x ∷ filter p xs) (filter p xs)) t.0 ∙ ap (λ (ys : List X). x ∷ ys) (all_pass p xs t.1)

second_passes : {X : Type 0} (p : X → Bool) (xs ys : List X) → Tests p false xs → Tests p true ys → filter p (xs ++ ys) ≡ ys
second_passes {X} p xs ys a b = filter-append p xs ys ∙ (λ j. none_pass p xs a j ++ all_pass p ys b j)

filter_flat : {X : Type 0} (p : X → Bool) (f : ℕ → List X) (ks : List ℕ) → filter p (flat_map f ks) ≡ flat_map (λ (k : ℕ). filter p (f k)) ks
filter_flat p f [] = refl
filter_flat {X} p f (k ∷ ks) = filter-append p (f k) (flat_map f ks) ∙ ap (λ (xs : List X). filter p (f k) ++ xs) (filter_flat p f ks)

same_below : {X : Type 0} (f g : ℕ → List X) (a n : ℕ) → ((k : ℕ) → k < a + n → g k ≡ f k) → flat_map g (threads_from a n) ≡ flat_map f (threads_from a n)
same_below f g a zero same = refl
same_below f g a (suc n) same = (λ j. same a (omega arith) j ++ same_below f g (suc a) n (λ k l. same k (omega (arith, l))) j)

-- what is listed thread by thread is the same where it is for each thread that there can be
unchanged_below : {X : Type 0} (f g : ℕ → List X) → ((k : ℕ) → k < most_threads → g k ≡ f k) → flat_map f threads ≡ flat_map g threads
unchanged_below f g same = sym (same_below f g 0 most_threads (λ k l. same k (omega (arith, l))))

-- ---- entries from an index on

-- these entries are of thread k, and of an index of n or more
abbrev pub AreFrom : {X : Type 0} (thread index : X → ℕ) (k n : ℕ) → List X → Type 0
AreFrom {X} thread index k n [] = Unit {0}
AreFrom {X} thread index k n (y ∷ ys) = (thread y ≡ k) × (n ≤ index y) × AreFrom thread index k n ys

-- so they are from a lower index on
pub from_less : {X : Type 0} (thread index : X → ℕ) (k m n : ℕ) (ys : List X) → m ≤ n → AreFrom thread index k n ys → AreFrom thread index k m ys
from_less thread index k m n [] l a = tt
from_less thread index k m n (y ∷ ys) l a = (a.0, (let h = a.1 in omega arith), from_less thread index k m n ys l a.2)

abbrev pub ShortsFrom : (k n : ℕ) → List ShortSize → Type 0
ShortsFrom k n ss = AreFrom (λ (s : ShortSize). s.thread) (λ (s : ShortSize). s.index) k n ss

abbrev pub IntsFrom : (k n : ℕ) → List Interrupt → Type 0
IntsFrom k n rs = AreFrom (λ (r : Interrupt). r.thread) (λ (r : Interrupt). r.index) k n rs

shorts_from_cond : (k n : ℕ) (b c : Bool) (size : ℕ) (more same : List ShortSize) → ShortsFrom k (suc n) more → ShortsFrom k n same → ShortsFrom k n (cond b (cond c (record { thread = k; index = n; size = size } ∷ more) more) same)
shorts_from_cond k n true true size more same a d = (refl, omega arith, from_less (λ (s : ShortSize). s.thread) (λ (s : ShortSize). s.index) k n (suc n) more (omega arith) a)
shorts_from_cond k n true false size more same a d = from_less (λ (s : ShortSize). s.thread) (λ (s : ShortSize). s.index) k n (suc n) more (omega arith) a
shorts_from_cond k n false c size more same a d = d

-- the short sizes of a thread that has done n commits are of later ones
pub shorts-from : (k n : ℕ) (ps : List Point) → ShortsFrom k n (shorts_of k n ps)
shorts-from k n [] = tt
shorts-from k n (Point.Commit moment i actor kind size short ∷ ps) =
    shorts_from_cond k n (is_thread k actor) (is_short_chunk kind short) size (shorts_of k (suc n) ps) (shorts_of k n ps) (shorts-from k (suc n) ps) (shorts-from k n ps)
shorts-from k n (Point.Raise moment i j value ∷ ps) = shorts-from k n ps

ints_from_cond : (k n : ℕ) (b : Bool) (more same : List Interrupt) → IntsFrom k (suc n) more → IntsFrom k n same → IntsFrom k n (cond b more same)
ints_from_cond k n true more same a d = from_less (λ (r : Interrupt). r.thread) (λ (r : Interrupt). r.index) k n (suc n) more (omega arith) a
ints_from_cond k n false more same a d = d

raise_from_cond : (k n : ℕ) (b : Bool) (value : ℕ) (rest : List Interrupt) → IntsFrom k n rest → IntsFrom k n (cond b (record { thread = k; index = n; value = value } ∷ rest) rest)
raise_from_cond k n true value rest a = (refl, omega arith, a)
raise_from_cond k n false value rest a = a

-- so are its interrupts
pub ints-from : (k n : ℕ) (ps : List Point) → IntsFrom k n (interrupts_of k n ps)
ints-from k n [] = tt
ints-from k n (Point.Commit moment i actor kind size short ∷ ps) = ints_from_cond k n (is_thread k actor) (interrupts_of k (suc n) ps) (interrupts_of k n ps) (ints-from k (suc n) ps) (ints-from k n ps)
ints-from k n (Point.Raise moment i j value ∷ ps) = raise_from_cond k n (eqb j k) value (interrupts_of k n ps) (ints-from k n ps)

-- ---- before and after a state

-- these points are cut where thread k has done `later k` commits, and the state is x: an interrupt that was raised just before is
-- in the state, as its thread is masked, and one that is raised just after it isn't
pub record Cuts (done later : ℕ → ℕ) (before : ℕ) (cs ds : List Supplied) (x : State) : Type 0 where
  pub commits : x.commits ≡ before + length (actors_of (points_so cs))
  pub counted : (k : ℕ) → later k ≡ done k + commits_of k (points_so cs)
  pub threads_ : (k : ℕ) → done_by (slice_get x.threads k) ≡ later k
  pub early : (k : ℕ) → k < most_threads → is_masked (slice_get x.threads k) ≡ false
      → find (is_of_moment (λ (r : Interrupt). r.thread) (λ (r : Interrupt). r.index) k (later k)) (interrupts_of k (done k) (points_so cs)) ≡ None
  pub late : (k : ℕ) → k < most_threads → is_masked (slice_get x.threads k) ≡ true → IntsFrom k (suc (later k)) (interrupts_of k (later k) (points_so ds))

tests_append : {X : Type 0} (p : X → Bool) (b : Bool) (xs ys : List X) → Tests p b xs → Tests p b ys → Tests p b (xs ++ ys)
tests_append p b [] ys s t = t
tests_append p b (x ∷ xs) ys s t = (s.0, tests_append p b xs ys s.1 t)

count_first : (p : Point) (ps : List Point) → length (actors_of (p ∷ ps)) ≡ length (actors_of (p ∷ [])) + length (actors_of ps)
count_first (Point.Commit moment i actor kind size short) ps = omega arith
count_first (Point.Raise moment i k value) ps = omega arith

as_many : (ps : List Point) → length (sizes_of ps) ≡ length (actors_of ps)
as_many [] = refl
as_many (Point.Commit moment i actor kind size short ∷ ps) = ap suc (as_many ps)
as_many (Point.Raise moment i k value ∷ ps) = as_many ps

and_false : (b : Bool) → (b && false) ≡ false
and_false true = refl
and_false false = refl

module _ (done later : ℕ → ℕ) (before : ℕ) (cs ds : List Supplied) (x : State) (cuts : Cuts done later before cs ds x) where
  -- ---- short sizes

  done_before : (k i : ℕ) → i < later k → was_done x.threads k i ≡ true
  done_before k i l = let e = cuts.threads_ k in lt-ltb i (done_by (slice_get x.threads k)) (omega arith)

  done_after : (k i : ℕ) → later k ≤ i → was_done x.threads k i ≡ false
  done_after k i l = let e = cuts.threads_ k in le-ltb i (done_by (slice_get x.threads k)) (omega arith)

  shorts_fail : (k : ℕ) (ss : List ShortSize) → Are (λ (s : ShortSize). s.thread) (λ (s : ShortSize). s.index) k (later k) ss → Tests (λ s. not (was_done x.threads s.thread s.index)) false ss
  shorts_fail k [] a = tt
  shorts_fail k (s ∷ ss) a = (ap (λ (t : ℕ). not (was_done x.threads t s.index)) a.0 ∙ ap not (done_before k s.index a.1), shorts_fail k ss a.2)

  shorts_pass : (k : ℕ) (ss : List ShortSize) → ShortsFrom k (later k) ss → Tests (λ s. not (was_done x.threads s.thread s.index)) true ss
  shorts_pass k [] a = tt
  shorts_pass k (s ∷ ss) a = (ap (λ (t : ℕ). not (was_done x.threads t s.index)) a.0 ∙ ap not (done_after k s.index a.1), shorts_pass k ss a.2)

  shorts_cut : filter (λ s. not (was_done x.threads s.thread s.index)) (all_shorts done (points_so cs ++ points_so ds)) ≡ all_shorts later (points_so ds)
  shorts_cut =
      filter_flat (λ (s : ShortSize). not (was_done x.threads s.thread s.index)) (λ (k : ℕ). shorts_of k (done k) (points_so cs ++ points_so ds)) threads
      ∙ unchanged (λ (k : ℕ). filter (λ s. not (was_done x.threads s.thread s.index)) (shorts_of k (done k) (points_so cs ++ points_so ds))) (λ (k : ℕ). shorts_of k (later k) (points_so ds))
      (λ k.
      let split : shorts_of k (done k) (points_so cs ++ points_so ds) ≡ shorts_of k (done k) (points_so cs) ++ shorts_of k (later k) (points_so ds) =
      shorts-append k (done k) (points_so cs) (points_so ds) ∙ ap (λ (n : ℕ). shorts_of k (done k) (points_so cs) ++ shorts_of k n (points_so ds)) (sym (cuts.counted k)) in
      sym (ap (filter (λ s. not (was_done x.threads s.thread s.index))) split
      ∙ second_passes (λ (s : ShortSize). not (was_done x.threads s.thread s.index)) (shorts_of k (done k) (points_so cs)) (shorts_of k (later k) (points_so ds))
      (shorts_fail k (shorts_of k (done k) (points_so cs)) (are-shorts k (done k) (later k) (points_so cs) (let e = cuts.counted k in omega arith)))
      (shorts_pass k (shorts_of k (later k) (points_so ds)) (shorts-from k (later k) (points_so ds)))))

  -- ---- interrupts

  raised_before : (k i : ℕ) → i < later k → was_raised x.threads k i ≡ true
  raised_before k i l = ap (λ (b : Bool). b || (eqb i (done_by (slice_get x.threads k)) && is_masked (slice_get x.threads k))) (done_before k i l)

  raised_masked : (k i : ℕ) → i < suc (later k) → is_masked (slice_get x.threads k) ≡ true → was_raised x.threads k i ≡ true
  raised_masked k i l m =
      elim (cases_lt i (later k)) [
        | inl below ↦ raised_before k i below
        | inr above ↦ (λ j. done_after k i above j || (eq-eqb i (done_by (slice_get x.threads k)) (let e = cuts.threads_ k in omega (arith, l, above, e)) j && m j))
      ]

  raised_after : (k i : ℕ) → later k ≤ i → (is_masked (slice_get x.threads k) ≡ true → suc (later k) ≤ i) → was_raised x.threads k i ≡ false
  raised_after k i l masked =
      elim (cases_Bool (is_masked (slice_get x.threads k))) [
        | inl m ↦ (λ j. done_after k i l j || (ne_eqb i (done_by (slice_get x.threads k)) (λ h. let e = cuts.threads_ k in let f = masked m in omega arith) j && is_masked (slice_get x.threads k)))
        | inr u ↦ (λ j. done_after k i l j || (eqb i (done_by (slice_get x.threads k)) && u j)) ∙ and_false (eqb i (done_by (slice_get x.threads k)))
      ]

  ints_below : (k : ℕ) (rs : List Interrupt) → AreInts k (later k) rs → Tests (λ r. not (was_raised x.threads r.thread r.index)) false rs
  ints_below k [] a = tt
  ints_below k (r ∷ rs) a = (ap (λ (t : ℕ). not (was_raised x.threads t r.index)) a.0 ∙ ap not (raised_before k r.index a.1), ints_below k rs a.2)

  ints_masked : (k : ℕ) (rs : List Interrupt) → is_masked (slice_get x.threads k) ≡ true → AreInts k (suc (later k)) rs → Tests (λ r. not (was_raised x.threads r.thread r.index)) false rs
  ints_masked k [] m a = tt
  ints_masked k (r ∷ rs) m a = (ap (λ (t : ℕ). not (was_raised x.threads t r.index)) a.0 ∙ ap not (raised_masked k r.index a.1 m), ints_masked k rs m a.2)

  ints_fail : (k : ℕ) → k < most_threads → Tests (λ r. not (was_raised x.threads r.thread r.index)) false (interrupts_of k (done k) (points_so cs))
  ints_fail k l =
      let rs = interrupts_of k (done k) (points_so cs) in
      let are : AreInts k (suc (later k)) rs = are-ints k (done k) (suc (later k)) (points_so cs) (let e = cuts.counted k in omega arith) in
      elim (cases_Bool (is_masked (slice_get x.threads k))) [
        | inl m ↦ ints_masked k rs m are
        | inr u ↦ ints_below k rs (are-below (λ (r : Interrupt). r.thread) (λ (r : Interrupt). r.index) k (later k) rs are (cuts.early k l u))
      ]

  ints_later : (k : ℕ) (rs : List Interrupt) → IntsFrom k (later k) rs → (is_masked (slice_get x.threads k) ≡ true → IntsFrom k (suc (later k)) rs) → Tests (λ r. not (was_raised x.threads r.thread r.index)) true rs
  ints_later k [] a masked = tt
  ints_later k (r ∷ rs) a masked =
      (ap (λ (t : ℕ). not (was_raised x.threads t r.index)) a.0 ∙ ap not (raised_after k r.index a.1 (λ m. (masked m).1)), ints_later k rs a.2 (λ m. (masked m).2))

  ints_cut : filter (λ r. not (was_raised x.threads r.thread r.index)) (all_interrupts done (points_so cs ++ points_so ds)) ≡ all_interrupts later (points_so ds)
  ints_cut =
      filter_flat (λ (r : Interrupt). not (was_raised x.threads r.thread r.index)) (λ (k : ℕ). interrupts_of k (done k) (points_so cs ++ points_so ds)) threads
      ∙ unchanged_below (λ (k : ℕ). filter (λ r. not (was_raised x.threads r.thread r.index)) (interrupts_of k (done k) (points_so cs ++ points_so ds))) (λ (k : ℕ). interrupts_of k (later k) (points_so ds))
      (λ k l.
      let split : interrupts_of k (done k) (points_so cs ++ points_so ds) ≡ interrupts_of k (done k) (points_so cs) ++ interrupts_of k (later k) (points_so ds) =
      interrupts-append k (done k) (points_so cs) (points_so ds) ∙ ap (λ (n : ℕ). interrupts_of k (done k) (points_so cs) ++ interrupts_of k n (points_so ds)) (sym (cuts.counted k)) in
      sym (ap (filter (λ r. not (was_raised x.threads r.thread r.index))) split
      ∙ second_passes (λ (r : Interrupt). not (was_raised x.threads r.thread r.index)) (interrupts_of k (done k) (points_so cs)) (interrupts_of k (later k) (points_so ds))
      (ints_fail k l)
      (ints_later k (interrupts_of k (later k) (points_so ds)) (ints-from k (later k) (points_so ds)) (cuts.late k l))))

  -- ---- data of DMAs

  data_below : (n : ℕ) (p : Point) (bytes : List ℕ) → n + length (actors_of (p ∷ [])) ≤ x.commits → Tests (λ r. nat_le x.commits r.position) false (data_at n p bytes)
  data_below n (Point.Commit moment i Actor.Dma kind size short) bytes l = (lt-leb x.commits n (omega (arith, l)), tt)
  data_below n (Point.Commit moment i (Actor.Thread k) kind size short) bytes l = tt
  data_below n (Point.Raise moment i k value) bytes l = tt

  data_above : (n : ℕ) (p : Point) (bytes : List ℕ) → x.commits ≤ n → Tests (λ r. nat_le x.commits r.position) true (data_at n p bytes)
  data_above n (Point.Commit moment i Actor.Dma kind size short) bytes l = (le-leb x.commits n l, tt)
  data_above n (Point.Commit moment i (Actor.Thread k) kind size short) bytes l = tt
  data_above n (Point.Raise moment i k value) bytes l = tt

  dmas_below : (n : ℕ) (es : List Supplied) → n + length (actors_of (points_so es)) ≤ x.commits → Tests (λ r. nat_le x.commits r.position) false (dmas_of n es)
  dmas_below n [] l = tt
  dmas_below n (e ∷ es) l =
      let h = count_first e.point (points_so es) in
      tests_append (λ (r : DmaRecord). nat_le x.commits r.position) false (data_at n e.point e.bytes) (dmas_of (n + length (actors_of (e.point ∷ []))) es)
      (data_below n e.point e.bytes (omega (arith, l, h)))
      (dmas_below (n + length (actors_of (e.point ∷ []))) es (omega (arith, l, h)))

  dmas_above : (n : ℕ) (es : List Supplied) → x.commits ≤ n → Tests (λ r. nat_le x.commits r.position) true (dmas_of n es)
  dmas_above n [] l = tt
  dmas_above n (e ∷ es) l =
      tests_append (λ (r : DmaRecord). nat_le x.commits r.position) true (data_at n e.point e.bytes) (dmas_of (n + length (actors_of (e.point ∷ []))) es)
      (data_above n e.point e.bytes l)
      (dmas_above (n + length (actors_of (e.point ∷ []))) es (omega (arith, l)))

  dmas_cut : filter (λ r. nat_le x.commits r.position) (dmas_of before (cs ++ ds)) ≡ dmas_of x.commits ds
  dmas_cut =
      ap (filter (λ r. nat_le x.commits r.position)) (dmas-append before cs ds ∙ ap (λ (n : ℕ). dmas_of before cs ++ dmas_of n ds) (sym cuts.commits))
      ∙ second_passes (λ (r : DmaRecord). nat_le x.commits r.position) (dmas_of before cs) (dmas_of x.commits ds)
      (dmas_below before cs (let e = cuts.commits in omega arith)) (dmas_above x.commits ds (omega arith))

  -- ---- the log

  order_cut : (mode : ModeName) → drop (length (actors_of (points_so cs))) (order_in mode (points_so cs ++ points_so ds)) ≡ order_in mode (points_so ds)
  order_cut ModeName.OrderSize = ap (drop (length (actors_of (points_so cs)))) (actors-append (points_so cs) (points_so ds)) ∙ drop_at (actors_of (points_so cs)) (actors_of (points_so ds)) (length (actors_of (points_so cs))) refl
  order_cut ModeName.OrderOnly = ap (drop (length (actors_of (points_so cs)))) (actors-append (points_so cs) (points_so ds)) ∙ drop_at (actors_of (points_so cs)) (actors_of (points_so ds)) (length (actors_of (points_so cs))) refl
  order_cut ModeName.Picolog = drop_of_length-le [] (omega arith)

  sizes_cut : (mode : ModeName) → sizes_from (length (actors_of (points_so cs))) x.threads (sizes_in mode done (points_so cs ++ points_so ds)) ≡ sizes_in mode later (points_so ds)
  sizes_cut ModeName.OrderSize =
      ap (λ (ns : List ℕ). Sizes.Each (drop (length (actors_of (points_so cs))) ns)) (sizes-append (points_so cs) (points_so ds))
      ∙ ap Sizes.Each (drop_at (sizes_of (points_so cs)) (sizes_of (points_so ds)) (length (actors_of (points_so cs))) (as_many (points_so cs)))
  sizes_cut ModeName.OrderOnly = ap Sizes.Short shorts_cut
  sizes_cut ModeName.Picolog = ap Sizes.Short shorts_cut

  -- the log of all, without what comes before the state
  pub log-cut : (version : ℕ) (mode : ModeName) (s : ℕ) → log_from (length (actors_of (points_so cs))) (length (inputs_of cs)) x (logged_after version mode s done before (cs ++ ds)) ≡ logged_after version mode s later x.commits ds
  log-cut version mode s =
      let n = length (actors_of (points_so cs)) in
      let all : points_so (cs ++ ds) ≡ points_so cs ++ points_so ds = map-append (λ (c : Supplied). c.point) cs ds in
      let count : length (actors_of (points_so (cs ++ ds))) - n ≡ length (actors_of (points_so ds)) =
      (let a = ap (λ (ps : List Point). length (actors_of ps)) all in let b = ap (λ (as_ : List Actor). length as_) (actors-append (points_so cs) (points_so ds)) in let c = length-append (actors_of (points_so cs)) (actors_of (points_so ds)) in omega arith) in
      (λ j. record {
        version = version;
        threads = new_threads version;
        mode = mode;
        s = s;
        count = count j;
        order = (ap (λ (ps : List Point). drop n (order_in mode ps)) all ∙ order_cut mode) j;
        sizes = (ap (λ (ps : List Point). sizes_from n x.threads (sizes_in mode done ps)) all ∙ sizes_cut mode) j;
        interrupts = (ap (λ (ps : List Point). filter (λ r. not (was_raised x.threads r.thread r.index)) (all_interrupts done ps)) all ∙ ints_cut) j;
        inputs = (ap (drop (length (inputs_of cs))) (flat_map-append (λ (c : Supplied). listed c.input) cs ds) ∙ drop_at (inputs_of cs) (inputs_of ds) (length (inputs_of cs)) refl) j;
        dmas = dmas_cut j;
      })
