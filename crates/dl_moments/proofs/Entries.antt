-- Entries by thread and index are put and found in lists of threads as in one list.
use Rattle.std.proofs.Common.{◌≡◌, ℕ, zero, suc, ◌+◌, ◌<◌, ◌==◌, nat_le, nat_lt, Bool, true, false, ◌&&◌, List, [], ◌∷◌, ◌++◌, length, map, drop, slice_index, get_or, Option, Some, None, option_map, find, inl, inr, refl, ap, sym, ◌∙◌, arith, add-one}
use Rattle.std.proofs.Math.ListN.{set}
use Rattle.std.specs.List.{list_all, filter}
use Rattle.std.proofs.lemmas.Bool.{lt-ltb, le-ltb, eq-eqb, ne_eqb, cases_lt, cases_eq, cases_Bool}
use Rattle.std.proofs.lemmas.List.{drop_more}
use Rattle.std.proofs.lemmas.List.Elements.{filter-append}
use Rattle.spec_log.specs.Noting.{insert_by}
use Rattle.spec_log.specs.Reading.{is_earlier}
use Rattle.dl_moments.specs.declared.lane.Mark.{Mark}
use Rattle.dl_moments.specs.Marks.{with_mark, marks_from, lanes_from, value_at}
use Rattle.dl_moments.specs.Entries.{entries_from}

-- of entries of two threads, that of the lower thread is earlier
pub earlier-lower : (t i u j : ℕ) → t < u → is_earlier t i u j ≡ true
earlier-lower t i u j h = rw (lt-ltb t u h) refl

-- of two entries of the same thread, that of the lower index is earlier
pub earlier-same : (t i j : ℕ) → is_earlier t i t j ≡ nat_lt i j
earlier-same t i j = rw (le-ltb t t (omega arith), eq-eqb t t refl) refl

earlier-higher : (t i u j : ℕ) → u < t → is_earlier t i u j ≡ false
earlier-higher t i u j h = rw (le-ltb t u (omega arith), ne_eqb t u (λ e. omega arith)) refl

module _ {V X : Type 0} (thread index : X → ℕ) (entry : ℕ → Mark V → X)
    (is_thread : (t : ℕ) (m : Mark V) → thread (entry t m) ≡ t) (is_index : (t : ℕ) (m : Mark V) → index (entry t m) ≡ m.index) where
  abbrev mark : ℕ → V → Mark V
  mark i v = record { index = i; value = v }

  -- an entry of a lower thread is in front
  insert-front : (lanes : List (List (Mark V))) (t u : ℕ) (n : Mark V) → u < t
      → insert_by thread index (entry u n) (entries_from entry t lanes) ≡ entry u n ∷ entries_from entry t lanes
  insert-front [] t u n h = refl
  insert-front ([] ∷ lanes) t u n h = insert-front lanes (suc t) u n (omega arith)
  insert-front ((m ∷ lane) ∷ lanes) t u n h =
      rw (is_thread t m, is_index t m, is_thread u n, is_index u n, earlier-higher t m.index u n.index h, ne_eqb t u (λ e. omega arith)) refl

  -- an entry of a higher thread goes past a lane
  insert-past : (lane : List (Mark V)) (rest : List X) (t u : ℕ) (n : Mark V) → t < u
      → insert_by thread index (entry u n) (map (entry t) lane ++ rest) ≡ map (entry t) lane ++ insert_by thread index (entry u n) rest
  insert-past [] rest t u n h = refl
  insert-past (m ∷ lane) rest t u n h =
      rw (is_thread t m, is_index t m, is_thread u n, is_index u n, earlier-lower t m.index u n.index h)
      (ap (λ (xs : List X). entry t m ∷ xs) (insert-past lane rest t u n h))

  -- an entry of this thread finds its place in the lane
  insert-within : (lane : List (Mark V)) (lanes : List (List (Mark V))) (t i : ℕ) (v : V)
      → map (entry t) (with_mark i v lane) ++ entries_from entry (suc t) lanes
      ≡ insert_by thread index (entry t (mark i v)) (map (entry t) lane ++ entries_from entry (suc t) lanes)
  insert-within [] lanes t i v = sym (insert-front lanes (suc t) t (mark i v) (omega arith))
  insert-within (m ∷ lane) lanes t i v =
      rw (is_thread t m, is_index t m, is_thread t (mark i v), is_index t (mark i v), earlier-same t m.index i, eq-eqb t t refl)
      (elim (cases_lt m.index i) [
        | inl less ↦ rw (lt-ltb m.index i less, ← insert-within lane lanes t i v) refl
        | inr more ↦ elim (cases_eq m.index i) [
          | inl same ↦ rw (le-ltb m.index i more, eq-eqb m.index i same) refl
          | inr other ↦ rw (le-ltb m.index i more, ne_eqb m.index i other) refl
        ]
      ])

  insert-lane : (lanes : List (List (Mark V))) (base t u i : ℕ) (v : V) → u ≡ base + t → t < length lanes
      → entries_from entry base (set lanes t (with_mark i v (get_or lanes t []))) ≡ insert_by thread index (entry u (mark i v)) (entries_from entry base lanes)
  insert-lane [] base t u i v e h = absurd (omega arith)
  insert-lane (lane ∷ lanes) base zero u i v e h =
      let same : u ≡ base = omega arith in rw same (insert-within lane lanes base i v)
  insert-lane (lane ∷ lanes) base (suc t) u i v e h =
      rw (insert-lane lanes (suc base) t u i v (omega arith) (omega arith))
      (sym (insert-past lane (entries_from entry (suc base) lanes) base u (mark i v) (omega arith)))

  -- a value put into its thread's lane is inserted into the list
  pub insert-put : (lanes : List (List (Mark V))) (t i : ℕ) (v : V) → t < length lanes
      → entries_from entry 0 (set lanes t (with_mark i v (get_or lanes t []))) ≡ insert_by thread index (entry t (mark i v)) (entries_from entry 0 lanes)
  insert-put lanes t i v h = insert-lane lanes 0 t t i v (omega arith) h

  -- cutting

  abbrev passes : List ℕ → X → Bool
  passes starts x = nat_le (slice_index starts (thread x)) (index x)

  filter-lane : (starts : List ℕ) (t : ℕ) (lane : List (Mark V)) → filter (passes starts) (map (entry t) lane) ≡ map (entry t) (marks_from (slice_index starts t) lane)
  filter-lane starts t [] = refl
  filter-lane starts t (m ∷ lane) =
      rw (is_thread t m, is_index t m)
      (elim (cases_Bool (nat_le (slice_index starts t) m.index)) [
        | inl e ↦ rw e (ap (λ (xs : List X). entry t m ∷ xs) (filter-lane starts t lane))
        | inr e ↦ rw e (filter-lane starts t lane)
      ])

  -- each thread's values from its start on are the entries from there on
  pub filter-from : (starts : List ℕ) (t : ℕ) (lanes : List (List (Mark V)))
      → entries_from entry t (lanes_from starts t lanes) ≡ filter (passes starts) (entries_from entry t lanes)
  filter-from starts t [] = refl
  filter-from starts t (lane ∷ lanes) =
      sym (filter-append (passes starts) (map (entry t) lane) (entries_from entry (suc t) lanes)
      ∙ rw (filter-lane starts t lane, ← filter-from starts (suc t) lanes) refl)

  -- looking up

  abbrev found : List X → ℕ → ℕ → Option X
  found xs u i = find (λ x. (thread x == u) && (index x == i)) xs

  found-past : (lane : List (Mark V)) (rest : List X) (t u i : ℕ) → t < u → found (map (entry t) lane ++ rest) u i ≡ found rest u i
  found-past [] rest t u i h = refl
  found-past (m ∷ lane) rest t u i h = rw (is_thread t m, ne_eqb t u (λ e. omega arith)) (found-past lane rest t u i h)

  found-none : (lanes : List (List (Mark V))) (t u i : ℕ) → u < t → found (entries_from entry t lanes) u i ≡ None
  found-none [] t u i h = refl
  found-none ([] ∷ lanes) t u i h = found-none lanes (suc t) u i (omega arith)
  found-none ((m ∷ lane) ∷ lanes) t u i h =
      rw (is_thread t m, ne_eqb t u (λ e. omega arith)) (found-none (lane ∷ lanes) t u i h)

  module _ (value : X → V) (is_value : (t : ℕ) (m : Mark V) → value (entry t m) ≡ m.value) where
    found-within : (lane : List (Mark V)) (lanes : List (List (Mark V))) (t i : ℕ)
        → option_map value (found (map (entry t) lane ++ entries_from entry (suc t) lanes) t i) ≡ value_at i lane
    found-within [] lanes t i = rw (found-none lanes (suc t) t i (omega arith)) refl
    found-within (m ∷ lane) lanes t i =
        elim (cases_eq m.index i) [
          | inl same ↦ rw (is_thread t m, is_index t m, eq-eqb t t refl, eq-eqb m.index i same) (ap Some (is_value t m))
          | inr other ↦ rw (is_thread t m, is_index t m, eq-eqb t t refl, ne_eqb m.index i other) (found-within lane lanes t i)
        ]

    value-lane : (lanes : List (List (Mark V))) (base t u i : ℕ) → u ≡ base + t → option_map value (found (entries_from entry base lanes) u i) ≡ value_at i (get_or lanes t [])
    value-lane [] base t u i e = refl
    value-lane (lane ∷ lanes) base zero u i e = let same : u ≡ base = omega arith in rw same (found-within lane lanes base i)
    value-lane (lane ∷ lanes) base (suc t) u i e =
        rw (found-past lane (entries_from entry (suc base) lanes) base u i (omega arith)) (value-lane lanes (suc base) t u i (omega arith))

    -- the value at an index of a thread's lane is that of the entry at this thread and index
    pub value-found : (lanes : List (List (Mark V))) (t i : ℕ) → value_at i (get_or lanes t []) ≡ option_map value (found (entries_from entry 0 lanes) t i)
    value-found lanes t i = sym (value-lane lanes 0 t t i (omega arith))

-- the entries from a thread on are those of its lane and then those of the threads after it
pub entries-next : {V X : Type 0} (entry : ℕ → Mark V → X) (lanes : List (List (Mark V))) (t : ℕ) → t < length lanes
    → entries_from entry t (drop t lanes) ≡ map (entry t) (get_or lanes t []) ++ entries_from entry (t + 1) (drop (t + 1) lanes)
entries-next entry lanes t h = rw (drop_more lanes t [] h, add-one t) refl

-- a test passes a lane and what comes after it exactly if it passes both
pub all-lane : {V X : Type 0} (entry : ℕ → Mark V → X) (p : X → Bool) (lane : List (Mark V)) (rest : List X) (t : ℕ)
    → list_all p (map (entry t) lane ++ rest) ≡ (list_all (λ m. p (entry t m)) lane && list_all p rest)
all-lane entry p [] rest t = refl
all-lane entry p (m ∷ lane) rest t =
    elim (cases_Bool (p (entry t m))) [
      | inl e ↦ rw e (all-lane entry p lane rest t)
      | inr e ↦ rw e refl
    ]
