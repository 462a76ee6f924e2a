-- Interrupts by thread and index are put and found in lists of threads as in one list.
use Rattle.std.proofs.Common.{◌≡◌, ℕ, zero, suc, ◌+◌, ◌-◌, ◌<◌, ◌≤◌, ◌==◌, ◌&&◌, List, [], ◌∷◌, ◌++◌, length, map, get_or, slice_get, Some, None, inl, inr, refl, ap, sym, ◌∙◌, arith}
use Rattle.std.proofs.Math.ListN.{set}
use Rattle.std.proofs.lemmas.Bool.{cases_lt, cases_Bool}
use Rattle.std.proofs.lemmas.List.{get_or_past, get_or-set_same, length-append, length-map}
use Rattle.std.proofs.lemmas.Option.{none-some}
use Rattle.dl_input.specs.declared.interrupts.Raised.{Raised}
use Rattle.spec_log.specs.Reading.{is_earlier}
use Rattle.dl_moments.specs.declared.lane.Mark.{Mark}
use Rattle.dl_moments.specs.Marks.{with_mark, lanes_from, value_at}
use Rattle.dl_moments.proofs.Entries as entries
use Rattle.dl_input.specs.Tracked.{Tracked, tracked_of, tracked_from, raised_at, insert_tracked, interrupt_of, tracked_since}
use Rattle.spec_log.specs.Noting.{insert_interrupt}

-- an interrupt put into its thread's lane is inserted into the list
pub insert-put : (lanes : List (List (Mark Raised))) (t i : ℕ) (v : Raised) → t < length lanes
    → tracked_from 0 (set lanes t (with_mark i v (get_or lanes t []))) ≡ insert_tracked (record { thread = t; index = i; raised = v }) (tracked_from 0 lanes)
insert-put = entries.insert-put (λ s. s.thread) (λ s. s.index) tracked_of (λ t m. refl) (λ t m. refl)

-- what was raised at an index of a thread's lane is found in the list
pub raised_at-at : (lanes : List (List (Mark Raised))) (t i : ℕ) → value_at i (get_or lanes t []) ≡ raised_at (tracked_from 0 lanes) t i
raised_at-at = entries.value-found (λ s. s.thread) (λ s. s.index) tracked_of (λ t m. refl) (λ t m. refl) (λ s. s.raised) (λ t m. refl)

-- what is left of each thread's lane from its start on is left of the list
pub tracked_from-cut : (starts : List ℕ) (lanes : List (List (Mark Raised))) → tracked_from 0 (lanes_from starts 0 lanes) ≡ tracked_since starts (tracked_from 0 lanes)
tracked_from-cut starts lanes = entries.filter-from (λ s. s.thread) (λ s. s.index) tracked_of (λ t m. refl) (λ t m. refl) starts 0 lanes

-- a place among a thread's entries is one of its lane
pub slice_get-lane : (lane : List (Mark Raised)) (rest : List Tracked) (t i : ℕ) (d : Mark Raised) → i < length lane
    → slice_get (map (tracked_of t) lane ++ rest) i ≡ Some (tracked_of t (get_or lane i d))
slice_get-lane [] rest t i d h = absurd (omega arith)
slice_get-lane (m ∷ lane) rest t zero d h = refl
slice_get-lane (m ∷ lane) rest t (suc i) d h = slice_get-lane lane rest t i d (omega arith)

-- a place after a thread's entries is one among the rest
pub slice_get-behind : (lane : List (Mark Raised)) (rest : List Tracked) (t i : ℕ) → length lane ≤ i
    → slice_get (map (tracked_of t) lane ++ rest) i ≡ slice_get rest (i - length lane)
slice_get-behind [] rest t i h = let e : i ≡ i - 0 = omega arith in ap (slice_get rest) e
slice_get-behind (m ∷ lane) rest t zero h = absurd (omega arith)
slice_get-behind (m ∷ lane) rest t (suc i) h =
    let e : suc i - length (m ∷ lane) ≡ i - length lane = omega arith in
    slice_get-behind lane rest t i (omega arith) ∙ ap (slice_get rest) (sym e)

-- one more of a new moment
pub insert-fresh : (x : Tracked) (xs : List Tracked) → raised_at xs x.thread x.index ≡ None → length (insert_tracked x xs) ≡ length xs + 1
insert-fresh x [] h = omega arith
insert-fresh x (y ∷ ys) h =
    elim (cases_Bool ((y.thread == x.thread) && (y.index == x.index))) [
      | inl f ↦ absurd (none-some y.raised (sym (rw f at h)))
      | inr f ↦ let rest : raised_at ys x.thread x.index ≡ None = rw f at h in
          elim (cases_Bool (is_earlier y.thread y.index x.thread x.index)) [
            | inl e ↦ rw e (omega (arith, insert-fresh x ys rest))
            | inr e ↦ rw (e, f) (omega arith)
          ]
    ]

-- an interrupt put at a moment that had none makes the list longer by one
pub many-put : (lanes new : List (List (Mark Raised))) (t i : ℕ) (v : Raised) → t < length lanes → new ≡ set lanes t (with_mark i v (get_or lanes t []))
    → raised_at (tracked_from 0 lanes) t i ≡ None → length (tracked_from 0 new) ≡ length (tracked_from 0 lanes) + 1
many-put lanes new t i v h e none =
    let there = ap (tracked_from 0) e ∙ insert-put lanes t i v h in
    ap length there ∙ insert-fresh (record { thread = t; index = i; raised = v }) (tracked_from 0 lanes) none

-- as many with another lane that is as long
count-lane : (lanes : List (List (Mark Raised))) (base t : ℕ) (lane : List (Mark Raised)) → length lane ≡ length (get_or lanes t [])
    → length (tracked_from base (set lanes t lane)) ≡ length (tracked_from base lanes)
count-lane [] base t lane h = refl
count-lane (l ∷ lanes) base zero lane h =
    let rest = tracked_from (suc base) lanes in
    omega (arith, h, length-append (map (tracked_of base) lane) rest, length-append (map (tracked_of base) l) rest, length-map lane (tracked_of base), length-map l (tracked_of base))
count-lane (l ∷ lanes) base (suc t) lane h =
    omega (
      arith,
      count-lane lanes (suc base) t lane h,
      length-append (map (tracked_of base) l) (tracked_from (suc base) (set lanes t lane)),
      length-append (map (tracked_of base) l) (tracked_from (suc base) lanes),
    )

-- another lane of the same length leaves the list as long as it was
pub count-set : (lanes new : List (List (Mark Raised))) (t : ℕ) (lane : List (Mark Raised)) → t < length lanes → new ≡ set lanes t lane
    → length (get_or new t []) ≡ length (get_or lanes t []) → length (tracked_from 0 new) ≡ length (tracked_from 0 lanes)
count-set lanes new t lane h e same =
    rw e (count-lane lanes 0 t lane (sym (ap length (get_or-set_same lanes t lane [] h)) ∙ (rw e at same)))

-- an entry inserted and then seen as an interrupt is the interrupt inserted
pub insert-map : (x : Tracked) (xs : List Tracked) → map interrupt_of (insert_tracked x xs) ≡ insert_interrupt (interrupt_of x) (map interrupt_of xs)
insert-map x [] = refl
insert-map x (y ∷ ys) =
    elim (cases_Bool (is_earlier y.thread y.index x.thread x.index)) [
      | inl e ↦ rw (e, insert-map x ys) refl
      | inr e ↦ elim (cases_Bool ((y.thread == x.thread) && (y.index == x.index))) [
        | inl f ↦ rw (e, f) refl
        | inr f ↦ rw (e, f) refl
      ]
    ]

-- a moment that is found is of one of the threads
pub moment-within : (lanes : List (List (Mark Raised))) (t i : ℕ) (r : Raised) → value_at i (get_or lanes t []) ≡ Some r → t < length lanes
moment-within lanes t i r e =
    elim (cases_lt t (length lanes)) [
      | inl h ↦ h
      | inr h ↦ absurd (none-some r (rw (get_or_past lanes t [] h) at e))
    ]
