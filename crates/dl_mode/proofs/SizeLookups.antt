-- A size that was put is found, the others are found as before, and the commits are counted.
use Rattle.std.proofs.Common.{◌≡◌, ℕ, zero, suc, ◌+◌, cond, fold, get_or, slice_index, replicate, append-nil, ◌<◌, ◌≤◌, ◌^◌, take, ◌==◌, Bool, true, false, ◌&&◌, List, [], ◌∷◌, ◌++◌, length, Some, slice_get, inl, inr, refl, ap, sym, ◌∙◌, arith}
use Rattle.std.specs.List.{range_with_len}
use Rattle.std.proofs.lemmas.Bool.{eq-eqb, ne_eqb, cases_lt, cases_eq, cases_Bool, eqb-true, and_parts, both_ways, le-ltb}
use Rattle.std.proofs.lemmas.List.{length_push, length-set, length-take, get_or-set_same, get_or-set_other, set_past, take_more}
use Rattle.dl_entry.specs.declared.actor.Actor.{Actor}
use Rattle.dl_entry.specs.declared.actor.Actor.TheVariants.{Thread, Dma}
use Rattle.spec_log.specs.declared.sizes.ShortSize.{ShortSize}
use Rattle.spec_log.specs.Noting.{Kept, noted, insert_size, short_with, done_with}
use Rattle.dl_entry.specs.Numbers.{most_threads}
use Rattle.spec_log.specs.Log.{IsActor}
use Rattle.std.proofs.lemmas.List.Sums.{fold_more}
use Rattle.dl_mode.specs.Counts.{done_by, AreAmong, counted}
use Rattle.spec_log.specs.Reading.{is_earlier}
use Rattle.spec_log.specs.Size.{is_thread, sizes_of_thread}
use Rattle.dl_mode.specs.ThreadSizes.{ThreadSizes, size_among}
use Rattle.dl_mode.specs.Whole.{IsWhole}
use Rattle.dl_mode.proofs.Nothing.{AreAmong-none}
use Rattle.spec_log.specs.declared.mode_name.ModeName.TheVariants.{OrderSize}
use Rattle.spec_log.specs.declared.sizes.Sizes.TheVariants as Sizes

abbrev Is : ℕ → ℕ → ShortSize → Bool
Is u i s = (s.thread == u) && (s.index == i)

same_is : (x y : ShortSize) (u i : ℕ) → ((y.thread == x.thread) && (y.index == x.index)) ≡ true → Is u i y ≡ Is u i x
same_is x y u i e =
    let p = and_parts (y.thread == x.thread) (y.index == x.index) e in
    rw (eqb-true y.thread x.thread p.0, eqb-true y.index x.index p.1) refl

and-false : (b : Bool) → (b && false) ≡ false
and-false true = refl
and-false false = refl

-- an earlier size is another
earlier-other : (x y : ShortSize) → is_earlier y.thread y.index x.thread x.index ≡ true → Is x.thread x.index y ≡ false
earlier-other x y e =
    elim (cases_eq y.thread x.thread) [
      | inr other ↦ rw (ne_eqb y.thread x.thread other) refl
      | inl thread ↦ elim (cases_eq y.index x.index) [
        | inr other ↦ rw (ne_eqb y.index x.index other) (and-false (y.thread == x.thread))
        | inl index ↦ absurd (both_ways _ (rw (thread, index, le-ltb x.thread x.thread (omega arith), le-ltb x.index x.index (omega arith)) (and-false (x.thread == x.thread))) e)
      ]
    ]

-- the size that was put, where it is looked for
pub size_among-put : (sizes : List ShortSize) (x : ShortSize) → size_among (insert_size x sizes) x.thread x.index ≡ Some x.size
size_among-put [] x = rw (eq-eqb x.thread x.thread refl, eq-eqb x.index x.index refl) refl
size_among-put (y ∷ sizes) x =
    elim (cases_Bool (is_earlier y.thread y.index x.thread x.index)) [
      | inl e ↦ rw (e, earlier-other x y e) (size_among-put sizes x)
      | inr e ↦ elim (cases_Bool ((y.thread == x.thread) && (y.index == x.index))) [
        | inl f ↦ rw (e, f, eq-eqb x.thread x.thread refl, eq-eqb x.index x.index refl) refl
        | inr f ↦ rw (e, f, eq-eqb x.thread x.thread refl, eq-eqb x.index x.index refl) refl
      ]
    ]

-- else what was found before
pub size_among-other : (sizes : List ShortSize) (x : ShortSize) (u i : ℕ) → Is u i x ≡ false → size_among (insert_size x sizes) u i ≡ size_among sizes u i
size_among-other [] x u i h = rw h refl
size_among-other (y ∷ sizes) x u i h =
    elim (cases_Bool (is_earlier y.thread y.index x.thread x.index)) [
      | inl e ↦ rw e (elim (cases_Bool (Is u i y)) [ inl f ↦ rw f refl | inr f ↦ rw f (size_among-other sizes x u i h) ])
      | inr e ↦ elim (cases_Bool ((y.thread == x.thread) && (y.index == x.index))) [
        | inl f ↦ rw (e, f, h, same_is x y u i f, h) refl
        | inr f ↦ rw (e, f, h) refl
      ]
    ]

-- the sizes of a thread with a commit more
sizes_of_thread-push : (t : ℕ) (order : List Actor) (sizes : List ℕ) (actor : Actor) (size : ℕ) → length sizes ≡ length order
    → sizes_of_thread t (order ++ actor ∷ []) (sizes ++ size ∷ []) ≡ sizes_of_thread t order sizes ++ cond (is_thread t actor) (size ∷ []) []
sizes_of_thread-push t [] [] actor size h =
    elim (cases_Bool (is_thread t actor)) [ inl e ↦ rw e refl | inr e ↦ rw e refl ]
sizes_of_thread-push t [] (z ∷ sizes) actor size h = absurd (omega arith)
sizes_of_thread-push t (a ∷ order) [] actor size h = absurd (omega arith)
sizes_of_thread-push t (a ∷ order) (z ∷ sizes) actor size h =
    let rest = sizes_of_thread-push t order sizes actor size (omega arith) in
    elim (cases_Bool (is_thread t a)) [ inl e ↦ rw (e, rest) refl | inr e ↦ rw (e, rest) refl ]

slice_get-push : (xs : List ℕ) (x i : ℕ) → i ≡ length xs → slice_get (xs ++ x ∷ []) i ≡ Some x
slice_get-push [] x i h = rw h refl
slice_get-push (y ∷ xs) x zero h = absurd (omega arith)
slice_get-push (y ∷ xs) x (suc i) h = slice_get-push xs x i (omega arith)

slice_get-before : (xs : List ℕ) (x i : ℕ) → (i ≡ length xs → ⊥) → slice_get (xs ++ x ∷ []) i ≡ slice_get xs i
slice_get-before [] x zero h = absurd (h refl)
slice_get-before [] x (suc i) h = refl
slice_get-before (y ∷ xs) x zero h = refl
slice_get-before (y ∷ xs) x (suc i) h = slice_get-before xs x i (λ e. h (omega arith))

abbrev Each : List Actor → List ℕ → (past : List ℕ) → List ShortSize → Type 0
Each order sizes past short = (t i : ℕ) → size_among short t (slice_index past t + i) ≡ slice_get (sizes_of_thread t order sizes) i

abbrev Done : List Actor → List ℕ → (past : List ℕ) → List ℕ → Type 0
Done order sizes past done = (t : ℕ) → slice_index done t ≡ slice_index past t + length (sizes_of_thread t order sizes)

-- with a commit more the sizes are found still, and the commits are counted
pub Each-noted : (order : List Actor) (sizes past : List ℕ) (short : List ShortSize) (done : List ℕ) (actor : Actor) (size : ℕ) → length sizes ≡ length order
    → Each order sizes past short → Done order sizes past done → Each (order ++ actor ∷ []) (sizes ++ size ∷ []) past (short_with short done actor size true)
Each-noted order sizes past short done Dma size h each counted t i =
    rw (sizes_of_thread-push t order sizes Dma size h, append-nil (sizes_of_thread t order sizes)) (each t i)
Each-noted order sizes past short done (Thread u) size h each counted t i =
    let x : ShortSize = record { thread = u; index = slice_index done u; size = size } in
    let j : ℕ = slice_index past t + i in
    rw (sizes_of_thread-push t order sizes (Thread u) size h)
    (elim (cases_eq u t) [
      | inr other ↦ rw (ne_eqb u t other, append-nil (sizes_of_thread t order sizes))
          (size_among-other short x t j (rw (ne_eqb u t other) refl) ∙ each t i)
      | inl same ↦ elim (cases_eq (slice_index done u) j) [
        | inl here ↦ let last : i ≡ length (sizes_of_thread u order sizes) = omega (arith, counted u, here, ap (slice_index past) same) in
            rw (eq-eqb u t same, ← here, ← same, size_among-put short x) (sym (slice_get-push (sizes_of_thread u order sizes) size i last))
        | inr there ↦ rw (eq-eqb u t same, size_among-other short x t j (rw (ne_eqb (slice_index done u) j there) (and-false (u == t))), each t i)
            (sym (slice_get-before (sizes_of_thread t order sizes) size i (λ e. there (omega (arith, counted t, e, ap (slice_index done) same)))))
      ]
    ])

pub Done-noted : (order : List Actor) (sizes past : List ℕ) (done : List ℕ) (actor : Actor) (size : ℕ) → length sizes ≡ length order
    → length done ≡ most_threads → IsActor most_threads actor → Done order sizes past done → Done (order ++ actor ∷ []) (sizes ++ size ∷ []) past (done_with done actor)
Done-noted order sizes past done Dma size h all good counted t =
    rw (sizes_of_thread-push t order sizes Dma size h, append-nil (sizes_of_thread t order sizes)) (counted t)
Done-noted order sizes past done (Thread u) size h all good counted t =
    rw (sizes_of_thread-push t order sizes (Thread u) size h)
    (elim (cases_eq t u) [
      | inl same ↦ rw (same, eq-eqb u u refl, get_or-set_same done u (get_or done u 0 + 1) 0 (omega (arith, all, good)))
          (omega (arith, counted u, length_push (sizes_of_thread u order sizes) size))
      | inr other ↦ rw (ne_eqb u t (λ e. other (sym e)), append-nil (sizes_of_thread t order sizes), get_or-set_other done u t (get_or done u 0 + 1) 0 other)
          (counted t)
    ])

-- no thread has more commits than there are, also with one more
pub done_with-few : (done : List ℕ) (actor : Actor) (n : ℕ) → AreAmong n done → AreAmong (n + 1) (done_with done actor)
done_with-few done Dma n h t = omega (arith, h t)
done_with-few done (Thread u) n h t =
    elim (cases_eq t u) [
      | inr other ↦ rw (get_or-set_other done u t (get_or done u 0 + 1) 0 other) (omega (arith, h t))
      | inl same ↦ elim (cases_lt u (length done)) [
        | inl within ↦ rw (same, get_or-set_same done u (get_or done u 0 + 1) 0 within) (omega (arith, h u))
        | inr past ↦ rw (set_past done u (get_or done u 0 + 1) past) (omega (arith, h t))
      ]
    ]

-- no actor has done more commits than there are
pub done_by-few : (done : List ℕ) (actor : Actor) (n : ℕ) → AreAmong n done → done_by done actor ≤ n
done_by-few done (Thread t) n h = h t
done_by-few done Dma n h = omega arith

-- with one more commit of an actor that has fewer than so many, no thread has more
done_with-below : (done : List ℕ) (actor : Actor) (n : ℕ) → AreAmong n done → done_by done actor < n → AreAmong n (done_with done actor)
done_with-below done Dma n h few t = h t
done_with-below done (Thread u) n h few t =
    elim (cases_eq t u) [
      | inr other ↦ rw (get_or-set_other done u t (get_or done u 0 + 1) 0 other) (h t)
      | inl same ↦ elim (cases_lt u (length done)) [
        | inl within ↦ rw (same, get_or-set_same done u (get_or done u 0 + 1) 0 within) (omega (arith, few))
        | inr past ↦ rw (set_past done u (get_or done u 0 + 1) past) (h t)
      ]
    ]

-- no thread has more commits than an order that is counted
fold-few : (done : List ℕ) (order : List Actor) (n : ℕ) → AreAmong n done → AreAmong (n + length order) (fold done_with done order)
fold-few done [] n h t = omega (arith, h t)
fold-few done (a ∷ order) n h t = omega (arith, fold-few (done_with done a) order (n + 1) (done_with-few done a n h) t)

-- among the first i commits of an order no thread has more than i
pub counted-few : (order : List Actor) (i : ℕ) → AreAmong i (counted (take i order))
counted-few order i t =
    omega (arith, fold-few (replicate most_threads 0) (take i order) 0 (AreAmong-none (replicate most_threads 0) 0 refl) t, length-take i order)

-- counting one more commit leaves as many counts as there were
pub length-done_with : (done : List ℕ) (actor : Actor) → length (done_with done actor) ≡ length done
length-done_with done (Thread u) = length-set done u (get_or done u 0 + 1)
length-done_with done Dma = refl

-- sizes and counts stand together with an order still after a commit more
pub IsWhole-noted : (order : List Actor) (sizes past : List ℕ) (threads new : ThreadSizes) (actor : Actor) (size : ℕ) → IsWhole order sizes past threads
    → IsActor most_threads actor → length order < 2 ^ 24 → done_by threads.done actor < 2 ^ 24
    → new.sizes ≡ short_with threads.sizes threads.done actor size true → new.done ≡ done_with threads.done actor
    → IsWhole (order ++ actor ∷ []) (sizes ++ size ∷ []) past new
IsWhole-noted order sizes past threads new actor size w good few below e d =
    record {
      few = omega (arith, length_push order actor);
      same = omega (arith, length_push order actor, length_push sizes size, w.same);
      all = rw d (length-done_with threads.done actor ∙ w.all);
      all_past = w.all_past;
      few_done = rw d (done_with-below threads.done actor (2 ^ 24) w.few_done below);
      each = rw e (Each-noted order sizes past threads.sizes threads.done actor size w.same w.each w.counted);
      counted = rw d (Done-noted order sizes past threads.done actor size w.same w.all good w.counted);
    }

-- the commits of an order that were counted
pub counted-more : (order : List Actor) (i : ℕ) (d : Actor) → i < length order → counted (take (i + 1) order) ≡ done_with (counted (take i order)) (get_or order i d)
counted-more order i d h = fold_more done_with (replicate most_threads 0) order i d h

-- a range that isn't empty is its first number, and then the range after it
pub range-next : (t n m : ℕ) → n ≡ suc m → range_with_len t n ≡ t ∷ range_with_len (t + 1) m
range-next t n m e = rw e refl

-- the first so many commits of lists are kept
pub record HasFirst (s i : ℕ) (order : List Actor) (sizes : List ℕ) (kept : Kept) : Type 0 where
  pub is_s : kept.s ≡ s
  pub count : kept.count ≡ i
  pub order_is : kept.order ≡ take i order
  pub sizes_are : kept.sizes ≡ Sizes.Each (take i sizes)
  pub done_is : kept.done ≡ counted (take i order)

-- with the next commit noted, one commit more is kept
pub HasFirst-more : (s i : ℕ) (order : List Actor) (sizes : List ℕ) (kept new : Kept) (d : Actor) → i < length order → i < length sizes
    → HasFirst s i order sizes kept → new ≡ noted OrderSize kept (record { actor = get_or order i d; size = get_or sizes i 0; short = false })
    → HasFirst s (i + 1) order sizes new
HasFirst-more s i order sizes kept new d h l b e =
    record {
      is_s = rw e b.is_s;
      count = rw (e, b.count) refl;
      order_is = rw (e, b.order_is) (sym (take_more order i d h));
      sizes_are = rw (e, b.sizes_are) (ap Sizes.Each (sym (take_more sizes i 0 l)));
      done_is = rw (e, b.done_is) (sym (counted-more order i d h));
    }
