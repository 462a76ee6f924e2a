-- Commits that are given up are counted, and the sizes of the others are found as before.
use Rattle.std.proofs.Common.{◌≡◌, ℕ, zero, suc, ◌+◌, ◌-◌, ◌<◌, ◌≤◌, ◌^◌, ◌==◌, nat_le, Bool, true, false, ◌&&◌, List, [], ◌∷◌, ◌++◌, length, take, drop, fold, slice_get, slice_index, get_or, Option, find, inl, inr, refl, ap, sym, subst, ◌∙◌, arith}
use Rattle.std.specs.List.{filter}
use Rattle.std.proofs.lemmas.Bool.{eq-eqb, ne_eqb, eqb-true, and_parts, cases_lt, cases_eq, cases_Bool, le-leb}
use Rattle.std.proofs.lemmas.List.{get_or-set_same, get_or-set_other, get_or_past, set_past, length-append, length-drop, length-take, take-append-drop}
use Rattle.dl_entry.specs.declared.actor.Actor.{Actor}
use Rattle.dl_entry.specs.declared.actor.Actor.TheVariants.{Thread, Dma}
use Rattle.dl_entry.specs.Numbers.{most_threads}
use Rattle.spec_log.specs.declared.sizes.ShortSize.{ShortSize}
use Rattle.spec_log.specs.Noting.{done_with}
use Rattle.spec_log.specs.Size.{is_thread, sizes_of_thread}
use Rattle.dl_mode.specs.Counts.{AreFew, done_by}
use Rattle.dl_mode.specs.Since.{short_since}
use Rattle.dl_mode.specs.ThreadSizes.{ThreadSizes, size_among}
use Rattle.dl_mode.specs.Whole.{IsWhole}
use Rattle.dl_mode.proofs.SizeLookups.{length-done_with}

-- ---- counting

-- counting the commits of an order leaves as many counts as there were
pub length-fold : (counts : List ℕ) (order : List Actor) → length (fold done_with counts order) ≡ length counts
length-fold counts [] = refl
length-fold counts (a ∷ order) = length-fold (done_with counts a) order ∙ length-done_with counts a

-- a thread that is counted has then the commits of the order too
fold-counts : (counts : List ℕ) (order : List Actor) (sizes : List ℕ) (t : ℕ) → length sizes ≡ length order → t < length counts
    → slice_index (fold done_with counts order) t ≡ slice_index counts t + length (sizes_of_thread t order sizes)
fold-counts counts [] [] t h within = omega arith
fold-counts counts [] (z ∷ sizes) t h within = absurd (omega arith)
fold-counts counts (a ∷ order) [] t h within = absurd (omega arith)
fold-counts counts (Dma ∷ order) (z ∷ sizes) t h within = fold-counts counts order sizes t (omega arith) within
fold-counts counts (Thread u ∷ order) (z ∷ sizes) t h within =
    let more : List ℕ = done_with counts (Thread u) in
    let rest = fold-counts more order sizes t (omega arith) (omega (arith, within, length-done_with counts (Thread u))) in
    elim (cases_eq u t) [
      | inl same ↦ let one : slice_index more t ≡ slice_index counts t + 1 = subst (λ (k : ℕ). slice_index more k ≡ slice_index counts k + 1) same
          (get_or-set_same counts u (slice_index counts u + 1) 0 (omega (arith, same, within))) in
          rw (eq-eqb u t same) (rest ∙ omega (arith, one))
      | inr other ↦ let none : slice_index more t ≡ slice_index counts t = get_or-set_other counts u t (slice_index counts u + 1) 0 (λ e. other (sym e)) in
          rw (ne_eqb u t other) (rest ∙ omega (arith, none))
    ]

-- counts don't fall
pub counts-rise : (counts : List ℕ) (order : List Actor) (t : ℕ) → slice_index counts t ≤ slice_index (fold done_with counts order) t
counts-rise counts [] t = omega arith
counts-rise counts (Dma ∷ order) t = counts-rise counts order t
counts-rise counts (Thread u ∷ order) t =
    let rest = counts-rise (done_with counts (Thread u)) order t in
    elim (cases_eq t u) [
      | inr other ↦ omega (arith, rest, get_or-set_other counts u t (slice_index counts u + 1) 0 other)
      | inl same ↦ elim (cases_lt u (length counts)) [
        | inl within ↦ omega (
          arith,
          rest,
          ap (slice_index counts) same,
          ap (slice_index (done_with counts (Thread u))) same,
          get_or-set_same counts u (slice_index counts u + 1) 0 within,
        )
        | inr past ↦ rw (set_past counts u (slice_index counts u + 1) past) (counts-rise counts order t)
      ]
    ]

-- if there are few enough, the next can be counted
few-first : (counts : List ℕ) (a : Actor) (order : List Actor) → AreFew counts (a ∷ order) → done_by counts a + 1 < 2 ^ 32
few-first counts Dma order few = omega arith
few-first counts (Thread t) order few =
    elim (cases_lt t (length counts)) [
      | inl within ↦ omega (arith, few t, counts-rise (done_with counts (Thread t)) order t, get_or-set_same counts t (slice_index counts t + 1) 0 within)
      | inr past ↦ omega (arith, get_or_past counts t 0 past)
    ]

-- in an order of few commits, each can be counted in 32 bits after those before it
pub few-next : (counts : List ℕ) (order : List Actor) (i : ℕ) (d : Actor) → AreFew counts order → i < length order
    → done_by (fold done_with counts (take i order)) (get_or order i d) + 1 < 2 ^ 32
few-next counts [] i d few h = absurd (omega arith)
few-next counts (a ∷ order) zero d few h = few-first counts a order few
few-next counts (a ∷ order) (suc i) d few h = few-next (done_with counts a) order i d few (omega arith)

-- ---- the sizes of the others

sizes_of_thread-split : (t n : ℕ) (order : List Actor) (sizes : List ℕ) → length sizes ≡ length order
    → sizes_of_thread t order sizes ≡ sizes_of_thread t (take n order) (take n sizes) ++ sizes_of_thread t (drop n order) (drop n sizes)
sizes_of_thread-split t zero order sizes h = refl
sizes_of_thread-split t (suc n) [] [] h = refl
sizes_of_thread-split t (suc n) [] (z ∷ sizes) h = absurd (omega arith)
sizes_of_thread-split t (suc n) (a ∷ order) [] h = absurd (omega arith)
sizes_of_thread-split t (suc n) (a ∷ order) (z ∷ sizes) h =
    let rest = sizes_of_thread-split t n order sizes (omega arith) in
    elim (cases_Bool (is_thread t a)) [
      | inl e ↦ rw e (ap (λ (xs : List ℕ). z ∷ xs) rest)
      | inr e ↦ rw e rest
    ]

-- what is looked for is found among those that pass a test which it passes
find-filter : {X : Type 0} (p q : X → Bool) → ((x : X) → p x ≡ true → q x ≡ true) → (xs : List X) → find p (filter q xs) ≡ find p xs
find-filter p q h [] = refl
find-filter p q h (x ∷ xs) =
    elim (cases_Bool (p x)) [
      | inl e ↦ rw (h x e, e) refl
      | inr e ↦ elim (cases_Bool (q x)) [
        | inl f ↦ rw (f, e) (find-filter p q h xs)
        | inr f ↦ rw (f, e) (find-filter p q h xs)
      ]
    ]

size_among-since : (starts : List ℕ) (sizes : List ShortSize) (t j : ℕ) → slice_index starts t ≤ j
    → size_among (short_since starts sizes) t j ≡ size_among sizes t j
size_among-since starts sizes t j h =
    let Is = λ (x : ShortSize). (x.thread == t) && (x.index == j) in
    let passes : (x : ShortSize) → Is x ≡ true → nat_le (slice_index starts x.thread) x.index ≡ true =
    λ x e. let parts = and_parts (x.thread == t) (x.index == j) e in
    rw (eqb-true x.thread t parts.0, eqb-true x.index j parts.1) (le-leb (slice_index starts t) j h) in
    rw (find-filter Is (λ x. nat_le (slice_index starts x.thread) x.index) passes sizes) refl

slice_get-behind : (xs ys : List ℕ) (i j : ℕ) → j ≡ length xs + i → slice_get (xs ++ ys) j ≡ slice_get ys i
slice_get-behind [] ys i j e = let same : j ≡ i = omega arith in rw same refl
slice_get-behind (x ∷ xs) ys i zero e = absurd (omega arith)
slice_get-behind (x ∷ xs) ys i (suc j) e = slice_get-behind xs ys i j (omega arith)

-- ---- together

-- the counts of those that are given up, as far as a thread has a place
past-counts : (n : ℕ) (order : List Actor) (sizes past : List ℕ) (threads : ThreadSizes) → IsWhole order sizes past threads → (t : ℕ)
    → slice_index (fold done_with past (take n order)) t ≡ slice_index past t + length (sizes_of_thread t (take n order) (take n sizes))
past-counts n order sizes past threads w t =
    elim (cases_lt t (length past)) [
      | inl within ↦ fold-counts past (take n order) (take n sizes) t (omega (arith, length-take n order, length-take n sizes, w.same)) within
      | inr beyond ↦
          let split = ap length (sizes_of_thread-split t n order sizes w.same) in
          let first = sizes_of_thread t (take n order) (take n sizes) in
          let both = length-append first (sizes_of_thread t (drop n order) (drop n sizes)) in
          let a = get_or_past (fold done_with past (take n order)) t 0 (omega (arith, beyond, length-fold past (take n order))) in
          let b = get_or_past threads.done t 0 (omega (arith, beyond, w.all, w.all_past)) in
          omega (arith, w.counted t, split, both, a, b)
    ]

-- there are few enough of them
pub past-few : (n : ℕ) (order : List Actor) (sizes past : List ℕ) (threads : ThreadSizes) → IsWhole order sizes past threads → AreFew past (take n order)
past-few n order sizes past threads w t =
    let first = sizes_of_thread t (take n order) (take n sizes) in
    let split = ap length (sizes_of_thread-split t n order sizes w.same) in
    let both = length-append first (sizes_of_thread t (drop n order) (drop n sizes)) in
    omega (arith, past-counts n order sizes past threads w t, split, both, w.counted t, w.few_done t)

-- without the first commits the sizes and counts stand together with the order still
pub IsWhole-cut : (n : ℕ) (order : List Actor) (sizes past : List ℕ) (threads new : ThreadSizes) → IsWhole order sizes past threads
    → new.sizes ≡ short_since (fold done_with past (take n order)) threads.sizes → new.done ≡ threads.done
    → IsWhole (drop n order) (drop n sizes) (fold done_with past (take n order)) new
IsWhole-cut n order sizes past threads new w e d =
    let gone : List ℕ = fold done_with past (take n order) in
    record {
      few = omega (arith, length-drop n order, w.few);
      same = omega (arith, length-drop n order, length-drop n sizes, w.same);
      all = rw d w.all;
      all_past = length-fold past (take n order) ∙ w.all_past;
      few_done = rw d w.few_done;
      each = λ t i.
          let first = sizes_of_thread t (take n order) (take n sizes) in
          let rest = sizes_of_thread t (drop n order) (drop n sizes) in
          let k : slice_index gone t + i ≡ slice_index past t + (length first + i) = omega (arith, past-counts n order sizes past threads w t) in
          rw e (size_among-since gone threads.sizes t (slice_index gone t + i) (omega arith)
          ∙ rw k (w.each t (length first + i) ∙ rw (sizes_of_thread-split t n order sizes w.same) (slice_get-behind first rest i (length first + i) refl)));
      counted = λ t.
          let first = sizes_of_thread t (take n order) (take n sizes) in
          let split = ap length (sizes_of_thread-split t n order sizes w.same) in
          let both = length-append first (sizes_of_thread t (drop n order) (drop n sizes)) in
          rw d (omega (arith, past-counts n order sizes past threads w t, split, both, w.counted t));
    }
