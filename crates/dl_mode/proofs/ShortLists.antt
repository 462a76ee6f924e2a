-- Short sizes by thread and index are put and found in lists of threads as in one list.
use Rattle.std.proofs.Common.{◌≡◌, ℕ, zero, suc, ◌+◌, ◌-◌, ◌<◌, true, List, [], ◌∷◌, ◌++◌, All, length, take, get_or, inl, inr, refl, ap, sym, subst, ◌∙◌, arith}
use Rattle.std.proofs.Math.ListN.{set}
use Rattle.std.specs.List.{AllAdjacentBelow}
use Rattle.std.proofs.lemmas.Bool.{lt-ltb}
use Rattle.std.proofs.lemmas.List.{get_or_default, get_or-take, length-take-le, take_more}
use Rattle.std.proofs.lemmas.List.Elements.{All-head, All-tail}
use Rattle.spec_log.specs.declared.sizes.ShortSize.{ShortSize}
use Rattle.spec_log.specs.Log.{ComesBefore}
use Rattle.spec_log.specs.Noting.{insert_size}
use Rattle.spec_log.specs.Reading.{is_earlier}
use Rattle.dl_moments.specs.declared.lane.Mark.{Mark}
use Rattle.dl_moments.specs.Marks.{with_mark, lanes_from, value_at}
use Rattle.dl_moments.proofs.Entries as entries
use Rattle.dl_moments.proofs.Entries.{earlier-lower, earlier-same}
use Rattle.dl_mode.specs.Since.{short_since}
use Rattle.dl_mode.specs.ThreadSizes.{short_of, sizes_from, size_among}

-- a size put into its thread's lane is inserted into the list
pub insert-put : (lanes : List (List (Mark ℕ))) (t i v : ℕ) → t < length lanes
    → sizes_from 0 (set lanes t (with_mark i v (get_or lanes t []))) ≡ insert_size (record { thread = t; index = i; size = v }) (sizes_from 0 lanes)
insert-put = entries.insert-put (λ s. s.thread) (λ s. s.index) short_of (λ t m. refl) (λ t m. refl)

-- what is left of each thread's lane from its start on is left of the list
pub sizes_from-cut : (starts : List ℕ) (lanes : List (List (Mark ℕ))) → sizes_from 0 (lanes_from starts 0 lanes) ≡ short_since starts (sizes_from 0 lanes)
sizes_from-cut starts lanes = entries.filter-from (λ s. s.thread) (λ s. s.index) short_of (λ t m. refl) (λ t m. refl) starts 0 lanes

-- the size at an index of a thread's lane is found in the list
pub size_among-at : (lanes : List (List (Mark ℕ))) (t i : ℕ) → value_at i (get_or lanes t []) ≡ size_among (sizes_from 0 lanes) t i
size_among-at = entries.value-found (λ s. s.thread) (λ s. s.index) short_of (λ t m. refl) (λ t m. refl) (λ s. s.size) (λ t m. refl)

-- at the end of a rising list

before-trans : (t i u j v k : ℕ) → ComesBefore t i u j → ComesBefore u j v k → ComesBefore t i v k
before-trans t i u j v k a b =
    elim a [
      | inl x ↦ elim b [ inl y ↦ inl (omega arith) | inr y ↦ inl (omega (arith, y.0)) ]
      | inr x ↦ elim b [ inl y ↦ inl (omega (arith, x.0)) | inr y ↦ inr (x.0 ∙ y.0, omega (arith, x.1, y.1)) ]
    ]

abbrev Before : ShortSize → ShortSize → Type 0
Before x y = ComesBefore x.thread x.index y.thread y.index

before-far : (sizes : List ShortSize) → AllAdjacentBelow Before sizes (length sizes) → (i n : ℕ) (d : ShortSize) → i + suc n < length sizes
    → Before (get_or sizes i d) (get_or sizes (i + suc n) d)
before-far sizes r i zero d h = r i d h
before-far sizes r i (suc n) d h =
    let e : i + suc n + 1 ≡ i + suc (suc n) = omega arith in
    let next = subst (λ (k : ℕ). Before (get_or sizes (i + suc n) d) (get_or sizes k d)) e (r (i + suc n) d (omega arith)) in
    before-trans _ _ _ _ _ _ (before-far sizes r i n d (omega arith)) next

before-all : (sizes : List ShortSize) → AllAdjacentBelow Before sizes (length sizes) → (n : ℕ) (x : ShortSize) → n < length sizes
    → get_or sizes n x ≡ x → (k : ℕ) (d : ShortSize) → k < n → Before (get_or sizes k d) x
before-all sizes r n x h is k d l =
    let e : k + suc (n - k - 1) ≡ n = omega arith in
    let far = subst (λ (j : ℕ). Before (get_or sizes k x) (get_or sizes j x)) e (before-far sizes r k (n - k - 1) x (omega arith)) in
    let there = subst (λ (y : ShortSize). Before (get_or sizes k x) y) is far in
    subst (λ (y : ShortSize). Before y x) (get_or_default sizes k x d (omega arith)) there

insert-end : (x : ShortSize) (sizes : List ShortSize) → All (λ y. Before y x) sizes → insert_size x sizes ≡ sizes ++ x ∷ []
insert-end x [] h = refl
insert-end x (y ∷ sizes) h =
    rw (earlier-before y x (All-head (λ y. Before y x) y sizes h), insert-end x sizes (All-tail (λ y. Before y x) y sizes h)) refl where
      earlier-before : (y x : ShortSize) → Before y x → is_earlier y.thread y.index x.thread x.index ≡ true
      earlier-before y x b =
          elim b [
            | inl l ↦ earlier-lower y.thread y.index x.thread x.index l
            | inr s ↦ rw (s.0, earlier-same x.thread y.index x.index) (lt-ltb y.index x.index s.1)
          ]

-- the next size of a rising list is inserted after those before it
pub insert-next : (sizes : List ShortSize) → AllAdjacentBelow Before sizes (length sizes) → (n : ℕ) (x : ShortSize) → n < length sizes
    → x ≡ get_or sizes n x → insert_size x (take n sizes) ≡ take (n + 1) sizes
insert-next sizes r n x h is =
    insert-end x (take n sizes) (λ k d l. rw (get_or-take n sizes k d (omega (arith, length-take-le n sizes (omega arith)))) (before-all sizes r n x h (sym is) k d (omega (arith, length-take-le n sizes (omega arith)))))
    ∙ sym (take_more sizes n x h ∙ ap (λ (y : ShortSize). take n sizes ++ y ∷ []) (sym is))
