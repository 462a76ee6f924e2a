-- Interrupts that are noted in the order of a log come each after all before it, and at a new moment.
use Rattle.std.proofs.Common.{◌≡◌, ℕ, zero, suc, ◌+◌, ◌-◌, ◌<◌, ◌==◌, ◌&&◌, true, false, List, [], ◌∷◌, ◌++◌, All, length, map, take, get_or, None, inl, inr, refl, ap, sym, subst, ◌∙◌, arith}
use Rattle.std.specs.List.{AllAdjacentBelow}
use Rattle.std.proofs.lemmas.Bool.{lt-ltb, ne_eqb, eq-eqb}
use Rattle.std.proofs.lemmas.List.{get_or_default, get_or-take, length-take-le, take_more}
use Rattle.std.proofs.lemmas.List.Elements.{All-head, All-tail}
use Rattle.spec_log.specs.declared.records.Interrupt.{Interrupt}
use Rattle.spec_log.specs.Log.{ComesBefore}
use Rattle.spec_log.specs.Noting.{insert_interrupt}
use Rattle.spec_log.specs.Reading.{is_earlier}
use Rattle.dl_moments.proofs.Entries.{earlier-lower, earlier-same}
use Rattle.dl_input.specs.Tracked.{Tracked, raised_at, insert_tracked, new_tracked, interrupt_of}
use Rattle.dl_input.proofs.TrackedLists.{insert-map}

abbrev Before : Interrupt → Interrupt → Type 0
Before x y = ComesBefore x.thread x.index y.thread y.index

before-trans : (t i u j v k : ℕ) → ComesBefore t i u j → ComesBefore u j v k → ComesBefore t i v k
before-trans t i u j v k a b =
    elim a [
      | inl x ↦ elim b [ inl y ↦ inl (omega arith) | inr y ↦ inl (omega (arith, y.0)) ]
      | inr x ↦ elim b [ inl y ↦ inl (omega (arith, x.0)) | inr y ↦ inr (x.0 ∙ y.0, omega (arith, x.1, y.1)) ]
    ]

before-far : (xs : List Interrupt) → AllAdjacentBelow Before xs (length xs) → (i n : ℕ) (d : Interrupt) → i + suc n < length xs
    → Before (get_or xs i d) (get_or xs (i + suc n) d)
before-far xs r i zero d h = r i d h
before-far xs r i (suc n) d h =
    let e : i + suc n + 1 ≡ i + suc (suc n) = omega arith in
    let next = subst (λ (k : ℕ). Before (get_or xs (i + suc n) d) (get_or xs k d)) e (r (i + suc n) d (omega arith)) in
    before-trans _ _ _ _ _ _ (before-far xs r i n d (omega arith)) next

before-each : (xs : List Interrupt) → AllAdjacentBelow Before xs (length xs) → (n : ℕ) (x : Interrupt) → n < length xs
    → get_or xs n x ≡ x → (k : ℕ) (d : Interrupt) → k < n → Before (get_or xs k d) x
before-each xs r n x h is k d l =
    let e : k + suc (n - k - 1) ≡ n = omega arith in
    let far = subst (λ (j : ℕ). Before (get_or xs k x) (get_or xs j x)) e (before-far xs r k (n - k - 1) x (omega arith)) in
    let there = subst (λ (y : Interrupt). Before (get_or xs k x) y) is far in
    subst (λ (y : Interrupt). Before y x) (get_or_default xs k x d (omega arith)) there

-- all that stand before an entry come before it
before-all : (xs : List Interrupt) → AllAdjacentBelow Before xs (length xs) → (n : ℕ) (x : Interrupt) → n < length xs
    → x ≡ get_or xs n x → All (λ y. Before y x) (take n xs)
before-all xs r n x h is k d l =
    rw (get_or-take n xs k d (omega (arith, length-take-le n xs (omega arith))))
    (before-each xs r n x h (sym is) k d (omega (arith, length-take-le n xs (omega arith))))

earlier-before : (y x : Interrupt) → Before y x → is_earlier y.thread y.index x.thread x.index ≡ true
earlier-before y x b =
    elim b [
      | inl l ↦ earlier-lower y.thread y.index x.thread x.index l
      | inr s ↦ rw (s.0, earlier-same x.thread y.index x.index) (lt-ltb y.index x.index s.1)
    ]

insert-end : (x : Interrupt) (xs : List Interrupt) → All (λ y. Before y x) xs → insert_interrupt x xs ≡ xs ++ x ∷ []
insert-end x [] h = refl
insert-end x (y ∷ xs) h =
    rw (earlier-before y x (All-head (λ y. Before y x) y xs h), insert-end x xs (All-tail (λ y. Before y x) y xs h)) refl

-- the next interrupt of a rising list is inserted after those before it
pub insert-next : (xs : List Interrupt) (entries : List Tracked) → AllAdjacentBelow Before xs (length xs) → (n : ℕ) (x : Interrupt) → n < length xs
    → x ≡ get_or xs n x → map interrupt_of entries ≡ take n xs
    → map interrupt_of (insert_tracked (new_tracked x.thread x.index x.value) entries) ≡ take (n + 1) xs
insert-next xs entries r n x h is e =
    insert-map (new_tracked x.thread x.index x.value) entries ∙ ap (insert_interrupt x) e ∙ insert-end x (take n xs) (before-all xs r n x h is)
    ∙ sym (take_more xs n x h ∙ ap (λ (y : Interrupt). take n xs ++ y ∷ []) (sym is))

other-before : (y x : Interrupt) → Before y x → ((y.thread == x.thread) && (y.index == x.index)) ≡ false
other-before y x b =
    elim b [
      | inl l ↦ rw (ne_eqb y.thread x.thread (λ e. omega arith)) refl
      | inr s ↦ rw (eq-eqb y.thread x.thread s.0, ne_eqb y.index x.index (λ e. omega (arith, s.1))) refl
    ]

none-before : (x : Interrupt) (entries : List Tracked) → All (λ y. Before y x) (map interrupt_of entries) → raised_at entries x.thread x.index ≡ None
none-before x [] h = refl
none-before x (y ∷ entries) h =
    rw (other-before (interrupt_of y) x (All-head (λ y. Before y x) (interrupt_of y) (map interrupt_of entries) h))
    (none-before x entries (All-tail (λ y. Before y x) (interrupt_of y) (map interrupt_of entries) h))

-- the next interrupt of a rising list is of a new moment
pub next-fresh : (xs : List Interrupt) (entries : List Tracked) → AllAdjacentBelow Before xs (length xs) → (n : ℕ) (x : Interrupt) → n < length xs
    → x ≡ get_or xs n x → map interrupt_of entries ≡ take n xs → raised_at entries x.thread x.index ≡ None
next-fresh xs entries r n x h is e =
    none-before x entries (subst (λ (ys : List Interrupt). All (λ y. Before y x) ys) (sym e) (before-all xs r n x h is))
