-- A log of which something is left out, and which counts from the base, is a log again.
use Rattle.std.proofs.Common.{◌≡◌, ℕ, zero, suc, ◌-◌, ◌<◌, ◌≤◌, inl, inr, Bool, true, false, List, [], ◌∷◌, All, length, map, get_or, refl, ap, sym, ◌∙◌, subst, add-one, arith}
use Rattle.std.specs.Prelude.{nat_lt, not, ◌||◌, filter}
use Rattle.std.specs.List.{list_any, AllAdjacentBelow}
use Rattle.std.proofs.lemmas.Bool.{le-ltb, ltb-true, ltb-false, true≢false}
use Rattle.std.proofs.lemmas.List.Elements.{All-head, All-tail, All-nil, All-cons}
use Rattle.spec_isa.specs.declared.thread.Parts.{Parts}
use Rattle.spec_log.specs.declared.DmaRecord.{DmaRecord}
use Rattle.spec_log.specs.declared.Interrupt.{Interrupt}
use Rattle.spec_log.specs.declared.ModeName.{ModeName}
use Rattle.spec_log.specs.declared.ShortSize.{ShortSize}
use Rattle.spec_log.specs.declared.Sizes.{Sizes}
use Rattle.spec_log.specs.Log.{ComesBefore, IsSection, IsShortSize, AreShortSizes, IsSizes, IsInterrupt, AreInterrupts, IsDmaRecord, AreDmas, IsLog}
use Rattle.spec_tail.specs.Playing.{begun, short_since, interrupt_since, dma_since}
use Rattle.spec_tail.specs.Later.{is_early_size, sizes_later, is_later_interrupt, interrupts_later, is_early_dma, dmas_later, log_later}
use Rattle.spec_tail.specs.Tails.{Tail, IsTail}

-- ---- rising lists, each of whose entries comes before the next

module _ {X : Type 0} (Before : X → X → Type 0) (trans : (x y z : X) → Before x y → Before y z → Before x z) where
  abbrev Behind : X → List X → Type 0
  Behind x [] = Unit {0}
  Behind x (y ∷ ys) = Before x y × Behind y ys

  abbrev Rising : List X → Type 0
  Rising [] = Unit {0}
  Rising (x ∷ xs) = Behind x xs

  further : (x y : X) (ys : List X) → Before x y → Behind y ys → Behind x ys
  further x y [] b h = tt
  further x y (z ∷ zs) b h = (trans x y z b h.0, h.1)

  behind-adjacent : (x : X) (xs : List X) → Behind x xs → (k : ℕ) (d : X) → suc k < length (x ∷ xs) → Before (get_or (x ∷ xs) k d) (get_or (x ∷ xs) (suc k) d)
  behind-adjacent x [] b k d h = absurd (omega arith)
  behind-adjacent x (y ∷ ys) b zero d h = b.0
  behind-adjacent x (y ∷ ys) b (suc k) d h = behind-adjacent y ys b.1 k d (omega arith)

  adjacent-behind : (x : X) (xs : List X) → ((k : ℕ) (d : X) → suc k < length (x ∷ xs) → Before (get_or (x ∷ xs) k d) (get_or (x ∷ xs) (suc k) d)) → Behind x xs
  adjacent-behind x [] h = tt
  adjacent-behind x (y ∷ ys) h = (h 0 x (omega arith), adjacent-behind y ys (λ k d l. h (suc k) d (omega arith)))

  rising-adjacent : (xs : List X) → Rising xs → AllAdjacentBelow Before xs (length xs)
  rising-adjacent [] r k d h = absurd (omega arith)
  rising-adjacent (x ∷ xs) r k d h =
      subst (λ (n : ℕ). Before (get_or (x ∷ xs) k d) (get_or (x ∷ xs) n d)) (sym (add-one k)) (behind-adjacent x xs r k d (omega arith))

  adjacent-rising : (xs : List X) → AllAdjacentBelow Before xs (length xs) → Rising xs
  adjacent-rising [] h = tt
  adjacent-rising (x ∷ xs) h =
      adjacent-behind x xs (λ k d l. subst (λ (n : ℕ). Before (get_or (x ∷ xs) k d) (get_or (x ∷ xs) n d)) (add-one k) (h k d (omega arith)))

  -- what is left in, each changed so that the order stays
  module _ (good : X → Type 0) (p : X → Bool) (f : X → X) (keeps : (x y : X) → p x ≡ true → p y ≡ true → Before x y → Before (f x) (f y)) (stays : (x : X) → p x ≡ true → good x → good (f x)) where
    abbrev left_in : List X → List X
    left_in xs = map f (filter p xs)

    in_it : (x : X) (xs : List X) → p x ≡ true → left_in (x ∷ xs) ≡ f x ∷ left_in xs
    in_it x xs is = rw is refl

    out_of_it : (x : X) (xs : List X) → p x ≡ false → left_in (x ∷ xs) ≡ left_in xs
    out_of_it x xs is = rw is refl

    behind_next : (x y : X) (ys : List X) (b : Bool) → p y ≡ b → p x ≡ true → Before x y → (p y ≡ true → Behind (f y) (left_in ys)) → Behind (f x) (left_in ys) → Behind (f x) (left_in (y ∷ ys))
    behind_next x y ys true is own b own_next next = subst (Behind (f x)) (sym (in_it y ys is)) (keeps x y own is b, own_next is)
    behind_next x y ys false is own b own_next next = subst (Behind (f x)) (sym (out_of_it y ys is)) next

    behind_left : (x : X) (xs : List X) → p x ≡ true → Behind x xs → Behind (f x) (left_in xs)
    behind_left x [] own h = tt
    behind_left x (y ∷ ys) own h =
        behind_next x y ys (p y) refl own h.0 (λ is. behind_left y ys is h.1) (behind_left x ys own (further x y ys h.0 h.1))

    rising_next : (x : X) (xs : List X) (b : Bool) → p x ≡ b → Behind x xs → Rising (left_in xs) → Rising (left_in (x ∷ xs))
    rising_next x xs true is h next = subst Rising (sym (in_it x xs is)) (behind_left x xs is h)
    rising_next x xs false is h next = subst Rising (sym (out_of_it x xs is)) next

    tail_rises : (x : X) (xs : List X) → Behind x xs → Rising xs
    tail_rises x [] h = tt
    tail_rises x (y ∷ ys) h = h.1

    rising_left : (xs : List X) → Rising xs → Rising (left_in xs)
    rising_left [] r = tt
    rising_left (x ∷ xs) r = rising_next x xs (p x) refl r (rising_left xs (tail_rises x xs r))

    good_next : (x : X) (xs : List X) (b : Bool) → p x ≡ b → good x → All good (left_in xs) → All good (left_in (x ∷ xs))
    good_next x xs true is g all = subst (All good) (sym (in_it x xs is)) (All-cons good (f x) (left_in xs) (stays x is g) all)
    good_next x xs false is g all = subst (All good) (sym (out_of_it x xs is)) all

    good_left : (xs : List X) → All good xs → All good (left_in xs)
    good_left [] all = All-nil good
    good_left (x ∷ xs) all = good_next x xs (p x) refl (All-head good x xs all) (good_left xs (All-tail good x xs all))

    few_next : (x : X) (xs : List X) (b : Bool) → p x ≡ b → length (left_in xs) ≤ length xs → length (left_in (x ∷ xs)) ≤ suc (length xs)
    few_next x xs true is few = let e = ap (λ (ys : List X). length ys) (in_it x xs is) in omega (arith, e, few)
    few_next x xs false is few = let e = ap (λ (ys : List X). length ys) (out_of_it x xs is) in omega (arith, e, few)

    few_left : (xs : List X) → length (left_in xs) ≤ length xs
    few_left [] = omega arith
    few_left (x ∷ xs) = few_next x xs (p x) refl (few_left xs)

    section_left : (xs : List X) → IsSection good Before xs → IsSection good Before (left_in xs)
    section_left xs s =
        record {
          few = (let l = few_left xs in let h = s.few in omega (arith, l, h));
          each = good_left xs s.each;
          rising = rising-adjacent (left_in xs) (rising_left xs (adjacent-rising xs s.rising));
        }

not_false : (b : Bool) → not b ≡ true → b ≡ false
not_false true e = absurd (true≢false (sym e))
not_false false e = refl

both_so : {X : Type 0} (R : X → X → Type 0) (a b c d : X) → c ≡ a → d ≡ b → R a b → R c d
both_so R a b c d e f h = subst (λ x. R x d) (sym e) (subst (R a) (sym f) h)

-- ---- moments of threads

moments_trans : (t i u j v k : ℕ) → ComesBefore t i u j → ComesBefore u j v k → ComesBefore t i v k
moments_trans t i u j v k (inl a) (inl b) = inl (omega (arith, a, b))
moments_trans t i u j v k (inl a) (inr b) = inl (let e = b.0 in omega (arith, a, e))
moments_trans t i u j v k (inr a) (inl b) = inl (let e = a.0 in omega (arith, b, e))
moments_trans t i u j v k (inr a) (inr b) = inr (a.0 ∙ b.0, (let x = a.1 in let y = b.1 in omega (arith, x, y)))

-- counted from the base
moments_since : (begun : ℕ → ℕ) (t i u j : ℕ) → begun t ≤ i → begun u ≤ j → ComesBefore t i u j → ComesBefore t (i - begun t) u (j - begun u)
moments_since begun t i u j a b (inl l) = inl l
moments_since begun t i u j a b (inr h) =
    let same = ap begun h.0 in let l = h.1 in inr (h.0, omega (arith, a, b, same, l))

module _ (ps : List Parts) where
  abbrev BeforeSize : ShortSize → ShortSize → Type 0
  BeforeSize x y = ComesBefore x.thread x.index y.thread y.index

  abbrev is_late : ShortSize → Bool
  is_late x = not (is_early_size ps x)

  size_since : (x : ShortSize) → is_late x ≡ true → short_since ps x ≡ record x { index = x.index - begun ps x.thread }
  size_since x is = rw (not_false (is_early_size ps x) is) refl

  size_least : (x : ShortSize) → is_late x ≡ true → begun ps x.thread ≤ x.index
  size_least x is = ltb-false x.index (begun ps x.thread) (not_false (is_early_size ps x) is)

  sizes_left : (threads s : ℕ) (xs : List ShortSize) → AreShortSizes threads s xs → AreShortSizes threads s (map (short_since ps) (filter is_late xs))
  sizes_left threads s xs =
      section_left BeforeSize (λ x y z. moments_trans x.thread x.index y.thread y.index z.thread z.index) (IsShortSize threads s) is_late (short_since ps)
      (λ x y p q b. both_so BeforeSize _ _ _ _ (size_since x p) (size_since y q) (moments_since (begun ps) x.thread x.index y.thread y.index (size_least x p) (size_least y q) b))
      (λ x p g. subst (IsShortSize threads s) (sym (size_since x p)) (g.0, (let l = g.1 in omega (arith, l)), g.2, g.3)) xs

  abbrev BeforeInterrupt : Interrupt → Interrupt → Type 0
  BeforeInterrupt x y = ComesBefore x.thread x.index y.thread y.index

  later_early : (x : Interrupt) → is_later_interrupt ps x ≡ true → nat_lt x.index (begun ps x.thread) ≡ false
  later_early x is = let l = ltb-true (begun ps x.thread) x.index is in le-ltb _ _ (omega (arith, l))

  interrupt_since_base : (x : Interrupt) → is_later_interrupt ps x ≡ true → interrupt_since ps x ≡ record x { index = x.index - begun ps x.thread }
  interrupt_since_base x is = rw (later_early x is) refl

  interrupt_least : (x : Interrupt) → is_later_interrupt ps x ≡ true → begun ps x.thread ≤ x.index
  interrupt_least x is = let l = ltb-true (begun ps x.thread) x.index is in omega (arith, l)

  interrupts_left : (threads : ℕ) (xs : List Interrupt) → AreInterrupts threads xs → AreInterrupts threads (interrupts_later ps xs)
  interrupts_left threads xs =
      section_left BeforeInterrupt (λ x y z. moments_trans x.thread x.index y.thread y.index z.thread z.index) (IsInterrupt threads) (is_later_interrupt ps) (interrupt_since ps)
      (λ x y p q b. both_so BeforeInterrupt _ _ _ _ (interrupt_since_base x p) (interrupt_since_base y q) (moments_since (begun ps) x.thread x.index y.thread y.index (interrupt_least x p) (interrupt_least y q) b))
      (λ x p g. subst (IsInterrupt threads) (sym (interrupt_since_base x p)) (g.0, (let l = g.1 in omega (arith, l)), g.2)) xs

  mode_left : (mode : ModeName) (threads s count : ℕ) (sizes : Sizes) → IsSizes mode threads s count sizes → IsSizes mode threads s count (sizes_later ps sizes)
  mode_left ModeName.OrderSize threads s count (Sizes.Each xs) is = is
  mode_left ModeName.OrderSize threads s count (Sizes.Short xs) is = is
  mode_left ModeName.OrderOnly threads s count (Sizes.Each xs) is = is
  mode_left ModeName.OrderOnly threads s count (Sizes.Short xs) is = sizes_left threads s xs is
  mode_left ModeName.Picolog threads s count (Sizes.Each xs) is = is
  mode_left ModeName.Picolog threads s count (Sizes.Short xs) is = sizes_left threads s xs is

-- ---- DMAs

module _ (base count : ℕ) where
  abbrev BeforeDma : DmaRecord → DmaRecord → Type 0
  BeforeDma x y = x.position < y.position

  abbrev is_late_dma : DmaRecord → Bool
  is_late_dma x = not (is_early_dma base x)

  dma_since_base : (x : DmaRecord) → is_late_dma x ≡ true → dma_since base count x ≡ record x { position = x.position - base }
  dma_since_base x is = rw (not_false (is_early_dma base x) is) refl

  dma_least : (x : DmaRecord) → is_late_dma x ≡ true → base ≤ x.position
  dma_least x is = ltb-false x.position base (not_false (is_early_dma base x) is)

  dmas_before : (x y : DmaRecord) → is_late_dma x ≡ true → is_late_dma y ≡ true → BeforeDma x y → BeforeDma (dma_since base count x) (dma_since base count y)
  dmas_before x y p q b =
      both_so BeforeDma _ _ _ _ (dma_since_base x p) (dma_since_base y q) (let l = dma_least x p in let m = dma_least y q in omega (arith, l, m, b))

  dmas_left : (xs : List DmaRecord) → AreDmas xs → AreDmas (dmas_later base count xs)
  dmas_left xs =
      section_left BeforeDma (λ x y z a b. omega (arith, a, b)) IsDmaRecord is_late_dma (dma_since base count) dmas_before
      (λ x p g. subst IsDmaRecord (sym (dma_since_base x p)) ((let l = g.0 in omega (arith, l)), g.1)) xs

  -- if one comes before the base, the first one does
  pub record StartsEarly (xs : List DmaRecord) : Type 0 where
    pub first : DmaRecord
    pub others : List DmaRecord
    pub are : xs ≡ first ∷ others
    pub early : is_early_dma base first ≡ true

  none_behind : (x : DmaRecord) (xs : List DmaRecord) → base ≤ x.position → Behind BeforeDma (λ x y z a b. omega (arith, a, b)) x xs → list_any (is_early_dma base) xs ≡ false
  none_behind x [] least b = refl
  none_behind x (y ∷ ys) least b =
      let before = b.0 in
      let late : is_early_dma base y ≡ false = le-ltb _ _ (omega (arith, before, least)) in
      ap (λ (c : Bool). c || list_any (is_early_dma base) ys) late ∙ none_behind y ys (omega (arith, before, least)) b.1

  early_if : (x : DmaRecord) (xs : List DmaRecord) (b : Bool) → is_early_dma base x ≡ b → Behind BeforeDma (λ x y z a b. omega (arith, a, b)) x xs → list_any (is_early_dma base) (x ∷ xs) ≡ true → StartsEarly (x ∷ xs)
  early_if x xs true is rises any = record { first = x; others = xs; are = refl; early = is }
  early_if x xs false is rises any =
      let none = none_behind x xs (ltb-false x.position base is) rises in
      absurd (true≢false (sym any ∙ ap (λ (c : Bool). c || list_any (is_early_dma base) xs) is ∙ none))

  pub starts-early : (xs : List DmaRecord) → AreDmas xs → list_any (is_early_dma base) xs ≡ true → StartsEarly xs
  starts-early [] is any = absurd (true≢false (sym any))
  starts-early (x ∷ xs) is any =
      early_if x xs (is_early_dma base x) refl (adjacent-rising BeforeDma (λ x y z a b. omega (arith, a, b)) (x ∷ xs) is.rising) any

-- ---- all of it

-- the log of a tail without what is logged for moments before the base is still a log
pub later-is-log : (t : Tail) → IsTail t → IsLog (log_later t)
later-is-log t is =
    let log = is.log in
    record {
      version = log.version;
      s = log.s;
      count = log.count;
      order = log.order;
      sizes = mode_left t.threads t.log.mode t.log.threads t.log.s t.log.count t.log.sizes log.sizes;
      interrupts = interrupts_left t.threads t.log.threads t.log.interrupts log.interrupts;
      inputs = log.inputs;
      dmas = dmas_left t.base t.log.count t.log.dmas log.dmas;
    }
