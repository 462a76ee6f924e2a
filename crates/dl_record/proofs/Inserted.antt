-- Entries in the order of their moments stay so with one more put at its place.
use Rattle.std.proofs.Common.{◌≡◌, ℕ, zero, suc, ◌+◌, ◌^◌, ◌<◌, ◌≤◌, ◌==◌, Bool, true, false, ◌&&◌, List, [], ◌∷◌, All, length, get_or, inl, inr, refl, sym, subst, arith, add-one}
use Rattle.std.specs.List.{AllAdjacentBelow}
use Rattle.std.proofs.lemmas.Bool.{lt-ltb, le-ltb, eq-eqb, ne_eqb, cases_order}
use Rattle.std.proofs.lemmas.List.Elements.{All-nil, All-cons, All-head, All-tail}
use Rattle.spec_log.specs.Log.{ComesBefore, IsSection}
use Rattle.spec_log.specs.Noting.{insert_by}
use Rattle.spec_log.specs.Reading.{is_earlier}

module _ {X : Type 0} (thread index : X → ℕ) where
  abbrev Before : X → X → Type 0
  Before x y = ComesBefore (thread x) (index x) (thread y) (index y)

  -- each comes after a moment and after the one before it
  abbrev Behind : ℕ → ℕ → List X → Type 0
  Behind t i [] = Unit {0}
  Behind t i (y ∷ ys) = ComesBefore t i (thread y) (index y) × Behind (thread y) (index y) ys

  abbrev Rising : List X → Type 0
  Rising [] = Unit {0}
  Rising (y ∷ ys) = Behind (thread y) (index y) ys

  -- one of three: earlier, the same moment, or later
  pub data Placed (y x : X) : Type 0 where
    earlier : is_earlier (thread y) (index y) (thread x) (index x) ≡ true → Before y x → Placed y x
    same : is_earlier (thread y) (index y) (thread x) (index x) ≡ false → ((thread y == thread x) && (index y == index x)) ≡ true
        → thread y ≡ thread x → index y ≡ index x → Placed y x
    later : is_earlier (thread y) (index y) (thread x) (index x) ≡ false → ((thread y == thread x) && (index y == index x)) ≡ false
        → Before x y → Placed y x

  placed : (y x : X) → Placed y x
  placed y x =
      elim (cases_order (thread y) (thread x)) [
        | inl t ↦ elim (cases_order (index y) (index x)) [
          | inl i ↦ same (rw (le-ltb (thread y) (thread x) (omega arith), le-ltb (index y) (index x) (omega arith)) (and-false (thread y == thread x)))
              (rw (eq-eqb (thread y) (thread x) t, eq-eqb (index y) (index x) i) refl) t i
          | inr o ↦ elim o [
            | inl l ↦ earlier (rw (le-ltb (thread y) (thread x) (omega arith), eq-eqb (thread y) (thread x) t, lt-ltb (index y) (index x) l) refl) (inr (t, l))
            | inr g ↦ later (rw (le-ltb (thread y) (thread x) (omega arith), le-ltb (index y) (index x) (omega arith)) (and-false (thread y == thread x)))
                (rw (ne_eqb (index y) (index x) (λ e. omega arith)) (and-false (thread y == thread x))) (inr (sym t, g))
          ]
        ]
        | inr o ↦ elim o [
          | inl l ↦ earlier (rw (lt-ltb (thread y) (thread x) l) refl) (inl l)
          | inr g ↦ later (rw (le-ltb (thread y) (thread x) (omega arith), ne_eqb (thread y) (thread x) (λ e. omega arith)) refl)
              (rw (ne_eqb (thread y) (thread x) (λ e. omega arith)) refl) (inl g)
        ]
      ] where
        and-false : (b : Bool) → (b && false) ≡ false
        and-false b = elim b as (λ b. (b && false) ≡ false) [ true ↦ refl | false ↦ refl ]

  behind-insert : (t i : ℕ) (x : X) (xs : List X) → ComesBefore t i (thread x) (index x) → Behind t i xs → Behind t i (insert_by thread index x xs)
  behind-insert t i x [] h b = (h, tt)
  behind-insert t i x (y ∷ ys) h b =
      elim (placed y x) [
        | earlier e c ↦ rw e (b.0, behind-insert (thread y) (index y) x ys c b.1)
        | same e f p q ↦ rw (e, f) (h, subst (λ (j : ℕ). Behind (thread x) j ys) q (subst (λ (u : ℕ). Behind u (index y) ys) p b.1))
        | later e f c ↦ rw (e, f) (h, (c, b.1))
      ]

  rising-insert : (x : X) (xs : List X) → Rising xs → Rising (insert_by thread index x xs)
  rising-insert x [] r = tt
  rising-insert x (y ∷ ys) r =
      elim (placed y x) [
        | earlier e c ↦ rw e (behind-insert (thread y) (index y) x ys c r)
        | same e f p q ↦ rw (e, f) (subst (λ (j : ℕ). Behind (thread x) j ys) q (subst (λ (u : ℕ). Behind u (index y) ys) p r))
        | later e f c ↦ rw (e, f) (c, r)
      ]

  behind-adjacent : (x : X) (xs : List X) → Behind (thread x) (index x) xs → (k : ℕ) (d : X) → suc k < length (x ∷ xs)
      → Before (get_or (x ∷ xs) k d) (get_or (x ∷ xs) (suc k) d)
  behind-adjacent x [] b k d h = absurd (omega arith)
  behind-adjacent x (y ∷ ys) b zero d h = b.0
  behind-adjacent x (y ∷ ys) b (suc k) d h = behind-adjacent y ys b.1 k d (omega arith)

  adjacent-behind : (x : X) (xs : List X) → ((k : ℕ) (d : X) → suc k < length (x ∷ xs) → Before (get_or (x ∷ xs) k d) (get_or (x ∷ xs) (suc k) d))
      → Behind (thread x) (index x) xs
  adjacent-behind x [] h = tt
  adjacent-behind x (y ∷ ys) h = (h 0 x (omega arith), adjacent-behind y ys (λ k d l. h (suc k) d (omega arith)))

  rising-adjacent : (xs : List X) → Rising xs → AllAdjacentBelow Before xs (length xs)
  rising-adjacent [] r k d h = absurd (omega arith)
  rising-adjacent (x ∷ xs) r k d h =
      subst (λ (n : ℕ). Before (get_or (x ∷ xs) k d) (get_or (x ∷ xs) n d)) (sym (add-one k)) (behind-adjacent x xs r k d (omega arith))

  adjacent-rising : (xs : List X) → AllAdjacentBelow Before xs (length xs) → Rising xs
  adjacent-rising [] h = tt
  adjacent-rising (x ∷ xs) h =
      adjacent-behind x xs (λ k d l. subst (λ (n : ℕ). Before (get_or (x ∷ xs) k d) (get_or (x ∷ xs) n d)) (add-one k) (h k d (omega arith)))

  pub All-insert : (P : X → Type 0) (x : X) (xs : List X) → P x → All P xs → All P (insert_by thread index x xs)
  All-insert P x [] p all = All-cons P x [] p (All-nil P)
  All-insert P x (y ∷ ys) p all =
      elim (placed y x) [
        | earlier e c ↦ rw e (All-cons P y (insert_by thread index x ys) (All-head P y ys all) (All-insert P x ys p (All-tail P y ys all)))
        | same e f q r ↦ rw (e, f) (All-cons P x ys p (All-tail P y ys all))
        | later e f c ↦ rw (e, f) (All-cons P x (y ∷ ys) p all)
      ]

  -- an entry put into a list makes it longer by at most one
  pub length-insert : (x : X) (xs : List X) → length (insert_by thread index x xs) ≤ length xs + 1
  length-insert x [] = omega arith
  length-insert x (y ∷ ys) =
      elim (placed y x) [
        | earlier e c ↦ rw e (omega (arith, length-insert x ys))
        | same e f q r ↦ rw (e, f) (omega arith)
        | later e f c ↦ rw (e, f) (omega arith)
      ]

  -- a good entry makes a section of good entries again
  pub IsSection-insert : (good : X → Type 0) (x : X) (xs : List X) → length (insert_by thread index x xs) < 2 ^ 32 → good x
      → IsSection good Before xs → IsSection good Before (insert_by thread index x xs)
  IsSection-insert good x xs few g s =
      record {
        few = few;
        each = All-insert good x xs g s.each;
        rising = rising-adjacent (insert_by thread index x xs) (rising-insert x xs (adjacent-rising xs s.rising));
      }
