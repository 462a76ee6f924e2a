-- Where a probe ends: it meets a free slot, and a slot that is set elsewhere makes no difference to it.
use Rattle.std.proofs.Common.{◌≡◌, ◌≢◌, ℕ, ◌+◌, ◌-◌, ◌*◌, ◌<◌, ◌≤◌, inl, inr, zero, suc, Bool, true, false, List, [], ◌∷◌, length, get_or, drop, Option, Some, None, refl, sym, ap, ◌∙◌, arith, length-drop, subst}
use Rattle.std.specs.Prelude.{slice_set}
use Rattle.std.specs.List.{position, position_or_len}
use Rattle.std.specs.Option.{unwrap_or}
use Rattle.std.proofs.lemmas.Bool.{cases_Bool, cases_lt, lt-ltb, le-ltb, ne_eqb, eq-eqb}
use Rattle.std.proofs.lemmas.Bool.Decides.{eqb_tells}
use Rattle.std.proofs.lemmas.List.{drop-set-lt, drop-set-add, get_or-drop}
use Rattle.std.proofs.lemmas.List.Folds.{position_or_len-set}
use Rattle.std.proofs.lemmas.List.Sums.{passes_at_first}
use Rattle.dl_wbuf.specs.declared.entry.Entry.{Entry}
use Rattle.dl_wbuf.specs.Tables.{fits, used, probe}

-- ---- the first that passes

-- the place of the first that passes a test, or the length for none, is at most the length
pub first_le : {X : Type 0} (p : X → Bool) (xs : List X) → position_or_len p xs ≤ length xs
first_le p [] = omega arith
first_le p (x ∷ xs) =
    elim (cases_Bool (p x)) [
      | inl passes ↦ rw passes (omega arith)
      | inr fails ↦ rw fails (omega (arith, first_le p xs))
    ]

-- the first place that passes a test, if there is one, and else the length, is what position_or_len answers
pub first_or_len : {X : Type 0} (p : X → Bool) (xs : List X) → unwrap_or (position p xs) (length xs) ≡ position_or_len p xs
first_or_len p xs =
    elim (cases_lt (position_or_len p xs) (length xs)) [
      | inl inside ↦ rw (lt-ltb _ _ inside) refl
      | inr outside ↦ rw (le-ltb _ _ outside) (omega (arith, first_le p xs))
    ]

-- ---- a probe ends at a slot

stops : (a : ℕ) (ss : List (Option Entry)) → used ss < length ss → position_or_len (fits a) ss < length ss
stops a [] h = absurd (omega arith)
stops a (None ∷ ss) h = omega arith
stops a (Some e ∷ ss) h =
    elim (eqb_tells e.number a) [
      | inl it ↦ rw it.0 (omega arith)
      | inr it ↦ let rest = stops a ss (omega arith) in rw it.0 (omega (arith, rest))
    ]

used_drop : (n : ℕ) (ss : List (Option Entry)) → used (drop n ss) ≤ used ss
used_drop zero ss = omega arith
used_drop (suc n) [] = omega arith
used_drop (suc n) (None ∷ ss) = used_drop n ss
used_drop (suc n) (Some e ∷ ss) = omega (arith, used_drop n ss)

-- with at most half of the slots used, a probe that begins in the first half ends at a slot
pub probe_inside : (slots : List (Option Entry)) (start a room : ℕ) → used slots ≤ room → 2 * room ≤ length slots → 2 * start < length slots → probe slots start a < length slots
probe_inside slots start a room h half starts =
    let e : length (drop start slots) + start ≡ length slots = omega (arith, length-drop start slots) in
    omega (arith, stops a (drop start slots) (omega (arith, used_drop start slots)))

-- ---- a slot is set

-- an element is set that isn't the first to pass, and then doesn't pass
first_kept : {X : Type 0} (p : X → Bool) (xs : List X) (i : ℕ) (y : X) → position_or_len p xs ≢ i → p y ≡ false → position_or_len p (slice_set xs i y) ≡ position_or_len p xs
first_kept p [] i y ne fails = refl
first_kept p (x ∷ xs) zero y ne fails =
    elim (cases_Bool (p x)) [
      | inl passes ↦ let e : position_or_len p (x ∷ xs) ≡ 0 = rw passes refl in absurd (ne e)
      | inr other ↦ rw (fails, other) refl
    ]
first_kept p (x ∷ xs) (suc i) y ne fails =
    elim (cases_Bool (p x)) [
      | inl passes ↦ rw passes refl
      | inr other ↦
          let e : position_or_len p (x ∷ xs) ≡ 1 + position_or_len p xs = rw other refl in
          rw other (ap (λ n. 1 + n) (first_kept p xs i y (λ f. let g : position_or_len p (x ∷ xs) ≡ suc i = omega arith in ne g) fails))
    ]

kept_at : (slots : List (Option Entry)) (start a i : ℕ) (e : Entry) → probe slots start a ≢ start + i → e.number ≢ a → probe (slice_set slots (start + i) (Some e)) start a ≡ probe slots start a
kept_at slots start a i e ne other =
    rw (drop-set-add start slots i (Some e))
    (ap (λ n. start + n) (first_kept (fits a) (drop start slots) i (Some e) (λ f. ne (ap (λ n. start + n) f)) (ne_eqb _ _ other)))

-- the slot is not that at which the probe ends, and the entry is of another number
pub probe_kept : (slots : List (Option Entry)) (start a slot : ℕ) (e : Entry) → probe slots start a ≢ slot → e.number ≢ a → probe (slice_set slots slot (Some e)) start a ≡ probe slots start a
probe_kept slots start a slot e ne other =
    elim (cases_lt slot start) [
      | inl before ↦ rw (drop-set-lt start slots slot (Some e) before) refl
      | inr from ↦
          let P : ℕ → Type 0 = λ n. probe slots start a ≢ n → probe (slice_set slots n (Some e)) start a ≡ probe slots start a in
          let here : start + (slot - start) ≡ slot = omega arith in
          subst P here (λ n. kept_at slots start a (slot - start) e n other) ne
    ]

-- a probe that ends within the list ends at a slot that fits
pub probe_fits : (slots : List (Option Entry)) (start a : ℕ) → probe slots start a < length slots → fits a (get_or slots (probe slots start a) None) ≡ true
probe_fits slots start a inside =
    let lt : position_or_len (fits a) (drop start slots) < length (drop start slots) = omega (arith, length-drop start slots) in
    rw (get_or-drop start slots (position_or_len (fits a) (drop start slots)) None) at (passes_at_first (fits a) (drop start slots) None lt)

-- the entry of the number that is probed for is put where the probe ends
pub probe_found : (slots : List (Option Entry)) (start : ℕ) (e : Entry) → probe slots start e.number < length slots → probe (slice_set slots (probe slots start e.number) (Some e)) start e.number ≡ probe slots start e.number
probe_found slots start e inside =
    let i : ℕ = position_or_len (fits e.number) (drop start slots) in
    let lt : i < length (drop start slots) = omega (arith, length-drop start slots) in
    let both : fits e.number (Some e) ≡ fits e.number (get_or (drop start slots) i None) = eq-eqb e.number e.number refl ∙ sym (passes_at_first (fits e.number) (drop start slots) None lt) in
    rw (drop-set-add start slots i (Some e)) (ap (λ n. start + n) (position_or_len-set (fits e.number) (drop start slots) i (Some e) None both))
