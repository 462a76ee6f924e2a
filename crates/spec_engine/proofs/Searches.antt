-- The laws of searches over slots, and of telling cores.
use Rattle.std.proofs.Common.{◌≡◌, ◌≢◌, ℕ, zero, suc, ◌<◌, ◌^◌, inl, inr, Bool, true, false, eqb, ltb, List, length, get_or, Option, Some, None, refl, sym, ◌∙◌, ap, arith}
use Rattle.std.proofs.lemmas.Bool.{and_from, and_parts, cases_lt, true≢false, cond-true, cond-false, lt-ltb, le-ltb}
use Rattle.std.proofs.lemmas.Nat.Bits.{bit_at_or, bit_at-pow_same, bit_at-pow_other, bit_at-lt, bit_at-zero}
use Rattle.std.proofs.lemmas.List.Quantifiers.{position-Some}
use Rattle.std.proofs.lemmas.List.Sums.{fails_before_first, position_or_len_is}
use Rattle.std.proofs.lemmas.Grind.{common_steps}
use Rattle.std.proofs.lemmas.Option.{none-some}
use Rattle.std.proofs.lemmas.List.{get_or_past}
use Rattle.std.specs.List.{position, position_or_len}
use Rattle.spec_engine.specs.Flights.{told_at, all_told, Flight, tell, at, passes, is_none, first_slot, free_slot}

-- ---- the cores told

-- if no bit is set, no core was told
pub told-zero : (c : ℕ) → told_at 0 c ≡ false
told-zero c = ap (λ (b : ℕ). eqb b 1) (bit_at-zero c)

-- a core that a flight is told to was told
pub told-tell : (f : Flight) (c : ℕ) → told_at (tell f c).told c ≡ true
told-tell f c = let e = bit_at_or f.told (2 ^ c) c in let s = bit_at-pow_same c in let l = bit_at-lt f.told c in grind arith

-- telling one core changes of no other whether it was told
pub told-tell_other : (f : Flight) (c d : ℕ) → d ≢ c → told_at (tell f c).told d ≡ told_at f.told d
told-tell_other f c d ne = ap (λ (b : ℕ). eqb b 1) (let e = bit_at_or f.told (2 ^ c) d in let s = bit_at-pow_other c d ne in grind arith)

-- if all cores below n were told, each of them was
pub all_told-at : (n t c : ℕ) → all_told n t ≡ true → c < n → told_at t c ≡ true
all_told-at zero t c all l = grind arith
all_told-at (suc n) t c all l =
    let p = and_parts (told_at t n) (all_told n t) all in
    elim (cases_lt c n) [ inl h ↦ all_told-at n t c p.1 h | inr h ↦ (let e : c ≡ n = omega arith in ap (told_at t) e ∙ p.0) ]

-- if each core below n was told, all were
pub all_told-from : (n t : ℕ) → ((c : ℕ) → c < n → told_at t c ≡ true) → all_told n t ≡ true
all_told-from zero t each = refl
all_told-from (suc n) t each = and_from (told_at t n) (all_told n t) (each n (omega arith)) (all_told-from n t (λ c l. each c (omega arith)))

-- ---- the lowest slot

position_none : {X : Type 0} (p : X → Bool) (xs : List X) → position p xs ≡ None → (k : ℕ) (d : X) → k < length xs → p (get_or xs k d) ≡ false
position_none p xs e k d l = grind (arith, common_steps, fails_before_first)

-- if a search finds no slot, nothing in any slot passes the test
pub first_none : {A : Type 0} (p : A → Bool) (xs : List (Option A)) → first_slot p xs ≡ None → (k : ℕ) (x : A) → at xs k ≡ Some x → p x ≡ false
unfolding first_slot
first_none p xs e k x is =
    elim (cases_lt k (length xs)) [
      | inl l ↦ ap (passes p) (sym is) ∙ position_none (passes p) xs e k None l
      | inr past ↦ absurd (none-some x (sym (get_or_past xs k None past) ∙ is))
    ]

found_at : {A : Type 0} (p : A → Bool) (o : Option A) → passes p o ≡ true → (x : A) × (o ≡ Some x) × (p x ≡ true)
found_at p None e = absurd (true≢false (sym e))
found_at p (Some x) e = (x, refl, e)

-- what is in the slot that is found passes the test
pub first_some : {A : Type 0} (p : A → Bool) (xs : List (Option A)) (k : ℕ) → first_slot p xs ≡ Some k → (x : A) × (at xs k ≡ Some x) × (p x ≡ true)
unfolding first_slot
first_some p xs k e = found_at p (at xs k) (position-Some (passes p) xs k None e).1

-- and nothing in a lower slot does
pub first_least : {A : Type 0} (p : A → Bool) (xs : List (Option A)) (k : ℕ) → first_slot p xs ≡ Some k → (j : ℕ) (x : A) → j < k → at xs j ≡ Some x → p x ≡ false
unfolding first_slot
first_least p xs k e j x l is = ap (passes p) (sym is) ∙ (position-Some (passes p) xs k None e).2 j l

free_at : {A : Type 0} (o : Option A) → is_none o ≡ true → o ≡ None
free_at None e = refl
free_at (Some x) e = absurd (true≢false (sym e))

-- a free slot that is found is one of the slots
pub free_slot-within : {A : Type 0} (xs : List (Option A)) (k : ℕ) → free_slot xs ≡ Some k → k < length xs
unfolding free_slot
free_slot-within xs k e = (position-Some is_none xs k None e).0

-- a free slot that is found holds nothing
pub free_slot-free : {A : Type 0} (xs : List (Option A)) (k : ℕ) → free_slot xs ≡ Some k → at xs k ≡ None
unfolding free_slot
free_slot-free xs k e = free_at (at xs k) (position-Some is_none xs k None e).1

-- every slot of a full window holds something
pub full_at : {A : Type 0} (xs : List (Option A)) → free_slot xs ≡ None → (k : ℕ) → k < length xs → is_none (at xs k) ≡ false
unfolding free_slot
full_at xs e k l = position_none is_none xs e k None l

-- ---- a search that went through the slots in order

-- a slot whose content passes the test, with none that does before it, is the one that the search finds
pub first_is : {A : Type 0} (p : A → Bool) (xs : List (Option A)) (k : ℕ) → k < length xs → ((j : ℕ) → j < k → passes p (at xs j) ≡ false) → passes p (at xs k) ≡ true → Some k ≡ first_slot p xs
unfolding first_slot
first_is p xs k l before e =
    let found = position_or_len_is (passes p) xs k None (omega arith) before (λ _. e) in
    sym (cond-true (ltb (position_or_len (passes p) xs) (length xs)) _ _ (lt-ltb _ _ (omega arith)) ∙ ap Some found)

-- if the content of no slot passes the test, the search finds none
pub first_is_none : {A : Type 0} (p : A → Bool) (xs : List (Option A)) → ((j : ℕ) → j < length xs → passes p (at xs j) ≡ false) → None ≡ first_slot p xs
unfolding first_slot
first_is_none p xs each =
    let past = position_or_len_is (passes p) xs (length xs) None (omega arith) each (λ l. absurd (let m : length xs < length xs = l in omega arith)) in
    sym (cond-false (ltb (position_or_len (passes p) xs) (length xs)) _ _ (le-ltb _ _ (omega arith)))
