-- The interrupts at the base, applied to one thread after another.
use Rattle.std.proofs.Common.{◌≡◌, ℕ, zero, suc, ◌+◌, ◌-◌, ◌<◌, ◌≤◌, Bool, true, false, ◌&&◌, cond, List, [], ◌∷◌, ◌++◌, length, map, take, drop, Option, Some, None, refl, sym, ap, ◌∙◌, subst, add-one, append-nil, append_assoc, arith}
use Rattle.std.specs.Prelude.{nat_eq, nat_lt, find, option_map, slice_get, slice_set}
use Rattle.std.proofs.lemmas.Bool.{ltb-true, ltb-false, eqb-true}
use Rattle.std.proofs.lemmas.List.{take-append-drop, take_all, drop_all, length-set}
use Rattle.std.proofs.lemmas.Option.{slice_get_within}
use Rattle.spec_isa.specs.declared.thread.Parts.{Parts}
use Rattle.spec_kernel.specs.Interrupts.{takes_interrupt, interrupted}
use Rattle.spec_log.specs.declared.Interrupt.{Interrupt}
use Rattle.spec_play.specs.Verdicts.{interrupt_at}
use Rattle.spec_tail.specs.Playing.{begun, no_thread, interrupt_since, Raised, led_by, raised_first, raised, uncounted}

-- threads that are done, with so many interrupts, before what becomes of the others
abbrev pub led : List Parts → (count : ℕ) → Raised → Raised
led done n r = record { threads = done ++ r.threads; count = n + r.count; refused = r.refused }

-- ---- the interrupt for a first commit

abbrev is_at : (thread index : ℕ) → Interrupt → Bool
is_at k i x = nat_eq x.thread k && nat_eq x.index i

not_both : (a b : Bool) → (a ≡ true → b ≡ false) → (a && b) ≡ false
not_both true b h = h refl
not_both false b h = refl

neither : (a b : Bool) → a ≡ false → (a && b) ≡ false
neither true b is = absurd cc
neither false b is = refl

and_alike : (a b c : Bool) → (a ≡ true → b ≡ c) → (a && b) ≡ (a && c)
and_alike true b c h = h refl
and_alike false b c h = refl

early_same : (ps : List Parts) (k : ℕ) → nat_eq no_thread k ≡ false → (x : Interrupt) (b : Bool) → nat_lt x.index (begun ps x.thread) ≡ b → is_at k 0 (interrupt_since ps x) ≡ is_at k (begun ps k) x
early_same ps k other x true is =
    let since : (interrupt_since ps x).thread ≡ no_thread = rw is refl in
    let l = ltb-true x.index (begun ps x.thread) is in
    let not_now : nat_eq x.thread k ≡ true → nat_eq x.index (begun ps k) ≡ false =
    λ own.
    let same = eqb-true x.thread k own in
    let at = ap (begun ps) same in
    grind (arith, l, at)
    in
    neither (nat_eq (interrupt_since ps x).thread k) (nat_eq (interrupt_since ps x).index 0) (ap (λ (n : ℕ). nat_eq n k) since ∙ other)
    ∙ sym (not_both (nat_eq x.thread k) (nat_eq x.index (begun ps k)) not_now)
early_same ps k other x false is =
    let since : (interrupt_since ps x).thread ≡ x.thread = rw is refl in
    let l = ltb-false x.index (begun ps x.thread) is in
    let now : nat_eq x.thread k ≡ true → nat_eq (x.index - begun ps x.thread) 0 ≡ nat_eq x.index (begun ps k) =
    λ own.
    let same = eqb-true x.thread k own in
    let at = ap (begun ps) same in
    alike x.index (begun ps x.thread) (begun ps k) l at
    in
    ap (λ (n : ℕ). nat_eq n k && nat_eq (interrupt_since ps x).index 0) since
    ∙ and_alike (nat_eq x.thread k) (nat_eq (x.index - begun ps x.thread) 0) (nat_eq x.index (begun ps k)) now where
      alike : (i b c : ℕ) → b ≤ i → b ≡ c → nat_eq (i - b) 0 ≡ nat_eq i c
      alike i b c l same = by_gap (i - b) refl where
        by_gap : (n : ℕ) → i - b ≡ n → nat_eq n 0 ≡ nat_eq i c
        by_gap zero e = (let at : i ≡ c = omega (arith, l, same, e) in grind (arith, at))
        by_gap (suc n) e = (let past : c < i = omega (arith, l, same, e) in grind (arith, past))

first_found : (ps : List Parts) (k : ℕ) → nat_eq no_thread k ≡ false → (xs : List Interrupt) → interrupt_at (map (interrupt_since ps) xs) k 0 ≡ interrupt_at xs k (begun ps k)
first_found ps k other [] = refl
first_found ps k other (x ∷ xs) =
    let same = early_same ps k other x (nat_lt x.index (begun ps x.thread)) refl in
    let rest = first_found ps k other xs in
    found (is_at k 0 (interrupt_since ps x)) (is_at k (begun ps k) x) x.value (find (is_at k 0) (map (interrupt_since ps) xs)) (find (is_at k (begun ps k)) xs) same rest where
      found : (a b : Bool) (value : ℕ) (o q : Option Interrupt) → a ≡ b → option_map (λ (i : Interrupt). i.value) o ≡ option_map (λ (i : Interrupt). i.value) q
          → option_map (λ (i : Interrupt). i.value) (cond a (Some (interrupt_since ps x)) o) ≡ option_map (λ (i : Interrupt). i.value) (cond b (Some x) q)
      found true true value o q same rest = refl
      found true false value o q same rest = absurd cc
      found false true value o q same rest = absurd cc
      found false false value o q same rest = rest

-- ---- one thread after another

drop_next : (ts : List Parts) (k : ℕ) (t : Parts) → slice_get ts k ≡ Some t → drop k ts ≡ t ∷ drop (suc k) ts
drop_next [] k t is = absurd cc
drop_next (x ∷ ts) zero t is = ap (λ (y : Parts). y ∷ ts) (some_same x t is) where
  some_same : (x t : Parts) → Some x ≡ Some t → x ≡ t
  some_same x t e = cc
drop_next (x ∷ ts) (suc k) t is = drop_next ts k t is

take_next : (ts : List Parts) (k : ℕ) (t : Parts) → slice_get ts k ≡ Some t → take (suc k) ts ≡ take k ts ++ t ∷ []
take_next [] k t is = absurd cc
take_next (x ∷ ts) zero t is = ap (λ (y : Parts). y ∷ []) (some_same x t is) where
  some_same : (x t : Parts) → Some x ≡ Some t → x ≡ t
  some_same x t e = cc
take_next (x ∷ ts) (suc k) t is = ap (λ (ys : List Parts). x ∷ ys) (take_next ts k t is)

take_set : (ts : List Parts) (k : ℕ) (t u : Parts) → slice_get ts k ≡ Some t → take (suc k) (slice_set ts k u) ≡ take k ts ++ u ∷ []
take_set [] k t u is = absurd cc
take_set (x ∷ ts) zero t u is = refl
take_set (x ∷ ts) (suc k) t u is = ap (λ (ys : List Parts). x ∷ ys) (take_set ts k t u is)

drop_set : (ts : List Parts) (k : ℕ) (t u : Parts) → slice_get ts k ≡ Some t → drop (suc k) (slice_set ts k u) ≡ drop (suc k) ts
drop_set [] k t u is = absurd cc
drop_set (x ∷ ts) zero t u is = refl
drop_set (x ∷ ts) (suc k) t u is = drop_set ts k t u is

-- the thread has no interrupt
led_by_none : (xs : List Interrupt) (ts : List Parts) (k n : ℕ) (t : Parts) → slice_get ts k ≡ Some t → interrupt_at xs k t.commits ≡ None
    → led (take k ts) n (raised xs k (drop k ts)) ≡ led (take (suc k) ts) n (raised xs (suc k) (drop (suc k) ts))
led_by_none xs ts k n t is none =
    let rest = raised xs (suc k) (drop (suc k) ts) in
    ap (λ (us : List Parts). led (take k ts) n (raised xs k us)) (drop_next ts k t is)
    ∙ ap (λ (o : Option ℕ). led (take k ts) n (raised_first o t (drop (suc k) ts) rest)) none
    ∙ ap (λ (us : List Parts). record { threads = us; count = n + (0 + rest.count); refused = rest.refused }) (sym (append_assoc (take k ts) (t ∷ []) rest.threads))
    ∙ ap (λ (us : List Parts). record { threads = us ++ rest.threads; count = n + (0 + rest.count); refused = rest.refused }) (sym (take_next ts k t is))
    ∙ ap (λ (m : ℕ). record { threads = take (suc k) ts ++ rest.threads; count = m; refused = rest.refused }) (none_more n rest.count) where
      none_more : (n m : ℕ) → n + (0 + m) ≡ n + m
      none_more n m = omega arith

-- the thread takes it
led_by_one : (xs : List Interrupt) (ts : List Parts) (k n value : ℕ) (t : Parts) → slice_get ts k ≡ Some t → interrupt_at xs k t.commits ≡ Some value → takes_interrupt t ≡ true
    → let us = slice_set ts k (interrupted value t) in led (take k ts) n (raised xs k (drop k ts)) ≡ led (take (suc k) us) (suc n) (raised xs (suc k) (drop (suc k) us))
led_by_one xs ts k n value t is found takes =
    let u = interrupted value t in
    let us = slice_set ts k u in
    let rest = raised xs (suc k) (drop (suc k) ts) in
    ap (λ (vs : List Parts). led (take k ts) n (raised xs k vs)) (drop_next ts k t is)
    ∙ ap (λ (o : Option ℕ). led (take k ts) n (raised_first o t (drop (suc k) ts) rest)) found
    ∙ ap (λ (b : Bool). led (take k ts) n (cond b (led_by u 1 rest) (record { threads = t ∷ drop (suc k) ts; count = 0; refused = true }))) takes
    ∙ ap (λ (vs : List Parts). record { threads = vs; count = n + (1 + rest.count); refused = rest.refused }) (sym (append_assoc (take k ts) (u ∷ []) rest.threads))
    ∙ ap (λ (vs : List Parts). record { threads = vs ++ rest.threads; count = n + (1 + rest.count); refused = rest.refused }) (sym (take_set ts k t u is))
    ∙ ap (λ (m : ℕ). record { threads = take (suc k) us ++ rest.threads; count = m; refused = rest.refused }) (one_more n rest.count)
    ∙ ap (λ (vs : List Parts). led (take (suc k) us) (suc n) (raised xs (suc k) vs)) (sym (drop_set ts k t u is)) where
      one_more : (n m : ℕ) → n + (1 + m) ≡ suc n + m
      one_more n m = omega arith

-- the thread can't take it
led_refused : (xs : List Interrupt) (ts : List Parts) (k n value : ℕ) (t : Parts) → slice_get ts k ≡ Some t → interrupt_at xs k t.commits ≡ Some value → takes_interrupt t ≡ false
    → led (take k ts) n (raised xs k (drop k ts)) ≡ record { threads = ts; count = n; refused = true }
led_refused xs ts k n value t is found takes =
    let rest = raised xs (suc k) (drop (suc k) ts) in
    ap (λ (vs : List Parts). led (take k ts) n (raised xs k vs)) (drop_next ts k t is)
    ∙ ap (λ (o : Option ℕ). led (take k ts) n (raised_first o t (drop (suc k) ts) rest)) found
    ∙ ap (λ (b : Bool). led (take k ts) n (cond b (led_by (interrupted value t) 1 rest) (record { threads = t ∷ drop (suc k) ts; count = 0; refused = true }))) takes
    ∙ ap (λ (vs : List Parts). record { threads = take k ts ++ vs; count = n + 0; refused = true }) (sym (drop_next ts k t is))
    ∙ ap (λ (vs : List Parts). record { threads = vs; count = n + 0; refused = true }) (take-append-drop k ts)
    ∙ ap (λ (m : ℕ). record { threads = ts; count = m; refused = true }) (none n) where
      none : (n : ℕ) → n + 0 ≡ n
      none n = omega arith

-- ---- how far they are applied

-- to the threads before this one, and to no other; so many were
pub record AreRaised (ps : List Parts) (xs : List Interrupt) (ts : List Parts) (k n : ℕ) : Type 0 where
  pub all : length ts ≡ length ps
  pub few : n ≤ k
  pub later : drop k ts ≡ drop k (map uncounted ps)
  pub so_far : raised (map (interrupt_since ps) xs) 0 (map uncounted ps) ≡ led (take k ts) n (raised (map (interrupt_since ps) xs) k (drop k ts))

at_place : (ts : List Parts) (k : ℕ) → k < length ts → (t : Parts) × (slice_get ts k ≡ Some t)
at_place [] k l = absurd (omega (arith, l))
at_place (x ∷ ts) zero l = (x, refl)
at_place (x ∷ ts) (suc k) l = at_place ts k (omega (arith, l))

from_drop : (ts us : List Parts) (k : ℕ) (t : Parts) → slice_get ts k ≡ Some t → drop k ts ≡ drop k us → slice_get us k ≡ Some t
from_drop ts us k t is same = first_of_drop us k t (drop (suc k) ts) (sym same ∙ drop_next ts k t is) where
  first_of_drop : (us : List Parts) (k : ℕ) (t : Parts) (rest : List Parts) → drop k us ≡ t ∷ rest → slice_get us k ≡ Some t
  first_of_drop [] zero t rest e = absurd cc
  first_of_drop [] (suc k) t rest e = absurd cc
  first_of_drop (x ∷ us) zero t rest e = (let h : x ≡ t = cc in ap Some h)
  first_of_drop (x ∷ us) (suc k) t rest e = first_of_drop us k t rest e

uncounted_none : (ps : List Parts) (k : ℕ) (t : Parts) → slice_get (map uncounted ps) k ≡ Some t → t.commits ≡ 0
uncounted_none [] k t is = absurd cc
uncounted_none (p ∷ ps) zero t is = (let h : uncounted p ≡ t = cc in sym (ap (λ (x : Parts). x.commits) h))
uncounted_none (p ∷ ps) (suc k) t is = uncounted_none ps k t is

drop_more : (ts us : List Parts) (k : ℕ) → drop k ts ≡ drop k us → drop (suc k) ts ≡ drop (suc k) us
drop_more ts us k same = drop_one ts k ∙ ap (drop 1) same ∙ sym (drop_one us k) where
  drop_one : (xs : List Parts) (k : ℕ) → drop (suc k) xs ≡ drop 1 (drop k xs)
  drop_one [] zero = refl
  drop_one [] (suc k) = refl
  drop_one (x ∷ xs) zero = refl
  drop_one (x ∷ xs) (suc k) = drop_one xs k

module _ (ps : List Parts) (xs : List Interrupt) (ts : List Parts) (k n : ℕ) (most : length ps ≤ 63) (r : AreRaised ps xs ts k n) where
  named : (t : Parts) → slice_get ts k ≡ Some t → nat_eq no_thread k ≡ false
  named t is =
      let l = slice_get_within ts k t is in
      let all = r.all in
      let below : k < 63 = omega (arith, l, all, most) in
      grind (arith, below)

  uncounted_yet : (t : Parts) → slice_get ts k ≡ Some t → t.commits ≡ 0
  uncounted_yet t is = uncounted_none ps k t (from_drop ts (map uncounted ps) k t is r.later)

  found_first : (t : Parts) (o : Option ℕ) → slice_get ts k ≡ Some t → interrupt_at xs k (begun ps k) ≡ o → interrupt_at (map (interrupt_since ps) xs) k t.commits ≡ o
  found_first t o is at =
      ap (interrupt_at (map (interrupt_since ps) xs) k) (uncounted_yet t is) ∙ first_found ps k (named t is) xs ∙ at

  none_next : (t : Parts) → slice_get ts k ≡ Some t → interrupt_at xs k (begun ps k) ≡ None → AreRaised ps xs ts (suc k) n
  none_next t is none =
      record {
        all = r.all;
        few = (let l = r.few in omega (arith, l));
        later = drop_more ts (map uncounted ps) k r.later;
        so_far = r.so_far ∙ led_by_none (map (interrupt_since ps) xs) ts k n t is (found_first t None is none);
      }

  pub passed : k < length ps → interrupt_at xs k (begun ps k) ≡ None → AreRaised ps xs ts (k + 1) n
  passed l none =
      let all = r.all in
      let there = at_place ts k (omega (arith, l, all)) in
      subst (λ (j : ℕ). AreRaised ps xs ts j n) (sym (add-one k)) (none_next there.0 there.1 none)

  one_next : (value : ℕ) (t : Parts) → slice_get ts k ≡ Some t → interrupt_at xs k (begun ps k) ≡ Some value → takes_interrupt t ≡ true → AreRaised ps xs (slice_set ts k (interrupted value t)) (suc k) (suc n)
  one_next value t is found takes =
      let u = interrupted value t in
      record {
        all = length-set ts k u ∙ r.all;
        few = (let l = r.few in omega (arith, l));
        later = drop_set ts k t u is ∙ drop_more ts (map uncounted ps) k r.later;
        so_far = r.so_far ∙ led_by_one (map (interrupt_since ps) xs) ts k n value t is (found_first t (Some value) is found) takes;
      }

  pub taken : (value : ℕ) (t : Parts) → slice_get ts k ≡ Some t → interrupt_at xs k (begun ps k) ≡ Some value → takes_interrupt t ≡ true → AreRaised ps xs (slice_set ts k (interrupted value t)) (k + 1) (n + 1)
  taken value t is found takes =
      let us = slice_set ts k (interrupted value t) in
      subst (λ (j : ℕ). AreRaised ps xs us j (n + 1)) (sym (add-one k)) (subst (λ (m : ℕ). AreRaised ps xs us (suc k) m) (sym (add-one n)) (one_next value t is found takes))

  pub not-taken : (value : ℕ) (t : Parts) → slice_get ts k ≡ Some t → interrupt_at xs k (begun ps k) ≡ Some value → takes_interrupt t ≡ false → raised (map (interrupt_since ps) xs) 0 (map uncounted ps) ≡ record { threads = ts; count = n; refused = true }
  not-taken value t is found takes = r.so_far ∙ led_refused (map (interrupt_since ps) xs) ts k n value t is (found_first t (Some value) is found) takes

-- to all
pub all-raised : (ps : List Parts) (xs : List Interrupt) (ts : List Parts) (k n : ℕ) → length ps ≤ k → AreRaised ps xs ts k n → raised (map (interrupt_since ps) xs) 0 (map uncounted ps) ≡ record { threads = ts; count = n; refused = false }
all-raised ps xs ts k n past r =
    let all = r.all in
    let most : length ts ≤ k = omega (arith, all, past) in
    r.so_far
    ∙ ap (λ (us : List Parts). led (take k ts) n (raised (map (interrupt_since ps) xs) k us)) (drop_all k ts most)
    ∙ ap (λ (us : List Parts). record { threads = us ++ []; count = n + 0; refused = false }) (take_all k ts most)
    ∙ ap (λ (us : List Parts). record { threads = us; count = n + 0; refused = false }) (append-nil ts)
    ∙ ap (λ (m : ℕ). record { threads = ts; count = m; refused = false }) (none n) where
      none : (n : ℕ) → n + 0 ≡ n
      none n = omega arith
