-- The interrupts that are applied at the base are among those that are left out.
use Rattle.std.proofs.Common.{◌≡◌, ℕ, suc, ◌+◌, ◌≤◌, Bool, true, false, ◌&&◌, cond, List, [], ◌∷◌, length, map, Option, Some, None, refl, ap, sym, ◌∙◌, arith}
use Rattle.std.specs.Prelude.{nat_eq, nat_le, find, option_map, filter}
use Rattle.std.proofs.lemmas.Bool.{ltb-true, leb-true, eqb-true, true≢false}
use Rattle.spec_isa.specs.declared.thread.Parts.{Parts}
use Rattle.spec_log.specs.declared.Interrupt.{Interrupt}
use Rattle.spec_kernel.specs.Interrupts.{takes_interrupt, interrupted}
use Rattle.spec_play.specs.Verdicts.{interrupt_at}
use Rattle.spec_tail.specs.Playing.{begun, interrupt_since, Raised, raised_first, raised, led_by, uncounted}
use Rattle.spec_tail.specs.Later.{is_later_interrupt, interrupts_later, raised_at, log_later}
use Rattle.spec_tail.specs.Tails.{Tail}

-- whether an interrupt is for the first commit of this thread or of one after it
abbrev is_first : (thread : ℕ) → Interrupt → Bool
is_first k x = nat_le k x.thread && nat_eq x.index 0

-- one more, if so
abbrev more_if : Bool → ℕ → ℕ
more_if b n = cond b (suc n) n

abbrev first_ones : (thread : ℕ) → List Interrupt → ℕ
first_ones k [] = 0
first_ones k (x ∷ xs) = more_if (is_first k x) (first_ones k xs)

more_least : (b : Bool) (n : ℕ) → n ≤ more_if b n
more_least true n = omega arith
more_least false n = omega arith

more_both : (a b : Bool) (m n : ℕ) → (a ≡ true → b ≡ true) → m ≤ n → more_if a m ≤ more_if b n
more_both true true m n h l = omega (arith, l)
more_both true false m n h l = absurd (true≢false (sym (h refl)))
more_both false b m n h l = let o = more_least b n in omega (arith, l, o)

both_parts : (a b : Bool) → (a && b) ≡ true → (a ≡ true) × (b ≡ true)
both_parts true true e = (refl, refl)
both_parts true false e = absurd (true≢false (sym e))
both_parts false b e = absurd (true≢false (sym e))

earlier_first : (k : ℕ) (x : Interrupt) → is_first (suc k) x ≡ true → is_first k x ≡ true
earlier_first k x is =
    let parts = both_parts (nat_le (suc k) x.thread) (nat_eq x.index 0) is in
    let above = leb-true (suc k) x.thread parts.0 in
    let least : nat_le k x.thread ≡ true = grind (arith, above) in
    rw (least, parts.1) refl

earlier_more : (k : ℕ) (xs : List Interrupt) → first_ones (suc k) xs ≤ first_ones k xs
earlier_more k [] = omega arith
earlier_more k (x ∷ xs) = more_both (is_first (suc k) x) (is_first k x) (first_ones (suc k) xs) (first_ones k xs) (earlier_first k x) (earlier_more k xs)

abbrev is_at : (thread : ℕ) → Interrupt → Bool
is_at k x = nat_eq x.thread k && nat_eq x.index 0

-- one of the thread itself counts once more
own_next : (k : ℕ) (x : Interrupt) (xs : List Interrupt) (value : ℕ) (b : Bool) → is_at k x ≡ b → first_ones (suc k) xs ≤ first_ones k xs
    → (interrupt_at xs k 0 ≡ Some value → suc (first_ones (suc k) xs) ≤ first_ones k xs)
    → interrupt_at (x ∷ xs) k 0 ≡ Some value → suc (first_ones (suc k) (x ∷ xs)) ≤ first_ones k (x ∷ xs)
own_next k x xs value true is few next found =
    let parts = both_parts (nat_eq x.thread k) (nat_eq x.index 0) is in
    let same = eqb-true x.thread k parts.0 in
    let least : nat_le k x.thread ≡ true = grind (arith, same) in
    let above : nat_le (suc k) x.thread ≡ false = grind (arith, same) in
    rw (least, above, parts.1) (omega (arith, few))
own_next k x xs value false is few next found =
    let passed : interrupt_at xs k 0 ≡ Some value = sym (ap (λ (b : Bool). option_map (λ (i : Interrupt). i.value) (cond b (Some x) (find (is_at k) xs))) is) ∙ found in
    let l = next passed in
    let h = more_both (is_first (suc k) x) (is_first k x) (suc (first_ones (suc k) xs)) (first_ones k xs) (earlier_first k x) l in
    let o = more_suc (is_first (suc k) x) (first_ones (suc k) xs) in
    omega (arith, h, o) where
      more_suc : (b : Bool) (n : ℕ) → more_if b (suc n) ≡ suc (more_if b n)
      more_suc true n = refl
      more_suc false n = refl

own_more : (k : ℕ) (xs : List Interrupt) (value : ℕ) → interrupt_at xs k 0 ≡ Some value → suc (first_ones (suc k) xs) ≤ first_ones k xs
own_more k [] value found = absurd cc
own_more k (x ∷ xs) value found = own_next k x xs value (is_at k x) refl (earlier_more k xs) (own_more k xs value) found

taken_few : (xs : List Interrupt) (k value : ℕ) (p : Parts) (ps : List Parts) (rest : Raised) (b : Bool) → interrupt_at xs k 0 ≡ Some value → rest.count ≤ first_ones (suc k) xs
    → (cond b (led_by (interrupted value p) 1 rest) (record { threads = p ∷ ps; count = 0; refused = true })).count ≤ first_ones k xs
taken_few xs k value p ps rest true found few = let l = own_more k xs value found in omega (arith, l, few)
taken_few xs k value p ps rest false found few = omega arith

first_few : (xs : List Interrupt) (k : ℕ) (p : Parts) (ps : List Parts) (rest : Raised) (o : Option ℕ) → interrupt_at xs k 0 ≡ o → rest.count ≤ first_ones (suc k) xs
    → (raised_first o p ps rest).count ≤ first_ones k xs
first_few xs k p ps rest None found few = let l = earlier_more k xs in omega (arith, l, few)
first_few xs k p ps rest (Some value) found few = taken_few xs k value p ps rest (takes_interrupt p) found few

raised_few : (xs : List Interrupt) (k : ℕ) (ps : List Parts) → (raised xs k (map uncounted ps)).count ≤ first_ones k xs
raised_few xs k [] = omega arith
raised_few xs k (p ∷ ps) =
    first_few xs k (uncounted p) (map uncounted ps) (raised xs (suc k) (map uncounted ps)) (interrupt_at xs k 0) refl (raised_few xs (suc k) ps)

-- one that stays is for a later commit
total_next : (ps : List Parts) (x : Interrupt) (xs : List Interrupt) (b : Bool) → is_later_interrupt ps x ≡ b
    → first_ones 0 (map (interrupt_since ps) xs) + length (interrupts_later ps xs) ≤ length xs
    → first_ones 0 (map (interrupt_since ps) (x ∷ xs)) + length (interrupts_later ps (x ∷ xs)) ≤ suc (length xs)
total_next ps x xs true is few =
    let l = ltb-true (begun ps x.thread) x.index is in
    let later : nat_eq (interrupt_since ps x).index 0 ≡ false = grind (arith, l) in
    let none : first_ones 0 (map (interrupt_since ps) (x ∷ xs)) ≡ first_ones 0 (map (interrupt_since ps) xs) =
    ap (λ (b : Bool). more_if b (first_ones 0 (map (interrupt_since ps) xs))) (nor (nat_le 0 (interrupt_since ps x).thread) (nat_eq (interrupt_since ps x).index 0) later)
    in
    let one : length (interrupts_later ps (x ∷ xs)) ≡ suc (length (interrupts_later ps xs)) =
    ap (λ (b : Bool). length (map (interrupt_since ps) (cond b (x ∷ filter (is_later_interrupt ps) xs) (filter (is_later_interrupt ps) xs)))) is
    in
    omega (arith, none, one, few) where
      nor : (a b : Bool) → b ≡ false → (a && b) ≡ false
      nor true b e = e
      nor false b e = refl
total_next ps x xs false is few =
    let same : length (interrupts_later ps (x ∷ xs)) ≡ length (interrupts_later ps xs) =
    ap (λ (b : Bool). length (map (interrupt_since ps) (cond b (x ∷ filter (is_later_interrupt ps) xs) (filter (is_later_interrupt ps) xs)))) is
    in
    let most = more_most (is_first 0 (interrupt_since ps x)) (first_ones 0 (map (interrupt_since ps) xs)) in
    omega (arith, same, most, few) where
      more_most : (b : Bool) (n : ℕ) → more_if b n ≤ suc n
      more_most true n = omega arith
      more_most false n = omega arith

total_few : (ps : List Parts) (xs : List Interrupt) → first_ones 0 (map (interrupt_since ps) xs) + length (interrupts_later ps xs) ≤ length xs
total_few ps [] = omega arith
total_few ps (x ∷ xs) = total_next ps x xs (is_later_interrupt ps x) refl (total_few ps xs)

-- the interrupts applied at the base and the later ones are no more than the tail's log has
pub raised-left-out : (t : Tail) → (raised_at t).count + length (log_later t).interrupts ≤ length t.log.interrupts
raised-left-out t =
    let l = raised_few (map (interrupt_since t.threads) t.log.interrupts) 0 t.threads in
    let h = total_few t.threads t.log.interrupts in
    omega (arith, l, h)
