-- The set of the numbers below a bound that pass a test changes with the test, and meets as the tests do.
use Rattle.std.proofs.Common.{◌≡◌, ℕ, zero, suc, ◌<◌, inl, inr, Bool, true, false, ◌&&◌, ◌||◌, eqb, ltb, refl, sym, ◌∙◌, ap, arith, rules}
use Rattle.std.proofs.lemmas.Bool.{cases_lt, lt-ltb, le-ltb, eq-eqb, ne_eqb, cases_eq}
use Rattle.std.specs.Cmp.{nat_cmp_total}
use Rattle.std.specs.FinSet as set
use Rattle.std.specs.FinSet.{members, contains-empty, contains-union, same_set, nat_cmp-IsAntisymmetric}
use Rattle.std.specs.Ordering.{nat_cmp}
use Rattle.spec_engine.specs.Signatures.{meets}
use Rattle.spec_engine.proofs.Marking.{apart_from, meets_at}
use Rattle.dl_sig.specs.Banks.{set_below}

-- ---- membership

inserted : (s : set.FinSet nat_cmp) (k p : ℕ) → set.contains (set.insert s k) p ≡ (eqb p k || set.contains s p)
inserted s k p = grind (members, rules)

member_step : (has : ℕ → Bool) (n p : ℕ) (b : Bool) → has n ≡ b → set.contains (set_below has n) p ≡ (ltb p n && has p) → set.contains (set_below has (suc n)) p ≡ (ltb p (suc n) && has p)
unfolding set_below
member_step has n p true e before =
    rw e
    (inserted (set_below has n) n p ∙
    elim (cases_lt p n) [
      | inl l ↦ (λ i. ne_eqb p n (λ (q : p ≡ n). omega arith) i || before i) ∙ (λ i. lt-ltb p n l i && has p) ∙ sym (λ i. lt-ltb p (suc n) (omega arith) i && has p)
      | inr l ↦ elim (cases_eq p n) [
        | inl q ↦ (λ i. eq-eqb p n q i || set.contains (set_below has n) p) ∙ sym ((λ i. lt-ltb p (suc n) (omega arith) i && has p) ∙ ap has q ∙ e)
        | inr q ↦ (λ i. ne_eqb p n q i || before i) ∙ (λ i. le-ltb p n l i && has p) ∙ sym (λ i. le-ltb p (suc n) (omega arith) i && has p)
      ]
    ])
member_step has n p false e before =
    rw e
    (before ∙
    elim (cases_lt p n) [
      | inl l ↦ (λ i. lt-ltb p n l i && has p) ∙ sym (λ i. lt-ltb p (suc n) (omega arith) i && has p)
      | inr l ↦ elim (cases_eq p n) [
        | inl q ↦ (λ i. le-ltb p n l i && has p) ∙ sym ((λ i. lt-ltb p (suc n) (omega arith) i && has p) ∙ ap has q ∙ e)
        | inr q ↦ (λ i. le-ltb p n l i && has p) ∙ sym (λ i. le-ltb p (suc n) (omega arith) i && has p)
      ]
    ])

-- the set has a number exactly if the number is below the bound and passes the test
pub member : (has : ℕ → Bool) (n p : ℕ) → set.contains (set_below has n) p ≡ (ltb p n && has p)
unfolding set_below
member has zero p = contains-empty nat_cmp p ∙ sym (λ i. le-ltb p 0 (omega arith) i && has p)
member has (suc n) p = member_step has n p (has n) refl (member has n p)

-- a number below the bound is in the set exactly if it passes the test
pub member_at : (has : ℕ → Bool) (n p : ℕ) → p < n → has p ≡ set.contains (set_below has n) p
member_at has n p l = sym (member has n p ∙ (λ i. lt-ltb p n l i && has p))

-- ---- changes

-- if no number passes the test, the set is empty
pub none_below : (has : ℕ → Bool) (n : ℕ) → ((p : ℕ) → has p ≡ false) → set_below has n ≡ set.empty
none_below has n none =
    same_set nat_cmp_total nat_cmp-IsAntisymmetric _ _
    (λ p. member has n p ∙ ap (λ (b : Bool). ltb p n && b) (none p) ∙ false_right (ltb p n) ∙ sym (contains-empty nat_cmp p))
  where
    false_right : (b : Bool) → (b && false) ≡ false
    false_right true = refl
    false_right false = refl

more_step : (has after : ℕ → Bool) (n p : ℕ) → p < n → (q : ℕ) → after q ≡ (eqb q p || has q) → (ltb q n && after q) ≡ (eqb q p || (ltb q n && has q))
more_step has after n p l q same =
    ap (λ (b : Bool). ltb q n && b) same ∙
    elim (cases_eq q p) [
      | inl e ↦ (λ i. ltb q n && (eq-eqb q p e i || has q)) ∙ (λ i. lt-ltb q n (omega arith) i && true) ∙ sym (λ i. eq-eqb q p e i || (ltb q n && has q))
      | inr e ↦ (λ i. ltb q n && (ne_eqb q p e i || has q)) ∙ sym (λ i. ne_eqb q p e i || (ltb q n && has q))
    ]

-- for a test that passes one more number, below the bound, the set has that number in addition
pub one_more : (has after : ℕ → Bool) (n p : ℕ) → p < n → ((q : ℕ) → after q ≡ (eqb q p || has q)) → set_below after n ≡ set.insert (set_below has n) p
one_more has after n p l same =
    same_set nat_cmp_total nat_cmp-IsAntisymmetric _ _
    (λ q. member after n q ∙ more_step has after n p l q (same q) ∙ sym (inserted (set_below has n) p q ∙ ap (λ (b : Bool). eqb q p || b) (member has n q)))

either_step : (has other after : ℕ → Bool) (n q : ℕ) → (q < n → after q ≡ (has q || other q)) → (ltb q n && after q) ≡ ((ltb q n && has q) || (ltb q n && other q))
either_step has other after n q same =
    elim (cases_lt q n) [
      | inl l ↦ (λ i. lt-ltb q n l i && after q) ∙ same l ∙ sym (λ i. (lt-ltb q n l i && has q) || (lt-ltb q n l i && other q))
      | inr l ↦ (λ i. le-ltb q n l i && after q) ∙ sym (λ i. (le-ltb q n l i && has q) || (le-ltb q n l i && other q))
    ]

-- for a test that passes below the bound what either of two passes, the set is the union of theirs
pub either_below : (has other after : ℕ → Bool) (n : ℕ) → ((q : ℕ) → q < n → after q ≡ (has q || other q)) → set_below after n ≡ set.union (set_below has n) (set_below other n)
either_below has other after n same =
    same_set nat_cmp_total nat_cmp-IsAntisymmetric _ _
    (λ q. member after n q ∙ either_step has other after n q (same q) ∙ sym (contains-union nat_cmp_total (set_below has n) (set_below other n) q ∙ (λ i. member has n q i || member other n q i)))

-- ---- two sets

-- the sets of two tests meet if a number below the bound passes both
pub meet_at : (has other : ℕ → Bool) (n p : ℕ) → p < n → has p ≡ true → other p ≡ true → true ≡ meets (set_below has n) (set_below other n)
meet_at has other n p l a b =
    sym (meets_at (set_below has n) (set_below other n) p (sym (member_at has n p l) ∙ a) (sym (member_at other n p l) ∙ b))

-- the sets of two tests don't meet if no number below the bound passes both
pub apart_below : (has other : ℕ → Bool) (n : ℕ) → ((p : ℕ) → p < n → (has p && other p) ≡ false) → false ≡ meets (set_below has n) (set_below other n)
apart_below has other n apart =
    sym (apart_from (set_below has n) (set_below other n)
    (λ p. (λ i. member has n p i && member other n p i) ∙
    elim (cases_lt p n) [
      | inl l ↦ (λ i. (lt-ltb p n l i && has p) && (lt-ltb p n l i && other p)) ∙ apart p l
      | inr l ↦ (λ i. (le-ltb p n l i && has p) && (ltb p n && other p))
    ]))
