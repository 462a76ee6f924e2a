-- The interrupts of a recording stay fresh: after a commit of a thread, and after an interrupt.
use Rattle.std.proofs.Common.{◌≡◌, ◌≢◌, ℕ, zero, suc, ◌+◌, ◌⊎◌, inl, inr, List, [], ◌∷◌, ◌++◌, Some, None, refl, sym, ap, ◌∙◌, set, arith}
use Rattle.std.specs.Prelude.{slice_get}
use Rattle.std.proofs.lemmas.Bool.{true≢false}
use Rattle.std.proofs.lemmas.Option.{none-some}
use Rattle.spec_isa.specs.declared.thread.Parts.{Parts}
use Rattle.spec_log.specs.declared.Interrupt.{Interrupt}
use Rattle.spec_kernel.specs.Interrupts.{interrupted}
use Rattle.spec_play.specs.Verdicts.{interrupt_at}
use Rattle.spec_sphere.specs.promises.Sound.{AreFresh}
use Rattle.spec_sphere.proofs.Logs.Growing.{get_cases, set_none, append_none}
use Rattle.spec_sphere.proofs.Logs.Lookups.{raised_to, interrupt-other}

-- what stands at j after a change at k: that, or what stood there
abbrev pub AtSet : (ts : List Parts) (k j : ℕ) (u x : Parts) → Type 0
AtSet ts k j u x = ((j ≡ k) × (u ≡ x)) ⊎ ((j ≢ k) × (slice_get ts j ≡ Some x))

deeper : (ts : List Parts) (t : Parts) (k j : ℕ) (u x : Parts) → AtSet ts k j u x → AtSet (t ∷ ts) (suc k) (suc j) u x
deeper ts t k j u x (inl p) = inl (ap suc p.0, p.1)
deeper ts t k j u x (inr p) = inr ((λ e. p.0 (let h : j ≡ k = omega arith in h)), p.1)

-- a thread found after a change at k is the new one, or another that stood there before
pub at-set_parts : (ts : List Parts) (k j : ℕ) (u x : Parts) → slice_get (set ts k u) j ≡ Some x → AtSet ts k j u x
at-set_parts [] k j u x e = absurd (none-some x e)
at-set_parts (t ∷ ts) zero zero u x e = inl (refl, (let q : u ≡ x = cc in q))
at-set_parts (t ∷ ts) zero (suc j) u x e = inr ((λ h. omega arith), e)
at-set_parts (t ∷ ts) (suc k) zero u x e = inr ((λ h. omega arith), e)
at-set_parts (t ∷ ts) (suc k) (suc j) u x e = deeper ts t k j u x (at-set_parts ts k j u x e)

-- ---- a commit

none-after : (ts spawned : List Parts) (k j : ℕ) (u : Parts) → slice_get (set ts k u ++ spawned) j ≡ None → slice_get ts j ≡ None
none-after ts spawned k j u e = set_none ts k j u (append_none (set ts k u) spawned j e)

-- the thread of number j after the commit: the committer, one that was there, or a new one
abbrev Becomes : (ts : List Parts) (k j : ℕ) (u x : Parts) → Type 0
Becomes ts k j u x = ((j ≡ k) × (u ≡ x)) ⊎ ((slice_get ts j ≡ Some x) ⊎ (slice_get ts j ≡ None))

becomes : (ts spawned : List Parts) (k j : ℕ) (u x : Parts) → slice_get (set ts k u ++ spawned) j ≡ Some x → Becomes ts k j u x
becomes ts spawned k j u x e =
    elim (get_cases (set ts k u) spawned j x e) [
      | inl q ↦ elim (at-set_parts ts k j u x q) [ inl p ↦ inl p | inr p ↦ inr (inl p.1) ]
      | inr q ↦ inr (inr (set_none ts k j u q.0))
    ]

-- interrupts that are fresh stay so when a thread commits once more
pub fresh-commit : (ts spawned : List Parts) (k : ℕ) (t u : Parts) (is : List Interrupt) → slice_get ts k ≡ Some t → u.commits ≡ t.commits + 1 → AreFresh ts is → AreFresh (set ts k u ++ spawned) is
fresh-commit ts spawned k t u is there commits fresh =
    record {
      later = λ j i x e l. elim (becomes ts spawned k j u x e) [
        | inl p ↦ (let c = ap (λ (y : Parts). y.commits) p.1 in ap (λ (n : ℕ). interrupt_at is n i) p.0 ∙ fresh.later k i t there (omega (arith, l, c, commits)))
        | inr p ↦ elim p [ inl q ↦ fresh.later j i x q l | inr q ↦ fresh.absent j i q ]
      ];
      unmasked = λ j x e mask. elim (becomes ts spawned k j u x e) [
        | inl p ↦ (let c = ap (λ (y : Parts). y.commits) p.1 in ap (λ (n : ℕ). interrupt_at is n x.commits) p.0 ∙ fresh.later k x.commits t there (omega (arith, c, commits)))
        | inr p ↦ elim p [ inl q ↦ fresh.unmasked j x q mask | inr q ↦ fresh.absent j x.commits q ]
      ];
      absent = λ j i e. fresh.absent j i (none-after ts spawned k j u e);
    }

-- ---- an interrupt

not-there : (ts : List Parts) (k j : ℕ) (t : Parts) → slice_get ts k ≡ Some t → slice_get ts j ≡ None → k ≡ j → ⊥
not-there ts k j t there none e = none-some t (sym none ∙ ap (slice_get ts) (sym e) ∙ there)

-- interrupts stay fresh with one that is raised at its thread's number of commits
pub fresh-raise : (ts : List Parts) (k value : ℕ) (t : Parts) (is : List Interrupt) → slice_get ts k ≡ Some t → AreFresh ts is → AreFresh (set ts k (interrupted value t)) (raised_to k t.commits value is)
fresh-raise ts k value t is there fresh =
    let u = interrupted value t in
    record {
      later = λ j i x e l. elim (at-set_parts ts k j u x e) [
        | inl p ↦ (
            let c = ap (λ (y : Parts). y.commits) p.1 in
            interrupt-other is k t.commits value j i (λ _ h. omega (arith, h, l, c))
            ∙ ap (λ (n : ℕ). interrupt_at is n i) p.0 ∙ fresh.later k i t there (omega (arith, l, c))
            )
        | inr p ↦ interrupt-other is k t.commits value j i (λ h _. p.0 (sym h)) ∙ fresh.later j i x p.1 l
      ];
      unmasked = λ j x e mask. elim (at-set_parts ts k j u x e) [
        | inl p ↦ absurd (true≢false (ap (λ (y : Parts). y.mask) p.1 ∙ mask))
        | inr p ↦ interrupt-other is k t.commits value j x.commits (λ h _. p.0 (sym h)) ∙ fresh.unmasked j x p.1 mask
      ];
      absent = λ j i e.
          let none = set_none ts k j u e in
          interrupt-other is k t.commits value j i (λ h _. not-there ts k j t there none h) ∙ fresh.absent j i none;
    }

-- ---- the start

-- a list of no interrupts is fresh
pub fresh-none : (ts : List Parts) → AreFresh ts []
fresh-none ts = record { later = λ k i t e l. refl; unmasked = λ k t e mask. refl; absent = λ k i e. refl }
