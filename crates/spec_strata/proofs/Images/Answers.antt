-- Strata have one answer on an image.
use Rattle.std.proofs.Common.{◌≡◌, ℕ, inl, inr, List, refl, sym, ap, ◌∙◌, arith}
use Rattle.std.specs.Prelude.{slice_get}
use Rattle.std.proofs.lemmas.Bool.{true≢false, cases_lt}
use Rattle.dl_entry.specs.declared.End.{End}
use Rattle.dl_entry.specs.declared.Why.{Why}
use Rattle.dl_entry.specs.declared.CommitKind.{CommitKind}
use Rattle.spec_play.specs.Turns.{Ended}
use Rattle.spec_strata.specs.declared.strata.StrataParts.{StrataParts}
use Rattle.spec_strata.specs.Canonical.{canonical}
use Rattle.spec_strata.specs.OnImages.{IsParallelOn}
use Rattle.spec_strata.specs.Checking.{IsUnfit, IsConflict, IsLeast, Parallel, Unfit, Conflict, OneAnswer}

-- there is one least number
one-least : (holds : ℕ → Type 0) (i j : ℕ) → IsLeast holds i → IsLeast holds j → i ≡ j
one-least holds i j a b =
    elim (cases_lt i j) [
      | inl l ↦ absurd (b.least i l a.there)
      | inr l ↦ elim (cases_lt j i) [
        | inl m ↦ absurd (a.least j m b.there)
        | inr m ↦ omega (arith, l, m)
      ]
    ]

complete-diverged : (i n : ℕ) (why : Why) → Ended (End.Complete n) ≡ Ended (End.Diverged i why) → ⊥
complete-diverged i n why e = cc

-- of parallel strata each commit fits
fits-all : (v : StrataParts) (memory : List ℕ) (entry i : ℕ) → IsParallelOn v memory entry → IsUnfit v memory entry i → ⊥
fits-all v memory entry i p (inl d) = complete-diverged i (canonical v).count d.0 (sym p.fits ∙ d.1)
fits-all v memory entry i p (inr o) = o.other (sym (ap (λ (ks : List CommitKind). slice_get ks i) p.kinds) ∙ o.done)

apart-all : (v : StrataParts) (memory : List ℕ) (entry i : ℕ) → IsParallelOn v memory entry → IsConflict v memory entry i → ⊥
apart-all v memory entry i p c = true≢false (sym c ∙ p.apart i)

pub one_answer : OneAnswer
one_answer v memory entry Parallel Parallel a b = refl
one_answer v memory entry Parallel (Unfit j) a b = absurd (fits-all v memory entry j a b.there)
one_answer v memory entry Parallel (Conflict j) a b = absurd (apart-all v memory entry j a b.1.there)
one_answer v memory entry (Unfit i) Parallel a b = absurd (fits-all v memory entry i b a.there)
one_answer v memory entry (Unfit i) (Unfit j) a b = ap Unfit (one-least (IsUnfit v memory entry) i j a b)
one_answer v memory entry (Unfit i) (Conflict j) a b = absurd (b.0 i a.there)
one_answer v memory entry (Conflict i) Parallel a b = absurd (apart-all v memory entry i b a.1.there)
one_answer v memory entry (Conflict i) (Unfit j) a b = absurd (a.0 j b.there)
one_answer v memory entry (Conflict i) (Conflict j) a b = ap Conflict (one-least (IsConflict v memory entry) i j a.1 b.1)
