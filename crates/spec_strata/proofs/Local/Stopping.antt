-- A run before a serial instruction stays there.
use Rattle.std.proofs.Common.{◌≡◌, ℕ, zero, suc, ◌<◌, ◌≤◌, inl, inr, Bool, true, false, ◌||◌, List, refl, sym, ap, ◌∙◌, arith}
use Rattle.std.proofs.lemmas.Bool.{cases_lt}
use Rattle.spec_isa.specs.declared.thread.Parts.{Parts}
use Rattle.spec_isa.specs.declared.thread.Kind.{Kind}
use Rattle.spec_isa.specs.Words.{lays, holds}
use Rattle.spec_isa.specs.Instruction.{Serial, one}
use Rattle.spec_isa.specs.Runs.{Run, followed, more, run}
use Rattle.spec_strata.specs.Footprints.{looks_at, looks, FootprintsStay}

run-stays : (m : List ℕ) (t : Parts) (i n : ℕ) (kind : Kind) → let r = run m t i in one r.thread (lays m r.words) ≡ Serial kind → i ≤ n → run m t n ≡ run m t i
run-stays m t i zero kind e l = let h : 0 ≡ i = omega arith in ap (run m t) h
run-stays m t i (suc n) kind e l =
    let r : Run = run m t i in
    elim (cases_lt i (suc n)) [
      | inl h ↦ ap (more m) (run-stays m t i n kind e (omega arith)) ∙ ap (followed r) e
      | inr h ↦ (let same : suc n ≡ i = omega arith in ap (run m t) same)
    ]

or_twice : (a b : Bool) → ((a || b) || b) ≡ (a || b)
or_twice true b = refl
or_twice false true = refl
or_twice false false = refl

-- a run before a serial instruction looks at no more words, however many instructions it may run
pub looks-stays : (m : List ℕ) (t : Parts) (i n a : ℕ) (kind : Kind) → let r = run m t i in one r.thread (lays m r.words) ≡ Serial kind → i < n → looks m t n a ≡ looks m t (suc i) a
looks-stays m t i zero a kind e l = absurd (omega arith)
looks-stays m t i (suc n) a kind e l =
    let r : Run = run m t i in
    elim (cases_lt i n) [
      | inl h ↦ (
          let before : looks m t n a ≡ looks m t (suc i) a = looks-stays m t i n a kind e h in
          let there : run m t n ≡ r = run-stays m t i n kind e (omega arith) in
          (λ j. before j || looks_at (there j).thread (lays m (there j).words) a)
          ∙ or_twice (looks m t i a) (looks_at r.thread (lays m r.words) a)
          )
      | inr h ↦ (let same : suc n ≡ suc i = omega arith in ap (λ (k : ℕ). looks m t k a) same)
    ]

-- a run before a serial instruction keeps its footprint, however many instructions it may run
pub footprints_stay : FootprintsStay
footprints_stay m t i n kind e l =
    let same : run m t n ≡ run m t (suc i) = run-stays m t i n kind e (omega arith) ∙ sym (run-stays m t i (suc i) kind e (omega arith)) in
    (λ j a. looks-stays m t i n a kind e l j || holds (same j).words a)
