-- The test for conflicts says what is clear.
use Rattle.std.proofs.Common.{◌≡◌, ◌≢◌, ℕ, zero, suc, Bool, false, ◌||◌, List, [], ◌∷◌, Some, refl, ap, subst, arith}
use Rattle.std.specs.Prelude.{slice_get}
use Rattle.std.proofs.lemmas.Option.{none-some}
use Rattle.spec_isa.specs.Words.{Stored}
use Rattle.spec_play.specs.Touching.{Unseen}
use Rattle.spec_strata.specs.Footprints.{meets}
use Rattle.spec_strata.specs.Shares.{Share, next_run, next_seen}
use Rattle.spec_strata.specs.Parallel.{clashes_with, clashes_all, clashes, ClearIsTested}
use Rattle.spec_strata.proofs.Local.Footprints.{meets-unseen, or_neither}
use Rattle.spec_strata.proofs.Shares.Steps.{same_some}

or_both : (a b : Bool) → a ≡ false → b ≡ false → (a || b) ≡ false
or_both a b p q = (λ i. p i || q i)

-- if no stored word is seen, the stores don't meet what is seen
pub unseen-meets : (seen : ℕ → Bool) (ws : List Stored) → Unseen seen ws → meets seen ws ≡ false
unseen-meets seen [] u = refl
unseen-meets seen (w ∷ ws) u = or_both (seen w.number) (meets seen ws) u.0 (unseen-meets seen ws u.1)

-- each commit of another thread, by itself
abbrev Free : (ℕ → Bool) → List Stored → ℕ → List Share → Type 0
Free seen ws k ps = (j : ℕ) (p : Share) → j ≢ k → slice_get ps j ≡ Some p → clashes_with seen ws p ≡ false

free-all : (seen : ℕ → Bool) (ws : List Stored) (ps : List Share) → clashes_all seen ws ps ≡ false → (j : ℕ) (p : Share) → slice_get ps j ≡ Some p → clashes_with seen ws p ≡ false
free-all seen ws [] e j p is = absurd (none-some p is)
free-all seen ws (o ∷ os) e zero p is = subst (λ (x : Share). clashes_with seen ws x ≡ false) (same_some o p is) ((or_neither (clashes_with seen ws o) (clashes_all seen ws os) e).0)
free-all seen ws (o ∷ os) e (suc j) p is = free-all seen ws os ((or_neither (clashes_with seen ws o) (clashes_all seen ws os) e).1) j p is

free : (seen : ℕ → Bool) (ws : List Stored) (k : ℕ) (ps : List Share) → clashes seen ws k ps ≡ false → Free seen ws k ps
free seen ws k [] e j p ne is = absurd (none-some p is)
free seen ws zero (o ∷ os) e zero p ne is = absurd (ne refl)
free seen ws zero (o ∷ os) e (suc j) p ne is = free-all seen ws os e j p is
free seen ws (suc k) (o ∷ os) e zero p ne is = subst (λ (x : Share). clashes_with seen ws x ≡ false) (same_some o p is) ((or_neither (clashes_with seen ws o) (clashes seen ws k os) e).0)
free seen ws (suc k) (o ∷ os) e (suc j) p ne is = free seen ws k os ((or_neither (clashes_with seen ws o) (clashes seen ws k os) e).1) j p (λ h. ne (ap suc h)) is

all-from : (seen : ℕ → Bool) (ws : List Stored) (ps : List Share) → ((j : ℕ) (p : Share) → slice_get ps j ≡ Some p → clashes_with seen ws p ≡ false) → clashes_all seen ws ps ≡ false
all-from seen ws [] f = refl
all-from seen ws (o ∷ os) f = or_both (clashes_with seen ws o) (clashes_all seen ws os) (f 0 o refl) (all-from seen ws os (λ j p is. f (suc j) p is))

from-free : (seen : ℕ → Bool) (ws : List Stored) (k : ℕ) (ps : List Share) → Free seen ws k ps → clashes seen ws k ps ≡ false
from-free seen ws k [] f = refl
from-free seen ws zero (o ∷ os) f = all-from seen ws os (λ j p is. f (suc j) p (λ e. omega arith) is)
from-free seen ws (suc k) (o ∷ os) f =
    or_both (clashes_with seen ws o) (clashes seen ws k os) (f 0 o (λ e. omega arith) refl)
    (from-free seen ws k os (λ j p ne is. f (suc j) p (λ e. ne (omega arith)) is))

-- a commit is clear exactly if the test finds no conflict
pub clear_is_tested : ClearIsTested
clear_is_tested q x k p =
    let seen : ℕ → Bool = next_seen q x.memory p in
    let ws : List Stored = (next_run q x.memory p).words in (
      (λ e. let f = free seen ws k x.shares e in
          record {
            miss = record { each = λ j o ne is. meets-unseen seen o.words ((or_neither (meets seen o.words) (meets o.seen ws) (f j o ne is)).0) };
            blind = record { each = λ j o ne is. meets-unseen o.seen ws ((or_neither (meets seen o.words) (meets o.seen ws) (f j o ne is)).1) };
          }),
      (λ c. from-free seen ws k x.shares (λ j o ne is. or_both (meets seen o.words) (meets o.seen ws) (unseen-meets seen o.words (c.miss.each j o ne is)) (unseen-meets o.seen ws (c.blind.each j o ne is)))),
    )
