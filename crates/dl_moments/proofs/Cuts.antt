-- What passes a test is the end of a list, if it is what comes after some place; and lists that are cut.
use Rattle.std.proofs.Common.{◌≡◌, ℕ, zero, suc, ◌+◌, ◌<◌, ◌≤◌, Bool, true, false, List, [], ◌∷◌, length, drop, get_or, slice_index, refl, ap, arith}
use Rattle.std.specs.List.{filter}
use Rattle.std.proofs.lemmas.List.Sums.{length-filter, count_by-le-length}
use Rattle.dl_moments.specs.declared.lane.Mark.{Mark}
use Rattle.dl_moments.specs.Marks.{marks_from, lanes_from}

-- what passes a test that only the first i entries fail is the list from i on
pub drop-filter : {X : Type 0} (p : X → Bool) (xs : List X) (i : ℕ) → i ≤ length xs
    → ((k : ℕ) (d : X) → k < i → p (get_or xs k d) ≡ false) → ((k : ℕ) (d : X) → i ≤ k → k < length xs → p (get_or xs k d) ≡ true)
    → drop i xs ≡ filter p xs
drop-filter p [] zero within below above = refl
drop-filter p [] (suc i) within below above = absurd (omega arith)
drop-filter p (x ∷ xs) zero within below above =
    rw (above 0 x (omega arith) (omega arith))
    (ap (λ (ys : List _). x ∷ ys) (drop-filter p xs zero (omega arith) (λ k d h. absurd (omega arith)) (λ k d h l. above (suc k) d (omega arith) (omega arith))))
drop-filter p (x ∷ xs) (suc i) within below above =
    rw (below 0 x (omega arith))
    (drop-filter p xs i (omega arith) (λ k d h. below (suc k) d (omega arith)) (λ k d h l. above (suc k) d (omega arith) (omega arith)))

-- the n-th of lists that are cut
pub lanes_from-at : {V : Type 0} (starts : List ℕ) (t u : ℕ) (lanes : List (List (Mark V))) (k : ℕ) → u ≡ t + k → k < length lanes
    → get_or (lanes_from starts t lanes) k [] ≡ marks_from (slice_index starts u) (get_or lanes k [])
lanes_from-at starts t u [] k e h = absurd (omega arith)
lanes_from-at starts t u (lane ∷ lanes) zero e h = let same : u ≡ t = omega arith in rw same refl
lanes_from-at starts t u (lane ∷ lanes) (suc k) e h = lanes_from-at starts (suc t) u lanes k (omega arith) (omega arith)

-- lanes that are cut at their starts are as many as before
pub length-lanes_from : {V : Type 0} (starts : List ℕ) (t : ℕ) (lanes : List (List (Mark V))) → length (lanes_from starts t lanes) ≡ length lanes
length-lanes_from starts t [] = refl
length-lanes_from starts t (lane ∷ lanes) = ap suc (length-lanes_from starts (suc t) lanes)

-- no more pass a test than there are
pub length-filter-few : {X : Type 0} (p : X → Bool) (xs : List X) → length (filter p xs) ≤ length xs
length-filter-few p xs = rw (length-filter p xs) (count_by-le-length p xs)
