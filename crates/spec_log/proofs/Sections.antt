-- A section that grows at its end.
use Rattle.std.proofs.Common.{◌≡◌, ◌+◌, ◌-◌, ◌^◌, ◌<◌, ◌≤◌, inl, inr, List, [], ◌∷◌, ◌++◌, All, length, get_or, arith, length-append}
use Rattle.std.proofs.Math.ListN.{get_or-append}
use Rattle.std.proofs.Math.Nat.{eq-or-lt_of_le}
use Rattle.std.proofs.Math.Seq.{get_or-append_seam}
use Rattle.std.proofs.lemmas.List.Elements.{All-append}
use Rattle.std.specs.List.{AllAdjacentBelow}
use Rattle.spec_log.specs.Log.{IsSection}

All-one : {X : Type 0} (P : X → Type 0) (x : X) → P x → All P (x ∷ [])
All-one P x h k d below = let first : k ≡ 0 = omega arith in rw first h

-- the places of the longer list: those of the shorter, or the one after it
length-push : {X : Type 0} (xs : List X) (x : X) → length (xs ++ x ∷ []) ≡ length xs + 1
length-push xs x = omega (arith, length-append xs (x ∷ []))

-- each entry comes before the next where the last came before the new one
AllAdjacentBelow-push : {X : Type 0} (before : X → X → Type 0) (xs : List X) (x : X)
    → AllAdjacentBelow before xs (length xs)
    → ((d : X) → 0 < length xs → before (get_or xs (length xs - 1) d) x)
    → AllAdjacentBelow before (xs ++ x ∷ []) (length (xs ++ x ∷ []))
AllAdjacentBelow-push before xs x rising last k d below =
    let inside : k < length xs = omega (arith, length-push xs x) in
    let next : k + 1 ≤ length xs = omega arith in
    rw (get_or-append xs (x ∷ []) d k inside)
    (elim (eq-or-lt_of_le next) [
      | inl end ↦
          let here : k ≡ length xs - 1 = omega arith in
          rw (end, get_or-append_seam xs x [] d, here) (last d (omega arith))
      | inr more ↦ rw (get_or-append xs (x ∷ []) d (k + 1) more) (rising k d more)
    ])

-- a good entry that comes after the last one makes a longer section
pub IsSection-push : {X : Type 0} (good : X → Type 0) (before : X → X → Type 0) (xs : List X) (x : X)
    → IsSection good before xs → length xs + 1 < 2 ^ 32 → good x
    → ((d : X) → 0 < length xs → before (get_or xs (length xs - 1) d) x)
    → IsSection good before (xs ++ x ∷ [])
IsSection-push good before xs x section room fits last =
    record {
      few = omega (arith, length-push xs x);
      each = All-append good xs (x ∷ []) section.each (All-one good x fits);
      rising = AllAdjacentBelow-push before xs x section.rising last;
    }
