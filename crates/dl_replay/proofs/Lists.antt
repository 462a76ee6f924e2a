-- Entries pushed one after another are the first entries of the list that they come from.
use Rattle.std.proofs.Common.{◌≡◌, ℕ, zero, suc, ◌+◌, ◌≤◌, List, [], ◌∷◌, ◌++◌, length, take, slice_get, Some, None, refl, ap, sym, ◌∙◌, append_assoc, arith}

-- one entry more
take-got : {X : Type 0} (xs : List X) (i : ℕ) (x : X) → slice_get xs i ≡ Some x → take (i + 1) xs ≡ take i xs ++ x ∷ []
take-got [] i x e = cc
take-got (y ∷ xs) zero x e = let same : y ≡ x = cc in rw same refl
take-got {X} (y ∷ xs) (suc i) x e =
    let f : suc i + 1 ≡ suc (i + 1) = omega arith in
    rw f (ap (λ (zs : List X). y ∷ zs) (take-got xs i x e))

-- a list to which the next entry was pushed has one entry more of those to be copied
pub push-got : {X : Type 0} (old more new : List X) (i : ℕ) (x : X) → slice_get more i ≡ Some x → new ≡ (old ++ take i more) ++ x ∷ []
    → new ≡ old ++ take (i + 1) more
push-got {X} old more new i x e h =
    h ∙ append_assoc old (take i more) (x ∷ []) ∙ ap (λ (zs : List X). old ++ zs) (sym (take-got more i x e))

-- a list that has nothing at place i is no longer than i
pub none-past : {X : Type 0} (xs : List X) (i : ℕ) → slice_get xs i ≡ None → length xs ≤ i
none-past [] i e = omega arith
none-past (x ∷ xs) zero e = cc
none-past (x ∷ xs) (suc i) e = omega (arith, none-past xs i e)
