-- Strata that are laid out: they are the ones that were laid out, and each has its counts.
use Rattle.std.proofs.Common.{◌≡◌, ℕ, zero, suc, ◌+◌, ◌*◌, ◌<◌, ◌≤◌, List, [], ◌∷◌, ◌++◌, length, take, drop, map, Some, refl, sym, ap, ◌∙◌, arith, length-append}
use Rattle.std.specs.Prelude.{All, option_map, slice_get}
use Rattle.std.specs.List.{flat_map}
use Rattle.std.proofs.lemmas.List.{length-replicate}
use Rattle.spec_strata.specs.declared.stratum.Stratum.{Stratum}
use Rattle.spec_strata.specs.declared.stratum.Stratum.TheVariants.{Chunks, Serial, Dma}
use Rattle.dl_replay.specs.Standings.{CountsThreads, counts_of}
use Rattle.dl_replay.specs.Starts.{laid, start_of, stratum_by}

-- ---- one stratum

counts-long : (n : ℕ) (x : Stratum) → CountsThreads n x → length (counts_of n x) ≡ n
counts-long n (Chunks counts) is = is
counts-long n (Serial thread) is = length-replicate n 0
counts-long n Dma is = length-replicate n 0

again : (n : ℕ) (x : Stratum) → stratum_by (start_of x).count (start_of x).head (counts_of n x) ≡ x
again n (Chunks counts) = refl
again n (Serial thread) = refl
again n Dma = refl

-- ---- a list before another

first-part : (n : ℕ) (xs ys : List ℕ) → length xs ≡ n → take n (xs ++ ys) ≡ xs
first-part zero [] ys e = refl
first-part (suc n) [] ys e = absurd (omega (arith, e))
first-part zero (x ∷ xs) ys e = absurd (omega (arith, e))
first-part (suc n) (x ∷ xs) ys e = ap (λ (l : List ℕ). x ∷ l) (first-part n xs ys (omega (arith, e)))

after-part : (n m : ℕ) (xs ys : List ℕ) → length xs ≡ n → drop (n + m) (xs ++ ys) ≡ drop m ys
after-part zero m [] ys e = ap (λ (i : ℕ). drop i ys) (omega arith)
after-part (suc n) m [] ys e = absurd (omega (arith, e))
after-part zero m (x ∷ xs) ys e = absurd (omega (arith, e))
after-part (suc n) m (x ∷ xs) ys e =
    let i : suc n + m ≡ suc (n + m) = omega arith in
    ap (λ (k : ℕ). drop k (x ∷ xs ++ ys)) i ∙ after-part n m xs ys (omega (arith, e))

rest-part : (n : ℕ) (xs ys : List ℕ) → length xs ≡ n → drop n (xs ++ ys) ≡ ys
rest-part n xs ys e =
    let i : n ≡ n + 0 = omega arith in
    ap (λ (k : ℕ). drop k (xs ++ ys)) i ∙ after-part n 0 xs ys e

-- ---- all strata

rest-all : (n : ℕ) (x : Stratum) (xs : List Stratum) → All (CountsThreads n) (x ∷ xs) → All (CountsThreads n) xs
rest-all n x xs all k d l = all (suc k) d (omega (arith, l))

-- strata that are laid out are the same
pub laid-again : (n : ℕ) (xs : List Stratum) → All (CountsThreads n) xs → laid n (map start_of xs) (flat_map (counts_of n) xs) ≡ xs
laid-again n [] all = refl
laid-again n (x ∷ xs) all =
    let long = counts-long n x (all 0 x (omega arith)) in
    let rest = flat_map (counts_of n) xs in
    (λ i. stratum_by (start_of x).count (start_of x).head (first-part n (counts_of n x) rest long i) ∷ laid n (map start_of xs) (rest-part n (counts_of n x) rest long i))
    ∙ (λ i. again n x i ∷ laid-again n xs (rest-all n x xs all) i)

-- so many counts there are
pub counts-in-all : (n : ℕ) (xs : List Stratum) → All (CountsThreads n) xs → length (flat_map (counts_of n) xs) ≡ n * length xs
counts-in-all n [] all = omega arith
counts-in-all n (x ∷ xs) all =
    let long = counts-long n x (all 0 x (omega arith)) in
    let more = counts-in-all n xs (rest-all n x xs all) in
    let e : n * suc (length xs) ≡ n + n * length xs = omega arith in
    omega (arith, e, more, long, length-append (counts_of n x) (flat_map (counts_of n) xs))

-- and those of each are in their place
pub counts-at : (n : ℕ) (xs : List Stratum) (place : ℕ) → All (CountsThreads n) xs → place < length xs
    → option_map (counts_of n) (slice_get xs place) ≡ Some (take n (drop (n * place) (flat_map (counts_of n) xs)))
counts-at n [] place all l = absurd (omega (arith, l))
counts-at n (x ∷ xs) zero all l =
    let long = counts-long n x (all 0 x (omega arith)) in
    let none : n * 0 ≡ 0 = omega arith in
    ap (λ (cs : List ℕ). Some cs) (sym (ap (λ (k : ℕ). take n (drop k (counts_of n x ++ flat_map (counts_of n) xs))) none ∙ first-part n (counts_of n x) (flat_map (counts_of n) xs) long))
counts-at n (x ∷ xs) (suc place) all l =
    let long = counts-long n x (all 0 x (omega arith)) in
    let rest = flat_map (counts_of n) xs in
    let e : n * suc place ≡ n + n * place = omega arith in
    counts-at n xs place (rest-all n x xs all) (omega (arith, l))
    ∙ ap (λ (cs : List ℕ). Some (take n cs)) (sym (ap (λ (k : ℕ). drop k (counts_of n x ++ rest)) e ∙ after-part n (n * place) (counts_of n x) rest long))

-- which end among all
pub ends-within : (n place strata : ℕ) → place < strata → n * place + n ≤ n * strata
ends-within n place zero l = absurd (omega (arith, l))
ends-within n zero (suc strata) l =
    let e : n * suc strata ≡ n + n * strata = omega arith in
    omega (arith, e)
ends-within n (suc place) (suc strata) l =
    let d : n * suc place ≡ n + n * place = omega arith in
    let e : n * suc strata ≡ n + n * strata = omega arith in
    omega (arith, d, e, ends-within n place strata (omega (arith, l)))
