-- Two lists that a loop merges element by element are, at its end, the list of all merged pairs.
use Rattle.std.proofs.Common.{◌≡◌, ℕ, zero, suc, ◌+◌, ◌<◌, List, [], ◌∷◌, length, get_or, set, take, refl, ◌∙◌, ap, arith}
use Rattle.std.specs.Simd.Lanes.{zip2, chunk, put_chunk}

module _ {A : Type 0} (f : A → A → A) where
  -- the first i elements are merged
  abbrev pub merged_to : (i : ℕ) → List A → List A → List A
  merged_to i [] ys = []
  merged_to zero (x ∷ xs) ys = x ∷ xs
  merged_to (suc i) (x ∷ xs) [] = x ∷ xs
  merged_to (suc i) (x ∷ xs) (y ∷ ys) = f x y ∷ merged_to i xs ys

  -- with no element merged, the list is as it was
  pub none_merged : (xs ys : List A) → xs ≡ merged_to 0 xs ys
  none_merged [] ys = refl
  none_merged (x ∷ xs) ys = refl

  -- with as many elements merged as there are, the list is that of all pairs
  pub all_merged : (xs ys : List A) (i : ℕ) → length ys ≡ length xs → i ≡ length xs → merged_to i xs ys ≡ zip2 f xs ys
  all_merged [] ys i same all = refl
  all_merged (x ∷ xs) ys zero same all = absurd (omega arith)
  all_merged (x ∷ xs) [] (suc i) same all = absurd (omega arith)
  all_merged (x ∷ xs) (y ∷ ys) (suc i) same all = ap (λ (zs : List A). f x y ∷ zs) (all_merged xs ys i (omega arith) (omega arith))

  -- to merge two lists changes nothing of the first one's length
  pub length-merged_to : (i : ℕ) (xs ys : List A) → length (merged_to i xs ys) ≡ length xs
  length-merged_to i [] ys = refl
  length-merged_to zero (x ∷ xs) ys = refl
  length-merged_to (suc i) (x ∷ xs) [] = refl
  length-merged_to (suc i) (x ∷ xs) (y ∷ ys) = ap suc (length-merged_to i xs ys)

  -- ---- one more element

  -- with element i set to the merged pair, one more element is merged
  pub merge_one : (i : ℕ) (xs ys : List A) (d : A) → length ys ≡ length xs → i < length xs → set (merged_to i xs ys) i (f (get_or (merged_to i xs ys) i d) (get_or ys i d)) ≡ merged_to (suc i) xs ys
  merge_one i [] ys d same l = absurd (omega arith)
  merge_one i (x ∷ xs) [] d same l = absurd (omega arith)
  merge_one zero (x ∷ xs) (y ∷ ys) d same l = ap (λ (zs : List A). f x y ∷ zs) (none_merged xs ys)
  merge_one (suc i) (x ∷ xs) (y ∷ ys) d same l = ap (λ (zs : List A). f x y ∷ zs) (merge_one i xs ys d (omega arith) (omega arith))

  -- ---- a chunk of m more elements

  merge_front : (m : ℕ) (xs ys : List A) → put_chunk 0 xs (zip2 f (take m xs) (take m ys)) ≡ merged_to m xs ys
  merge_front m [] ys = refl
  merge_front zero (x ∷ xs) ys = refl
  merge_front (suc m) (x ∷ xs) [] = refl
  merge_front (suc m) (x ∷ xs) (y ∷ ys) = ap (λ (zs : List A). f x y ∷ zs) (merge_front m xs ys)

  -- with the m elements from i on set to their merged pairs, m more elements are merged
  pub merge_chunk : (i m : ℕ) (xs ys : List A) → length ys ≡ length xs → put_chunk i (merged_to i xs ys) (zip2 f (chunk i m (merged_to i xs ys)) (chunk i m ys)) ≡ merged_to (i + m) xs ys
  merge_chunk i m [] ys same = refl
  merge_chunk i m (x ∷ xs) [] same = absurd (omega arith)
  merge_chunk zero m (x ∷ xs) (y ∷ ys) same =
      let e : m ≡ 0 + m = omega arith in
      merge_front m (x ∷ xs) (y ∷ ys) ∙ ap (λ (n : ℕ). merged_to n (x ∷ xs) (y ∷ ys)) e
  merge_chunk (suc i) m (x ∷ xs) (y ∷ ys) same =
      let e : suc (i + m) ≡ suc i + m = omega arith in
      ap (λ (zs : List A). f x y ∷ zs) (merge_chunk i m xs ys (omega arith)) ∙ ap (λ (n : ℕ). merged_to n (x ∷ xs) (y ∷ ys)) e
