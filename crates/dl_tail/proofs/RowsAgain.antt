-- A memory that is made of rows has these rows.
use Rattle.std.proofs.Common.{◌≡◌, ℕ, zero, suc, ◌+◌, ◌*◌, ◌/◌, ◌%◌, ◌<◌, ◌≤◌, ◌==◌, inl, inr, Bool, true, false, not, cond, List, [], ◌∷◌, ◌++◌, length, take, drop, Option, Some, None, refl, ap, sym, subst, ◌∙◌, append-nil, append_assoc, length-append, arith}
use Rattle.std.specs.List.{AllByRecursion}
use Rattle.std.proofs.lemmas.Bool.{ltb-true, cases_lt, true≢false}
use Rattle.std.proofs.lemmas.List.{take_at, drop_at, length-replicate}
use Rattle.spec_tail.specs.declared.draft.Row.{Row}
use Rattle.spec_tail.specs.Bytes.{is_empty, rows_from, rows_of}
use Rattle.spec_tail.specs.Reading.{rows_rise, with_row, with_rows, memory_of}
use Rattle.dl_logfmt.proofs.SectionLaws.{Rises}
use Rattle.dl_tail.proofs.RowLaws.{IsRow, AreRows, zeros, zeros-more, row-put, none-put, is-memory}

-- rows from one number up to another
abbrev Fit : (from top : ℕ) → List Row → Type 0
Fit from top [] = Unit {0}
Fit from top (r ∷ rs) = (from ≤ r.number) × (r.number < top) × (length r.bytes ≡ 32) × (is_empty r.bytes ≡ false) × Fit (suc r.number) top rs

not_true : (b : Bool) → not b ≡ true → b ≡ false
not_true true e = absurd (true≢false (sym e))
not_true false e = refl

-- the row before, if any, comes before this number
abbrev IsAt : Option Row → ℕ → Type 0
IsAt None from = from ≡ 0
IsAt (Some r) from = from ≡ suc r.number

fit : (size : ℕ) (before : Option Row) (from : ℕ) (rs : List Row) → IsAt before from → AllByRecursion (IsRow size) rs → Rises rows_rise before rs → Fit from (size / 32) rs
fit size before from [] at good rises = tt
fit size None from (r ∷ rs) at good rises =
    (omega (arith, at), good.0.number, good.0.whole, not_true (is_empty r.bytes) good.0.filled, fit size (Some r) (suc r.number) rs refl good.1 rises.1)
fit size (Some b) from (r ∷ rs) at good rises =
    let later = ltb-true b.number r.number rises.0 in
    (omega (arith, at, later), good.0.number, good.0.whole, not_true (is_empty r.bytes) good.0.filled, fit size (Some r) (suc r.number) rs refl good.1 rises.1)

-- zeros have no row
empty_zeros : (n : ℕ) → is_empty (zeros n) ≡ true
empty_zeros zero = refl
empty_zeros (suc n) = empty_zeros n

length_zeros : (n : ℕ) → length (zeros n) ≡ n
length_zeros n = length-replicate {A = ℕ} n 0

rows_next : (n k : ℕ) (bytes behind : List ℕ) → length bytes ≡ 32
    → rows_from k (suc n) (bytes ++ behind) ≡ cond (is_empty bytes) (rows_from (suc k) n behind) (record { number = k; bytes = bytes } ∷ rows_from (suc k) n behind)
rows_next n k bytes behind whole = rw (take_at bytes behind 32 whole, drop_at bytes behind 32 whole) refl

no_rows : (n k : ℕ) → rows_from k n (zeros (32 * n)) ≡ []
no_rows zero k = refl
no_rows (suc n) k =
    ap (rows_from k (suc n)) (zeros-more n)
    ∙ rows_next n k (zeros 32) (zeros (32 * n)) (length_zeros 32)
    ∙ ap (λ (b : Bool). cond b (rows_from (suc k) n (zeros (32 * n))) (record { number = k; bytes = zeros 32 } ∷ rows_from (suc k) n (zeros (32 * n)))) (empty_zeros 32)
    ∙ no_rows n (suc k)

-- what rows make of zeros after other bytes has these rows
record AreMade (n k : ℕ) (p : List ℕ) (rs : List Row) : Type 0 where
  memory : List ℕ
  made : with_rows (p ++ zeros (32 * n)) rs ≡ p ++ memory
  rows : rows_from k n memory ≡ rs

made_own : (n k : ℕ) (p : List ℕ) (r : Row) (rs : List Row) → length p ≡ 32 * k → r.number ≡ k → length r.bytes ≡ 32 → is_empty r.bytes ≡ false → AreMade n (suc k) (p ++ r.bytes) rs
    → AreMade (suc n) k p (r ∷ rs)
made_own n k p r rs here own whole filled rest =
    let same : r ≡ record { number = k; bytes = r.bytes } = ap (λ (m : ℕ). record { number = m; bytes = r.bytes }) own in
    record {
      memory = r.bytes ++ rest.memory;
      made =
          ap (λ (x : Row). with_rows (with_row (p ++ zeros (32 * suc n)) x) rs) same
          ∙ ap (λ (m : List ℕ). with_rows m rs) (row-put k n p r.bytes here whole)
          ∙ rest.made ∙ append_assoc p r.bytes rest.memory;
      rows =
          rows_next n k r.bytes rest.memory whole
          ∙ ap (λ (b : Bool). cond b (rows_from (suc k) n rest.memory) (record { number = k; bytes = r.bytes } ∷ rows_from (suc k) n rest.memory)) filled
          ∙ ap (λ (xs : List Row). record { number = k; bytes = r.bytes } ∷ xs) rest.rows
          ∙ ap (λ (x : Row). x ∷ rs) (sym same);
    }

made_later : (n k : ℕ) (p : List ℕ) (rs : List Row) → AreMade n (suc k) (p ++ zeros 32) rs → AreMade (suc n) k p rs
made_later n k p rs rest =
    record {
      memory = zeros 32 ++ rest.memory;
      made = ap (λ (m : List ℕ). with_rows m rs) (none-put n p) ∙ rest.made ∙ append_assoc p (zeros 32) rest.memory;
      rows =
          rows_next n k (zeros 32) rest.memory (length_zeros 32)
          ∙ ap (λ (b : Bool). cond b (rows_from (suc k) n rest.memory) (record { number = k; bytes = zeros 32 } ∷ rows_from (suc k) n rest.memory)) (empty_zeros 32)
          ∙ rest.rows;
    }

made_all : (n k top : ℕ) (p : List ℕ) (rs : List Row) → k + n ≡ top → length p ≡ 32 * k → Fit k top rs → AreMade n k p rs
made_all n k top p [] end here fits = record { memory = zeros (32 * n); made = refl; rows = no_rows n k }
made_all zero k top p (r ∷ rs) end here fits = let low = fits.0 in let high = fits.1 in absurd (omega (arith, end, low, high))
made_all (suc n) k top p (r ∷ rs) end here fits =
    let low = fits.0 in
    elim (cases_lt k r.number) [
      | inl later ↦
          made_later n k p (r ∷ rs) (made_all n (suc k) top (p ++ zeros 32) (r ∷ rs) (omega (arith, end)) (omega (arith, here, length-append p (zeros 32), length_zeros 32)) (later, fits.1, fits.2, fits.3, fits.4))
      | inr least ↦ (
          let own : r.number ≡ k = omega (arith, low, least) in
          let after : Fit (suc k) top rs = subst (λ (m : ℕ). Fit (suc m) top rs) own fits.4 in
          let whole = fits.2 in
          made_own n k p r rs here own whole fits.3 (made_all n (suc k) top (p ++ r.bytes) rs (omega (arith, end)) (omega (arith, here, length-append p r.bytes, whole)) after))
    ]

-- the rows of the memory that is read are those that were read
pub rows-again : (size : ℕ) (rs : List Row) → size % 4096 ≡ 0 → AreRows size rs → rows_of (memory_of size rs) ≡ rs
rows-again size rs pages are =
    let n = size / 32 in
    let whole : size ≡ 32 * (size / 32) = omega (arith, pages) in
    let made = made_all n 0 n [] rs (omega arith) refl (fit size None 0 rs refl are.1 are.2) in
    let memory : memory_of size rs ≡ made.memory = ap (λ (m : ℕ). with_rows (zeros m) rs) whole ∙ made.made in
    let count : length (memory_of size rs) ≡ size = (is-memory size rs are.1).0 in
    ap (λ (m : ℕ). rows_from 0 (m / 32) (memory_of size rs)) count ∙ ap (rows_from 0 n) memory ∙ made.rows
