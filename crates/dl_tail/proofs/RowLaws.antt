-- A memory is written by its rows that aren't empty, and read from them.
use Rattle.std.proofs.Common.{◌≡◌, ℕ, zero, suc, ◌+◌, ◌*◌, ◌/◌, ◌%◌, ◌<◌, ◌≤◌, ◌^◌, ◌==◌, nat_lt, Bool, true, false, not, List, [], ◌∷◌, ◌++◌, All, length, take, drop, replicate, Option, Some, None, if◌then◌else◌, refl, ap, sym, subst, ◌∙◌, append-nil, append_assoc, length-append, arith}
use Rattle.std.specs.List.{flat_map, AllByRecursion}
use Rattle.std.proofs.lemmas.Bool.{ltb-true, lt-ltb, eqb-true, and_parts}
use Rattle.std.proofs.lemmas.List.{nil_from_length, take-append-drop, take_at, drop_at, length-take-le, length-drop, length-replicate, replicate-append-replicate}
use Rattle.std.proofs.lemmas.List.Elements.{All-append, All-take, All-drop, All-replicate}
use Rattle.spec_log.specs.Bytes.{little, section}
use Rattle.spec_log.specs.Fields.{read, gives, raw, any}
use Rattle.spec_tail.specs.declared.draft.Row.{Row}
use Rattle.spec_tail.specs.Bytes.{row_size, is_empty, rows_from, rows_of, row_bytes}
use Rattle.spec_tail.specs.Reading.{filled, row, rows_rise, with_row, with_rows, memory_of}
use Rattle.dl_logfmt.proofs.ByteNumbers.{IsByte}
use Rattle.dl_logfmt.proofs.Codes.{Codes, Codes-as, Codes-then, Codes-gives, Codes-number, Codes-raw, Codes-read, Codes-tested}
use Rattle.dl_logfmt.proofs.SectionLaws.{entries, section_of, Rises, AreEntries, Codes-entries}
use Rattle.dl_tail.proofs.ThreadLaws.{Codes-next}

-- ---- rows as they are read

-- it is one of the rows of a memory of this size, and not empty
pub record IsRow (size : ℕ) (r : Row) : Type 0 where
  pub number : r.number < size / 32
  pub whole : length r.bytes ≡ 32
  pub bytes : All IsByte r.bytes
  pub filled : not (is_empty r.bytes) ≡ true

abbrev IsFilled : List ℕ → Type 0
IsFilled bytes = ((32 ≡ length bytes) × All IsByte bytes) × (not (is_empty bytes) ≡ true)

abbrev Known-bytes : (number : ℕ) → Row → Type 0
Known-bytes number r = (bytes : List ℕ) × IsFilled bytes × (r ≡ record { number = number; bytes = bytes })

Codes-bytes : (number : ℕ) → Codes (read (filled row_size) (λ bytes. gives (record { number = number; bytes = bytes }))) (λ r. r.bytes) (Known-bytes number)
Codes-bytes number =
    Codes-then (filled row_size) (λ bytes. gives (record { number = number; bytes = bytes })) (λ bytes. bytes) IsFilled
    (λ bytes r. []) (λ bytes r. r ≡ record { number = number; bytes = bytes }) (λ r. r.bytes) (Known-bytes number)
    (Codes-tested 5 (raw 32) (λ bytes. not (is_empty bytes)) (λ bytes. bytes) (λ bytes. (32 ≡ length bytes) × All IsByte bytes) (Codes-raw 32))
    (λ bytes g. Codes-gives (record { number = number; bytes = bytes }) (λ r. r ≡ record { number = number; bytes = bytes }) refl (λ r e. e))
    (λ r g. (g.0, g.1, g.2, rw g.2 (sym (append-nil g.0))))
    (λ bytes r g e. ((bytes, g, e), rw e (sym (append-nil bytes))))

Codes-row : (size : ℕ) → size ≤ 2 ^ 24 → Codes (row size) row_bytes (IsRow size)
Codes-row size small =
    Codes-as (row size) row_bytes row_bytes _ (IsRow size)
    (Codes-next 4 (λ number. nat_lt number (size / row_size)) (λ number. read (filled row_size) (λ bytes. gives (record { number = number; bytes = bytes })))
    (λ r. r.number) (λ r. r.bytes) Known-bytes (λ number t. Codes-bytes number) (λ number r t k. ap (λ (r : Row). r.number) k.2))
    (λ r g. refl) to known where
      to : (r : Row) → (number : ℕ) × ((number < 256 ^ 4) × (nat_lt number (size / row_size) ≡ true)) × Known-bytes number r → IsRow size r
      to r (number, gn, (bytes, gb, e)) =
          subst (IsRow size) (sym e) (record { number = ltb-true number (size / 32) gn.1; whole = sym gb.0.0; bytes = gb.0.1; filled = gb.1 })

      known : (r : Row) → IsRow size r → (number : ℕ) × ((number < 256 ^ 4) × (nat_lt number (size / row_size) ≡ true)) × Known-bytes number r
      known r g =
          let below = g.number in
          (r.number, (omega (arith, below, small), lt-ltb r.number (size / 32) g.number), (r.bytes, ((sym g.whole, g.bytes), g.filled), refl))

-- rows of a memory of this size, their numbers rising, that 32 bits can count
abbrev pub AreRows : (size : ℕ) → List Row → Type 0
AreRows size rs = (length rs < 256 ^ 4) × AllByRecursion (IsRow size) rs × Rises rows_rise None rs

pub Codes-rows : (size : ℕ) → size ≤ 2 ^ 24 → Codes (section_of rows_rise (row size)) (section row_bytes) (AreRows size)
Codes-rows size small =
    Codes-as (section_of rows_rise (row size)) (section row_bytes) (section row_bytes) _ (AreRows size)
    (Codes-read (any 4) (λ count. entries rows_rise (row size) None count) length (little 4) (λ x. (x < 256 ^ 4) × (true ≡ true))
    (flat_map row_bytes) (λ rs. AllByRecursion (IsRow size) rs × Rises rows_rise None rs)
    (Codes-number 4 5 (λ x. true))
    (λ n g. Codes-as (entries rows_rise (row size) None n) (flat_map row_bytes) (flat_map row_bytes) (AreEntries rows_rise (IsRow size) None n) _
    (Codes-entries n rows_rise (row size) row_bytes (IsRow size) None (Codes-row size small)) (λ rs h. refl) (λ rs h. (h.0, (h.1, h.2))) (λ rs h. (h.0, h.1.0, h.1.1))))
    (λ rs h. refl) (λ rs h. (h.0.0, h.1.0, h.1.1)) (λ rs h. ((h.0, refl), (h.1, h.2)))

-- ---- empty rows

-- so many bytes that are all 0
abbrev pub zeros : (count : ℕ) → List ℕ
zeros count = replicate count 0

empty-zeros : (bytes : List ℕ) → is_empty bytes ≡ true → bytes ≡ zeros (length bytes)
empty-zeros [] e = refl
empty-zeros (b ∷ bs) e =
    let p = and_parts (b == 0) (is_empty bs) e in
    rw (eqb-true b 0 p.0) (ap (λ (xs : List ℕ). 0 ∷ xs) (empty-zeros bs p.1))

-- the zeros of one row more are 32 zeros before the others
pub zeros-more : (n : ℕ) → zeros (32 * suc n) ≡ zeros 32 ++ zeros (32 * n)
zeros-more n =
    let more : 32 * suc n ≡ 32 + 32 * n = omega arith in
    ap zeros more ∙ sym (replicate-append-replicate 32 (32 * n) 0)

-- ---- a memory that is made of its rows

-- a row put over zeros, right after the bytes before
pub row-put : (k n : ℕ) (p bytes : List ℕ) → length p ≡ 32 * k → length bytes ≡ 32
    → with_row (p ++ zeros (32 * suc n)) (record { number = k; bytes = bytes }) ≡ (p ++ bytes) ++ zeros (32 * n)
row-put k n p bytes here whole =
    let end : length (p ++ zeros 32) ≡ 32 * k + 32 = omega (arith, length-append p (zeros 32), length-replicate {A = ℕ} 32 0, here) in
    let front : take (32 * k) (p ++ zeros (32 * suc n)) ≡ p = take_at p (zeros (32 * suc n)) (32 * k) here in
    let back : drop (32 * k + 32) (p ++ zeros (32 * suc n)) ≡ zeros (32 * n) =
    ap (λ (z : List ℕ). drop (32 * k + 32) (p ++ z)) (zeros-more n)
    ∙ ap (drop (32 * k + 32)) (sym (append_assoc p (zeros 32) (zeros (32 * n))))
    ∙ drop_at (p ++ zeros 32) (zeros (32 * n)) (32 * k + 32) end in
    rw (front, back) refl

-- no row put, where the memory has zeros
pub none-put : (n : ℕ) (p : List ℕ) → p ++ zeros (32 * suc n) ≡ (p ++ zeros 32) ++ zeros (32 * n)
none-put n p = ap (λ (z : List ℕ). p ++ z) (zeros-more n) ∙ sym (append_assoc p (zeros 32) (zeros (32 * n)))

memory-from : (n k : ℕ) (p rest : List ℕ) → length p ≡ 32 * k → length rest ≡ 32 * n → with_rows (p ++ zeros (32 * n)) (rows_from k n rest) ≡ p ++ rest
memory-from zero k p rest here count = ap (λ (z : List ℕ). p ++ z) (sym (nil_from_length rest (omega (arith, count))))
memory-from (suc n) k p rest here count =
    let bytes = take 32 rest in
    let behind = drop 32 rest in
    let fits : 32 ≤ length rest = omega (arith, count) in
    let whole : length bytes ≡ 32 = length-take-le 32 rest fits in
    let next : length (p ++ bytes) ≡ 32 * suc k = omega (arith, length-append p bytes, here, whole) in
    let left : length behind ≡ 32 * n = omega (arith, length-drop 32 rest, count) in
    let all : (p ++ bytes) ++ behind ≡ p ++ rest = append_assoc p bytes behind ∙ ap (λ (z : List ℕ). p ++ z) (take-append-drop 32 rest) in
    let ih : with_rows ((p ++ bytes) ++ zeros (32 * n)) (rows_from (suc k) n behind) ≡ p ++ rest = memory-from n (suc k) (p ++ bytes) behind next left ∙ all in
    by k n p rest bytes (rows_from (suc k) n behind) here whole ih (is_empty bytes) refl where
      by : (k n : ℕ) (p rest bytes : List ℕ) (rows : List Row) → length p ≡ 32 * k → length bytes ≡ 32
          → with_rows ((p ++ bytes) ++ zeros (32 * n)) rows ≡ p ++ rest
          → (b : Bool) → is_empty bytes ≡ b
          → with_rows (p ++ zeros (32 * suc n)) (if b then rows else record { number = k; bytes = bytes } ∷ rows) ≡ p ++ rest
      by k n p rest bytes rows here whole ih true e =
          let none : bytes ≡ zeros 32 = empty-zeros bytes e ∙ ap zeros whole in
          ap (λ (m : List ℕ). with_rows m rows) (none-put n p ∙ ap (λ (z : List ℕ). (p ++ z) ++ zeros (32 * n)) (sym none)) ∙ ih
      by k n p rest bytes rows here whole ih false e =
          ap (λ (m : List ℕ). with_rows m rows) (row-put k n p bytes here whole) ∙ ih

-- a memory of whole pages is the same when it is built again from its rows
pub same-memory : (m : List ℕ) → length m % 4096 ≡ 0 → memory_of (length m) (rows_of m) ≡ m
same-memory m pages =
    let whole : length m ≡ 32 * (length m / 32) = omega (arith, pages) in
    ap (λ (size : ℕ). with_rows (zeros size) (rows_of m)) whole ∙ memory-from (length m / 32) 0 [] m refl whole

-- ---- the rows of a memory

-- of n rows of a memory at most n aren't empty
pub rows-few : (n k : ℕ) (m : List ℕ) → length (rows_from k n m) ≤ n
rows-few zero k m = omega arith
rows-few (suc n) k m = by (is_empty (take 32 m)) (rows-few n (suc k) (drop 32 m)) where
  by : (b : Bool) → length (rows_from (suc k) n (drop 32 m)) ≤ n
      → length (if b then rows_from (suc k) n (drop 32 m) else record { number = k; bytes = take 32 m } ∷ rows_from (suc k) n (drop 32 m)) ≤ suc n
  by true few = omega (arith, few)
  by false few = omega (arith, few)

-- a row, if any, that comes before this number
abbrev IsBefore : Option Row → ℕ → Type 0
IsBefore None k = Unit {0}
IsBefore (Some r) k = r.number < k

before-more : (before : Option Row) (k : ℕ) → IsBefore before k → IsBefore before (suc k)
before-more None k b = tt
before-more (Some r) k b = omega (arith, b)

rows-rise : (n k : ℕ) (m : List ℕ) (before : Option Row) → IsBefore before k → Rises rows_rise before (rows_from k n m)
rows-rise zero k m before b = tt
rows-rise (suc n) k m before b =
    let first : Row = record { number = k; bytes = take 32 m } in
    by n k m before first refl b (rows_from (suc k) n (drop 32 m)) (rows-rise n (suc k) (drop 32 m) before (before-more before k b))
    (rows-rise n (suc k) (drop 32 m) (Some first) (omega arith)) (is_empty (take 32 m)) where
      by : (n k : ℕ) (m : List ℕ) (before : Option Row) (first : Row) → first.number ≡ k → IsBefore before k → (rows : List Row)
          → Rises rows_rise before rows → Rises rows_rise (Some first) rows → (b : Bool) → Rises rows_rise before (if b then rows else first ∷ rows)
      by n k m before first here b rows skipped taken true = skipped
      by n k m None first here b rows skipped taken false = (refl, taken)
      by n k m (Some r) first here b rows skipped taken false = (lt-ltb r.number first.number (omega (arith, here, b)), taken)

rows-good : (size n k : ℕ) (m : List ℕ) → length m ≡ 32 * n → All IsByte m → k + n ≤ size / 32 → AllByRecursion (IsRow size) (rows_from k n m)
rows-good size zero k m count are within = tt
rows-good size (suc n) k m count are within =
    let bytes = take 32 m in
    let fits : 32 ≤ length m = omega (arith, count) in
    let left : length (drop 32 m) ≡ 32 * n = omega (arith, length-drop 32 m, count) in
    by size k bytes (rows_from (suc k) n (drop 32 m)) (omega (arith, within)) (length-take-le 32 m fits) (All-take IsByte 32 m are)
    (rows-good size n (suc k) (drop 32 m) left (All-drop IsByte 32 m are) (omega (arith, within))) (is_empty bytes) refl where
      by : (size k : ℕ) (bytes : List ℕ) (rows : List Row) → k < size / 32 → length bytes ≡ 32 → All IsByte bytes
          → AllByRecursion (IsRow size) rows → (b : Bool) → is_empty bytes ≡ b
          → AllByRecursion (IsRow size) (if b then rows else record { number = k; bytes = bytes } ∷ rows)
      by size k bytes rows below whole are good true e = good
      by size k bytes rows below whole are good false e = (record { number = below; whole = whole; bytes = are; filled = rw e refl }, good)

-- a memory of whole pages, of at most 2^24 bytes, has good rows in rising order
pub are-rows : (m : List ℕ) → length m % 4096 ≡ 0 → length m ≤ 2 ^ 24 → All IsByte m → AreRows (length m) (rows_of m)
are-rows m pages small are =
    let n = length m / 32 in
    let whole : length m ≡ 32 * (length m / 32) = omega (arith, pages) in
    let few = rows-few n 0 m in
    (omega (arith, few, small), rows-good (length m) n 0 m whole are (omega arith), rows-rise n 0 m None tt)

-- ---- the memory that is read

row-kept : (size : ℕ) (m : List ℕ) (r : Row) → IsRow size r → length m ≡ size → All IsByte m → (length (with_row m r) ≡ size) × All IsByte (with_row m r)
row-kept size m r g count are =
    let start = 32 * r.number in
    let below = g.number in
    let whole = g.whole in
    let fits : start + 32 ≤ size = omega (arith, below) in
    let front : length (take start m) ≡ start = length-take-le start m (omega (arith, fits, count)) in
    let count_all = length-append (take start m ++ r.bytes) (drop (start + 32) m) in
    let count_front = length-append (take start m) r.bytes in (
      omega (arith, count_all, count_front, length-drop (start + 32) m, front, whole, fits, count),
      All-append IsByte (take start m ++ r.bytes) (drop (start + 32) m)
          (All-append IsByte (take start m) r.bytes (All-take IsByte start m are) g.bytes) (All-drop IsByte (start + 32) m are),
    )

rows-kept : (size : ℕ) (rs : List Row) (m : List ℕ) → AllByRecursion (IsRow size) rs → length m ≡ size → All IsByte m
    → (length (with_rows m rs) ≡ size) × All IsByte (with_rows m rs)
rows-kept size [] m good count are = (count, are)
rows-kept size (r ∷ rs) m good count are =
    let k = row-kept size m r good.0 count are in rows-kept size rs (with_row m r) good.1 k.0 k.1

-- good rows make a memory of the given size, and all of it is bytes
pub is-memory : (size : ℕ) (rs : List Row) → AllByRecursion (IsRow size) rs → (length (memory_of size rs) ≡ size) × All IsByte (memory_of size rs)
is-memory size rs good = rows-kept size rs (zeros size) good (length-replicate {A = ℕ} size 0) (All-replicate IsByte size 0 (omega arith))
