-- Segments overlap exactly if two of them have the same address inside memory.
use Rattle.std.proofs.Common.{◌≡◌, ℕ, ◌+◌, ◌<◌, ◌≤◌, ◌⊎◌, inl, inr, Bool, true, false, nat_lt, ◌&&◌, ◌||◌, List, [], ◌∷◌, get_or, refl, sym, ap, ap₂, subst, arith}
use Rattle.std.proofs.lemmas.Bool.Decides.{leb_tells, nat_tests}
use Rattle.std.proofs.lemmas.List.Folds.{list_any_at, list_any_none}
use Rattle.std.proofs.lemmas.List.FromFn.{length-range_with_len, get_or-range_with_len}
use Rattle.std.proofs.lemmas.List.Sorted.{sum_by-IsPermutation}
use Rattle.std.specs.List.{list_any, count_by, range_with_len}
use Rattle.std.specs.List.Sorted.{IsPermutation}
use Rattle.dl_elf.specs.declared.segment.Segment.{Segment}
use Rattle.dl_elf.specs.Segments.{has_address}
use Rattle.dl_elf.specs.Rules.{overlap}

-- how many segments have the address
abbrev pub sharers : List Segment → (address : ℕ) → ℕ
sharers segments address = count_by (has_address address) segments

-- of a conjunction that is true, both parts are
pub both : (x y : Bool) → (x && y) ≡ true → (x ≡ true) × (y ≡ true)
both true true h = (refl, refl)
both true false h = (refl, h)
both false y h = absurd (cc)

-- whether a segment has the address
pub record Has (s : Segment) (a : ℕ) : Type 0 where
  pub test : has_address a s ≡ true
  pub from : s.address ≤ a
  pub below : a < s.address + s.memory_size

-- that a segment doesn't have the address, which lies before it or past its end
pub record Lacks (s : Segment) (a : ℕ) : Type 0 where
  pub test : has_address a s ≡ false
  pub outside : (a < s.address) ⊎ (s.address + s.memory_size ≤ a)

-- a segment has an address, or lacks it
pub has_or_lacks : (s : Segment) (a : ℕ) → Has s a ⊎ Lacks s a
has_or_lacks s a =
    elim (leb_tells s.address a) [
      | inl from ↦
          elim (leb_tells (a + 1) (s.address + s.memory_size)) [
            | inl below ↦ inl (record { test = grind (arith, nat_tests); from = from.1; below = omega arith })
            | inr above ↦ inr (record { test = grind (arith, nat_tests); outside = inr (omega arith) })
          ]
      | inr before ↦ inr (record { test = grind (arith, nat_tests); outside = inl before.1 })
    ]

shared_by_two : (segments : List Segment) (a : ℕ) → 1 < sharers segments a → nat_lt 1 (sharers segments a) ≡ true
shared_by_two segments a two = grind (arith, nat_tests)

unshared : (segments : List Segment) (a : ℕ) → sharers segments a ≤ 1 → nat_lt 1 (sharers segments a) ≡ false
unshared segments a one = grind (arith, nat_tests)

-- if more than one segment has an address inside memory, segments overlap
pub overlap-found : (size a : ℕ) (segments : List Segment) → a < size → 1 < sharers segments a → overlap size segments ≡ true
unfolding overlap
overlap-found size a segments inside two =
    let same : get_or (range_with_len 0 size) a 0 ≡ a = omega (arith, get_or-range_with_len 0 size a 0 inside) in
    list_any_at (λ x. nat_lt 1 (sharers segments x)) (range_with_len 0 size) a 0
    (omega (arith, length-range_with_len 0 size))
    (let P : ℕ → Type 0 = λ x. nat_lt 1 (sharers segments x) ≡ true in subst P (sym same) (shared_by_two segments a two))

-- if no address is in more than one segment, none overlap
pub overlap-none : (size : ℕ) (segments : List Segment) → ((a : ℕ) → sharers segments a ≤ 1) → overlap size segments ≡ false
unfolding overlap
overlap-none size segments apart =
    list_any_none (λ x. nat_lt 1 (sharers segments x)) (range_with_len 0 size) (λ k d inside. unshared segments _ (apart _))

-- if no segments overlap, an address inside memory is in at most one
pub overlap-apart : (size a : ℕ) (segments : List Segment) → overlap size segments ≡ false → a < size → sharers segments a ≤ 1
overlap-apart size a segments none inside =
    elim (leb_tells (sharers segments a) 1) [
      | inl one ↦ one.1
      | inr two ↦ let found : overlap size segments ≡ true = overlap-found size a segments inside two.1 in cc
    ]

any_same : (p q : ℕ → Bool) → ((x : ℕ) → p x ≡ q x) → (xs : List ℕ) → list_any p xs ≡ list_any q xs
any_same p q same [] = refl
any_same p q same (x ∷ xs) = ap₂ ◌||◌ (same x) (any_same p q same xs)

-- whether segments overlap doesn't depend on their order
pub overlap-permuted : (size : ℕ) (xs ys : List Segment) → IsPermutation xs ys → overlap size ys ≡ overlap size xs
unfolding overlap
overlap-permuted size xs ys moved =
    any_same _ _ (λ a. ap (λ n. nat_lt 1 n) (sum_by-IsPermutation _ xs ys moved)) (range_with_len 0 size)
