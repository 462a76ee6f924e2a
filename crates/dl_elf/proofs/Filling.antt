-- A memory into which a segment's bytes are copied has them at the segment's address, and else what it had.
use Rattle.std.proofs.Common.{◌≡◌, ℕ, ◌+◌, ◌-◌, ◌<◌, ◌≤◌, ◌⊎◌, inl, inr, true, false, cond, List, length, get_or, ap, ◌∙◌, leb-true, arith, rules}
use Rattle.std.proofs.lemmas.Bool.Decides.{leb_tells, nat_tests}
use Rattle.std.proofs.lemmas.List.{places}
use Rattle.std.proofs.lemmas.List.Edits.{get_or-between, length-between}
use Rattle.std.specs.List.{between}
use borrow.Rule.Slice.PartMut.{put_mid}
use Rattle.dl_elf.specs.declared.segment.Segment.{Segment}
use Rattle.dl_elf.specs.Segments.{fills}
use Rattle.dl_elf.specs.Rules.{is_in_file, is_in_memory}
use Rattle.dl_elf.proofs.Sharing.{both}

below : (a k i : ℕ) (xs ys : List ℕ) → i < a → a ≤ length xs → get_or (put_mid a k xs ys) i 0 ≡ get_or xs i 0
below a k i xs ys low fits = search (rules, places)

within : (a k i : ℕ) (xs ys : List ℕ) → a ≤ length xs → a ≤ i → i < a + length ys → get_or (put_mid a k xs ys) i 0 ≡ get_or ys (i - a) 0
within a k i xs ys fits low high = search (rules, places)

above : (a k i : ℕ) (xs ys : List ℕ) → a ≤ length xs → length ys ≡ k → a + k ≤ i → get_or (put_mid a k xs ys) i 0 ≡ get_or xs i 0
above a k i xs ys fits long high = search (rules, places)

-- a segment's bytes lie in the file and in the memory, and part is what the file has of them
record Fits (memory file part : List ℕ) (s : Segment) : Type 0 where
  source : s.offset + s.file_size ≤ length file
  small : s.file_size ≤ s.memory_size
  target : s.address + s.memory_size ≤ length memory
  is : part ≡ between s.offset (s.offset + s.file_size) file
  long : length part ≡ s.file_size

fits_from : (memory file part : List ℕ) (s : Segment) → is_in_file file s ≡ true → is_in_memory (length memory) s ≡ true → part ≡ between s.offset (s.offset + s.file_size) file → Fits memory file part s
fits_from memory file part s kept fits is =
    let source : s.offset + s.file_size ≤ length file = leb-true _ _ (both _ _ kept).0 in
    record {
      source = source;
      small = leb-true _ _ (both _ _ kept).1;
      target = leb-true _ _ fits;
      is = is;
      long = omega (arith, ap length is, length-between file s.offset (s.offset + s.file_size) source);
    }

-- what is left of the memory
kept_byte : (memory file part : List ℕ) (s : Segment) (a : ℕ) → Fits memory file part s → (a < s.address) ⊎ (s.address + s.file_size ≤ a) → get_or (put_mid s.address (s.address + s.file_size - s.address) memory part) a 0 ≡ get_or memory a 0
kept_byte memory file part s a f (inl before) = below s.address _ a memory part before (omega (arith, f.small, f.target))
kept_byte memory file part s a f (inr past) = above s.address _ a memory part (omega (arith, f.target)) (omega (arith, f.long)) (omega arith)

-- what is copied
copied_byte : (memory file part : List ℕ) (s : Segment) (a : ℕ) → Fits memory file part s → s.address ≤ a → a < s.address + s.file_size → get_or (put_mid s.address (s.address + s.file_size - s.address) memory part) a 0 ≡ get_or file (s.offset + (a - s.address)) 0
copied_byte memory file part s a f from here =
    let place : a - s.address < s.file_size = omega arith in
    within s.address _ a memory part (omega (arith, f.target)) from (omega (arith, f.long)) ∙ ap (λ xs. get_or xs (a - s.address) 0) f.is
    ∙ get_or-between file s.offset (s.offset + s.file_size) (a - s.address) 0 (omega arith)

-- an address that a segment fills, or not
fills_or_not : (s : Segment) (a : ℕ) → s.file_size ≤ s.memory_size → ((fills a s ≡ true) × (s.address ≤ a) × (a < s.address + s.file_size)) ⊎ ((fills a s ≡ false) × ((a < s.address) ⊎ (s.address + s.file_size ≤ a)))
fills_or_not s a small =
    elim (leb_tells s.address a) [
      | inl from ↦
          elim (leb_tells (a + 1) (s.address + s.file_size)) [
            | inl here ↦ inl (grind (arith, nat_tests), from.1, omega arith)
            | inr past ↦ inr (grind (arith, nat_tests), inr (omega arith))
          ]
      | inr before ↦ inr (grind (arith, nat_tests), inl before.1)
    ]

-- of a memory into which a segment's bytes are copied, a byte is the file's where the segment fills it,
-- and else what it was
pub filled : (memory file part : List ℕ) (s : Segment) (a : ℕ) → is_in_file file s ≡ true → is_in_memory (length memory) s ≡ true
    → part ≡ between s.offset (s.offset + s.file_size) file
    → get_or (put_mid s.address (s.address + s.file_size - s.address) memory part) a 0
    ≡ cond (fills a s) (get_or file (s.offset + (a - s.address)) 0) (get_or memory a 0)
filled memory file part s a kept fits is =
    let f = fits_from memory file part s kept fits is in
    elim (fills_or_not s a f.small) [
      | inl at ↦ rw at.0 (copied_byte memory file part s a f at.1 at.2)
      | inr off ↦ rw off.0 (kept_byte memory file part s a f off.1)
    ]
