-- A memory that is filled from one segment after the other is the file's: no two share an address, so none is filled twice.
use Rattle.std.proofs.Common.{◌≡◌, ℕ, ◌+◌, ◌-◌, ◌<◌, ◌≤◌, inl, inr, Bool, true, false, cond, Option, Some, None, List, [], ◌∷◌, ◌++◌, length, get_or, take, refl, sym, ap, ◌∙◌, subst, take_all, arith}
use Rattle.std.proofs.lemmas.Bool.{cases_Bool}
use Rattle.std.proofs.lemmas.List.{take_more}
use Rattle.std.proofs.lemmas.List.Folds.{find-append}
use Rattle.std.proofs.lemmas.List.FromFn.{fill_by_all}
use Rattle.std.proofs.lemmas.List.Sums.{count_by_more_yes, sum_by-cons, sum_by-take-le}
use Rattle.std.specs.List.{find}
use Rattle.std.specs.Option.{option_or}
use Rattle.dl_elf.specs.declared.segment.Segment.{Segment}
use Rattle.dl_elf.specs.Segments.{has_address, fills}
use Rattle.dl_elf.specs.Rules.{overlap}
use Rattle.dl_elf.specs.Loading.{byte_from, byte_at, memory_of}
use Rattle.dl_elf.proofs.Sharing.{both, sharers, overlap-apart}

-- the first n segments are copied, and nothing else
pub record IsFilled (file : List ℕ) (segments : List Segment) (size n : ℕ) (memory : List ℕ) : Type 0 where
  pub whole : length memory ≡ size
  pub bytes : (a : ℕ) → a < size → get_or memory a 0 ≡ byte_at file (take n segments) a

-- how many of one segment have the address
abbrev counted : Bool → ℕ
counted has = cond has 1 0

no_filler : (a : ℕ) (segments : List Segment) → sharers segments a ≡ 0 → find (fills a) segments ≡ None
no_filler a [] none = refl
no_filler a (s ∷ ss) none =
    let sum : counted (has_address a s) + sharers ss a ≡ 0 = sym (sum_by-cons (λ x. counted (has_address a x)) s ss) ∙ none in
    elim (cases_Bool (fills a s)) [
      | inl at ↦ let one : counted (has_address a s) ≡ 1 = ap counted (both _ _ at).0 in absurd (omega arith)
      | inr off ↦ rw off (no_filler a ss (omega arith))
    ]

or_none : (o : Option Segment) → option_or o None ≡ o
or_none None = refl
or_none (Some s) = refl

-- the last of the first n + 1 segments is s
first_more : (segments : List Segment) (n a : ℕ) (s : Segment) → n < length segments → s ≡ get_or segments n s → find (fills a) (take (n + 1) segments) ≡ option_or (find (fills a) (take n segments)) (cond (fills a s) (Some s) None)
first_more segments n a s inside is =
    ap (find (fills a)) (take_more segments n s inside ∙ ap (λ x. take n segments ++ x ∷ []) (sym is))
    ∙ find-append (fills a) (take n segments) (s ∷ [])

filler-yes : (segments : List Segment) (n a : ℕ) (s : Segment) → n < length segments → s ≡ get_or segments n s → fills a s ≡ true → sharers segments a ≤ 1 → find (fills a) (take (n + 1) segments) ≡ Some s
filler-yes segments n a s inside is test one =
    let has : has_address a (get_or segments n s) ≡ true = ap (has_address a) (sym is) ∙ (both _ _ test).0 in
    let none : sharers (take n segments) a ≡ 0 = omega (arith, count_by_more_yes (has_address a) segments n s inside has, sum_by-take-le (λ x. counted (has_address a x)) segments (n + 1)) in
    first_more segments n a s inside is ∙ ap (λ o. option_or o (cond (fills a s) (Some s) None)) (no_filler a (take n segments) none)
    ∙ ap (λ b. cond b (Some s) None) test

filler-no : (segments : List Segment) (n a : ℕ) (s : Segment) → n < length segments → s ≡ get_or segments n s → fills a s ≡ false → find (fills a) (take (n + 1) segments) ≡ find (fills a) (take n segments)
filler-no segments n a s inside is test =
    first_more segments n a s inside is ∙ ap (λ b. option_or (find (fills a) (take n segments)) (cond b (Some s) None)) test ∙ or_none _

-- what an address holds once s is copied
abbrev copied_byte : (file old : List ℕ) (s : Segment) (a : ℕ) → Bool → ℕ
copied_byte file old s a filled = cond filled (get_or file (s.offset + (a - s.address)) 0) (get_or old a 0)

-- if no two segments share an address, a memory with the next segment copied is filled by one more segment
pub filled-more : (file : List ℕ) (segments : List Segment) (size n : ℕ) (s : Segment) (old new : List ℕ) → overlap size segments ≡ false → n < length segments → s ≡ get_or segments n s
    → length new ≡ length old → ((a : ℕ) → a < length old → get_or new a 0 ≡ copied_byte file old s a (fills a s))
    → IsFilled file segments size n old → IsFilled file segments size (n + 1) new
filled-more file segments size n s old new apart inside is long copied f = record {
  whole = long ∙ f.whole;
  bytes = λ a fits.
      copied a (omega (arith, f.whole)) ∙ elim (cases_Bool (fills a s)) [
        | inl at ↦ ap (copied_byte file old s a) at ∙ sym (ap (byte_from file a) (filler-yes segments n a s inside is at (overlap-apart size a segments apart fits)))
        | inr off ↦ ap (copied_byte file old s a) off ∙ f.bytes a fits ∙ sym (ap (byte_from file a) (filler-no segments n a s inside is off))
      ];
}

-- a memory that is filled by all segments is the memory of the file
pub filled-all : (file : List ℕ) (segments : List Segment) (size n : ℕ) (memory : List ℕ) → length segments ≤ n → IsFilled file segments size n memory → memory ≡ memory_of file segments size
filled-all file segments size n memory all f =
    let whole : take n segments ≡ segments = take_all n segments all in
    let P : List Segment → Type 0 = λ xs. (a : ℕ) → a < size → get_or memory a 0 ≡ byte_at file xs a in
    fill_by_all (byte_at file segments) memory size 0 f.whole (subst P whole f.bytes)
