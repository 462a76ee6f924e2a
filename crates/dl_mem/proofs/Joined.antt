-- Pages one after another: a place in them is a place in one page, and what is stored into one is stored into all of them.
use Rattle.std.proofs.Common.{◌≡◌, ℕ, ◌+◌, ◌-◌, ◌*◌, ◌<◌, ◌≤◌, zero, suc, inl, inr, List, [], ◌∷◌, ◌++◌, length, take, drop, get_or, Option, Some, None, refl, ap, sym, ◌∙◌, arith, length-append, take-append-drop, length-drop, get_or-set_other, get_or-set_same}
use Rattle.std.specs.Prelude.{slice_index, slice_set}
use Rattle.std.specs.List.{All, concat}
use Rattle.std.specs.Simd.{first_chunks}
use Rattle.std.proofs.lemmas.Bool.Decides.{eqb_tells}
use Rattle.std.proofs.lemmas.List.{get_or_append_left, get_or-append_right, set-append_left, set-append_right, length-set, length-take-le, nil_from_length, drop-append-le, take-append-le, drop-drop, drop_at}
use Rattle.std.proofs.lemmas.List.Elements.{All-cons}
use Rattle.spec_isa.specs.Words.{with_byte}

-- pages of the same size
abbrev pub AllLong : ℕ → List (List ℕ) → Type 0
AllLong n pages = All (λ page. length page ≡ n) pages

first_long : (n : ℕ) (p : List ℕ) (ps : List (List ℕ)) → AllLong n (p ∷ ps) → length p ≡ n
first_long n p ps h = h 0 [] (omega arith)

rest_long : (n : ℕ) (p : List ℕ) (ps : List (List ℕ)) → AllLong n (p ∷ ps) → AllLong n ps
rest_long n p ps h = λ k d lt. h (suc k) d (omega arith)

-- pages of the same size have that many bytes each
pub length_concat : (n : ℕ) (ps : List (List ℕ)) → AllLong n ps → length (concat ps) ≡ length ps * n
length_concat n [] h = omega arith
length_concat n (p ∷ ps) h =
    let first = first_long n p ps h in
    let rest : length (concat ps) ≡ length ps * n = length_concat n ps (rest_long n p ps h) in
    length-append p (concat ps) ∙ omega arith

-- byte i * n + j of all pages is byte j of page i
pub get_concat : (n : ℕ) (ps : List (List ℕ)) (i j at : ℕ) → AllLong n ps → i < length ps → j < n → at ≡ i * n + j →
    slice_index (concat ps) at ≡ slice_index (get_or ps i []) j
get_concat n [] i j at h lt ltj e = absurd (omega arith)
get_concat n (p ∷ ps) zero j at h lt ltj e =
    let first = first_long n p ps h in
    let place : at ≡ j = omega arith in
    rw place (get_or_append_left p (concat ps) 0 j (omega arith))
get_concat n (p ∷ ps) (suc i) j at h lt ltj e =
    let first = first_long n p ps h in
    get_or-append_right p (concat ps) n at 0 first (omega arith)
    ∙ get_concat n ps i j (at - n) (rest_long n p ps h) (omega arith) ltj (omega arith)

-- bytes from i * n + j on that end in page i are those from j on of that page
pub part_concat : (n : ℕ) (ps : List (List ℕ)) (i j k at : ℕ) → AllLong n ps → i < length ps → j + k ≤ n → at ≡ i * n + j →
    take k (drop at (concat ps)) ≡ take k (drop j (get_or ps i []))
part_concat n [] i j k at h lt ltk e = absurd (omega arith)
part_concat n (p ∷ ps) zero j k at h lt ltk e =
    let first = first_long n p ps h in
    let place : at ≡ j = omega arith in
    let long : k ≤ length (drop j p) = simp length-drop (omega arith) in
    rw (place, drop-append-le j p (concat ps) (omega arith)) (take-append-le k (drop j p) (concat ps) long)
part_concat n (p ∷ ps) (suc i) j k at h lt ltk e =
    let first = first_long n p ps h in
    let place : at ≡ n + (at - n) = omega arith in
    let past : drop at (p ++ concat ps) ≡ drop (at - n) (concat ps) =
    ap (λ (x : ℕ). drop x (p ++ concat ps)) place ∙ sym (drop-drop (at - n) n (p ++ concat ps)) ∙ ap (λ (xs : List ℕ). drop (at - n) xs) (drop_at p (concat ps) n first)
    in
    rw past (part_concat n ps i j k (at - n) (rest_long n p ps h) (omega arith) ltk (omega arith))

-- what is stored at place j of page i, which was q
set_concat : (n : ℕ) (ps : List (List ℕ)) (i j at b : ℕ) (q : List ℕ) → AllLong n ps → i < length ps → j < n → length q ≡ n → at ≡ i * n + j →
    slice_set (concat (slice_set ps i q)) at b ≡ concat (slice_set ps i (slice_set q j b))
set_concat n [] i j at b q h lt ltj lq e = absurd (omega arith)
set_concat n (p ∷ ps) zero j at b q h lt ltj lq e =
    let place : at ≡ j = omega arith in
    rw place (set-append_left q (concat ps) j b (omega arith))
set_concat n (p ∷ ps) (suc i) j at b q h lt ltj lq e =
    let first = first_long n p ps h in
    set-append_right p (concat (slice_set ps i q)) n at b first (omega arith)
    ∙ ap (λ (r : List ℕ). p ++ r) (set_concat n ps i j (at - n) b q (rest_long n p ps h) (omega arith) ltj lq (omega arith))

-- a byte stored into a page, or none, is stored into all pages at that page's place
pub with_byte_concat : (n : ℕ) (ps : List (List ℕ)) (i j at : ℕ) (b : Option ℕ) (q : List ℕ) → AllLong n ps → i < length ps → j < n → length q ≡ n → at ≡ i * n + j →
    with_byte (concat (slice_set ps i q)) at b ≡ concat (slice_set ps i (with_byte q j b))
with_byte_concat n ps i j at None q h lt ltj lq e = refl
with_byte_concat n ps i j at (Some b) q h lt ltj lq e = set_concat n ps i j at b q h lt ltj lq e

-- a page set to another of the same size leaves all pages of that size
pub AllLong-set : (n : ℕ) (ps : List (List ℕ)) (i : ℕ) (q : List ℕ) → AllLong n ps → length q ≡ n → AllLong n (slice_set ps i q)
AllLong-set n ps i q h lq =
    λ k d lt. elim (eqb_tells k i) [
      | inl e ↦ rw (e.1, get_or-set_same ps i q d (rw (← e.1, ← length-set ps i q) lt)) lq
      | inr ne ↦ rw (get_or-set_other ps i k q d ne.1) (h k d (rw (← length-set ps i q) lt))
    ]

-- a list in chunks, one after another, is the list
pub concat_chunks : (n k : ℕ) (xs : List ℕ) → length xs ≡ k * n → concat (first_chunks n k xs) ≡ xs
concat_chunks n zero xs e = sym (nil_from_length xs (omega arith))
concat_chunks n (suc k) xs e =
    let rest : length (drop n xs) ≡ k * n = length-drop n xs ∙ omega arith in
    rw (concat_chunks n k (drop n xs) rest) (take-append-drop n xs)

-- a list cut into chunks that it fills has chunks of that size
pub chunks_long : (n k : ℕ) (xs : List ℕ) → length xs ≡ k * n → AllLong n (first_chunks n k xs)
chunks_long n zero xs e = λ i d lt. absurd (omega arith)
chunks_long n (suc k) xs e =
    let rest : length (drop n xs) ≡ k * n = length-drop n xs ∙ omega arith in
    All-cons (λ page. length page ≡ n) (take n xs) (first_chunks n k (drop n xs)) (length-take-le n xs (omega arith)) (chunks_long n k (drop n xs) rest)
