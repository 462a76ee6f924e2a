-- The file of an assembled program loads as the image of its words.
use Rattle.std.proofs.Common.{◌≡◌, ℕ, ◌+◌, ◌-◌, ◌*◌, ◌^◌, ◌<◌, ◌≤◌, Bool, true, false, cond, eqb, ltb, List, [], ◌∷◌, ◌++◌, length, get_or, replicate, Some, None, Ok, refl, sym, ap, ap₂, ◌∙◌, arith, inl, inr, ◌⊎◌}
use Rattle.std.specs.List.{list_any, list_all, count_by, range_with_len}
use Rattle.std.specs.Option.{option_or}
use Rattle.std.proofs.lemmas.Bool.{cases_lt}
use Rattle.std.proofs.lemmas.Bool.Decides.{nat_tests}
use Rattle.std.proofs.lemmas.List.{length-append, length-replicate, get_or_append_left, get_or-append-add, get_or-append_right, get_or-replicate, get_or_past}
use Rattle.std.proofs.lemmas.Grind.{same_number_lists}
use Rattle.std.proofs.lemmas.List.FromFn.{length-map-range_with_len, get_or-map-range_with_len}
use Rattle.byteorder.specs.Endian.{little_bytes}
use Rattle.byteorder.specs.Numbers.{little_number-reads_back}
use Rattle.dl_elf.specs.declared.segment.Segment.{Segment}
use Rattle.dl_elf.specs.Fields.{word, entry_of}
use Rattle.dl_elf.specs.Images.{IsSize}
use Rattle.dl_elf.specs.Segments.{loaded_of, first_loaded, has_address, fills}
use Rattle.dl_elf.specs.Rules.{has_header, is_elf, is_narrow, is_little, is_program, is_riscv, is_plain, has_table, broken_by_header, broken_by_segments, is_in_file, is_in_memory, overlap, is_entry, broken}
use Rattle.dl_elf.specs.Loading.{byte_from, byte_at, memory_of, image_of, image_by as elf_image_by}
use Rattle.dl_asm.specs.File.{header, placed, allowed, program_header, code_of, file_of, image_by}

-- the file of a code, with its length
abbrev file_with : (code : List ℕ) (n : ℕ) → List ℕ
file_with code n = header ++ program_header n ++ code

front-length : (code : List ℕ) (n : ℕ) → length (file_with code n) ≡ 84 + length code
front-length code n = omega arith

-- ---- the rules on the header

kept-header : (file : List ℕ) → has_header file ≡ true → is_elf file ≡ true → is_narrow file ≡ true → is_little file ≡ true → is_program file ≡ true → is_riscv file ≡ true
    → is_plain file ≡ true → has_table file ≡ true → broken_by_header file ≡ None
kept-header file a b c d e f g h = rw (a, b, c, d, e, f, g, h)

header-kept : (code : List ℕ) (n : ℕ) → broken_by_header (file_with code n) ≡ None
header-kept code n =
    let file = file_with code n in
    let long = front-length code n in
    let whole : has_header file ≡ true = grind (arith, nat_tests) in
    let table : has_table file ≡ true = grind (arith, nat_tests) in
    kept-header file whole refl refl refl refl refl refl table

-- ---- the one segment

abbrev segment : (n : ℕ) → Segment
segment n = record { kind = 1; offset = 84; address = 0; file_size = n; memory_size = n }

sizes : (code : List ℕ) (n : ℕ) → loaded_of (file_with code n) ≡ record { kind = 1; offset = 84; address = 0; file_size = word (file_with code n) 68; memory_size = word (file_with code n) 72 } ∷ []
unfolding first_loaded
sizes code n = refl

one-segment : (code : List ℕ) (n : ℕ) → n < 2 ^ 32 → loaded_of (file_with code n) ≡ segment n ∷ []
one-segment code n l =
    let first : word (file_with code n) 68 ≡ n = little_number-reads_back 4 n (little_bytes 4 n ++ allowed ++ code) l in
    let second : word (file_with code n) 72 ≡ n = little_number-reads_back 4 n (allowed ++ code) l in
    sizes code n ∙ ap₂ (λ f m. record { kind = 1; offset = 84; address = 0; file_size = f; memory_size = m } ∷ []) first second

-- ---- the rules on it

kept-segments : (file : List ℕ) (size entry : ℕ) (segments : List Segment) → list_all (is_in_file file) segments ≡ true → list_all (is_in_memory size) segments ≡ true
    → overlap size segments ≡ false → is_entry size entry ≡ true → eqb (length segments) 0 ≡ false → broken_by_segments file size entry segments ≡ None
kept-segments file size entry segments a b c d e = rw (a, b, c, d, e)

any-none : (p : ℕ → Bool) (xs : List ℕ) → ((x : ℕ) → p x ≡ false) → list_any p xs ≡ false
any-none p [] h = refl
any-none p (x ∷ xs) h = rw (h x) (any-none p xs h)

count-one : (b : Bool) → ltb 1 (0 + cond b 1 0) ≡ false
count-one true = refl
count-one false = refl

alone : (n size : ℕ) → overlap size (segment n ∷ []) ≡ false
unfolding overlap
alone n size = any-none (λ address. ltb 1 (count_by (has_address address) (segment n ∷ []))) (range_with_len 0 size) (λ a. count-one (has_address a (segment n)))

segments-kept : (code : List ℕ) (n size : ℕ) → length code ≡ n → n ≤ size → 4096 ≤ size → broken_by_segments (file_with code n) size 0 (segment n ∷ []) ≡ None
segments-kept code n size e l m =
    let long = front-length code n in
    let in_file : list_all (is_in_file (file_with code n)) (segment n ∷ []) ≡ true = grind (arith, nat_tests) in
    let in_memory : list_all (is_in_memory size) (segment n ∷ []) ≡ true = grind (arith, nat_tests) in
    let entry : is_entry size 0 ≡ true = grind (arith, nat_tests) in
    kept-segments (file_with code n) size 0 (segment n ∷ []) in_file in_memory (alone n size) entry refl

-- ---- the memory

filled : (n a : ℕ) → a < n → fills a (segment n) ≡ true
filled n a l = grind (arith, nat_tests)

not-filled : (n a : ℕ) → n ≤ a → fills a (segment n) ≡ false
not-filled n a l = grind (arith, nat_tests)

zeros-by : (count i : ℕ) → (i < count) ⊎ (count ≤ i) → get_or (replicate {A = ℕ} count 0) i 0 ≡ 0
zeros-by count i (inl l) = get_or-replicate {A = ℕ} count i 0 0 l
zeros-by count i (inr l) = get_or_past (replicate {A = ℕ} count 0) i 0 (omega (arith, l, length-replicate {A = ℕ} count 0))

zeros : (count i : ℕ) → get_or (replicate {A = ℕ} count 0) i 0 ≡ 0
zeros count i = zeros-by count i (cases_lt i count)

get-image : (code : List ℕ) (n size a : ℕ) → length code ≡ n → (a < n) ⊎ (n ≤ a) → byte_at (file_with code n) (segment n ∷ []) a ≡ get_or (code ++ replicate (size - n) 0) a 0
get-image code n size a e (inl l) =
    let file = file_with code n in
    let front = header ++ program_header n in
    let place : 84 + (a - 0) ≡ length front + a = omega arith in
    let inside : a < length code = omega (arith, e) in
    ap (λ b. byte_from file a (cond b (Some (segment n)) None)) (filled n a l) ∙ ap (λ i. get_or file i 0) place ∙ get_or-append-add front code a 0
    ∙ sym (get_or_append_left code (replicate (size - n) 0) 0 a inside)
get-image code n size a e (inr l) =
    ap (λ b. byte_from (file_with code n) a (cond b (Some (segment n)) None)) (not-filled n a l)
    ∙ sym (get_or-append_right code (replicate (size - n) 0) n a 0 e l ∙ zeros (size - n) (a - n))

memory : (code : List ℕ) (n size : ℕ) → length code ≡ n → n ≤ size → memory_of (file_with code n) (segment n ∷ []) size ≡ code ++ replicate (size - n) 0
memory code n size e l =
    let bytes = code ++ replicate (size - n) 0 in
    let at = byte_at (file_with code n) (segment n ∷ []) in
    let loaded = memory_of (file_with code n) (segment n ∷ []) size in
    let long : length loaded ≡ size = length-map-range_with_len at 0 size in
    let whole : length bytes ≡ size = omega (arith, e, length-append code (replicate (size - n) 0), length-replicate {A = ℕ} (size - n) 0) in
    same_number_lists loaded bytes (long ∙ sym whole)
    (λ a m. get_or-map-range_with_len at 0 size a a 0 (omega (arith, m, long)) (omega arith) ∙ get-image code n size a e (cases_lt a n))

-- the file of an assembled program loads as the image of its words
pub loaded-file : (words : List ℕ) (size : ℕ) → length (code_of words) < 2 ^ 32 → IsSize size → length (code_of words) ≤ size → image_of (file_of words) size ≡ Ok (image_by words size)
unfolding file_of
loaded-file words size few is l =
    let code = code_of words in
    let n = length code in
    let file = file_with code n in
    let none : broken file size ≡ None =
    ap (λ o. option_or o (broken_by_segments file size (entry_of file) (loaded_of file))) (header-kept code n)
    ∙ ap (λ segments. broken_by_segments file size 0 segments) (one-segment code n few) ∙ segments-kept code n size refl l is.least in
    ap (elf_image_by file size) none
    ∙ ap (λ bytes. Ok (record { size = size; entry = 0; bytes = bytes })) (ap (λ segments. memory_of file segments size) (one-segment code n few) ∙ memory code n size refl l)

-- ---- its bytes, one part after the other

-- the code has four bytes for each word
pub code-length : (words : List ℕ) → length (code_of words) ≡ 4 * length words
code-length [] = refl
code-length (w ∷ ws) = omega (arith, code-length ws)

-- the file is the header, the code's length twice and the rest around them, and then the code
pub file-parts : (words : List ℕ) (n : ℕ) (s t : List ℕ) → s ≡ little_bytes 4 n → t ≡ little_bytes 4 n → n ≡ length (code_of words)
    → ((((header ++ placed) ++ s) ++ t) ++ allowed) ++ code_of words ≡ file_of words
unfolding file_of
file-parts words n s t e f g =
    ap₂ (λ x y. ((((header ++ placed) ++ x) ++ y) ++ allowed) ++ code_of words) e f ∙ ap (file_with (code_of words)) g
