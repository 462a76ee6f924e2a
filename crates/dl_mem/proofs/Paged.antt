-- The pages of a memory: the word of an address is one of its page, and so is what is stored there.
use Rattle.std.proofs.Common.{◌≡◌, ℕ, ◌+◌, ◌*◌, ◌/◌, ◌%◌, ◌<◌, ◌≤◌, List, [], ◌++◌, length, take, drop, get_or, Option, refl, ap, sym, subst, ◌∙◌, arith}
use Rattle.std.specs.Prelude.{slice_set}
use Rattle.std.specs.List.{concat}
use Rattle.std.specs.Simd.{first_chunks}
use Rattle.std.proofs.lemmas.List.{set-get_or, get_or_read, drop-drop, drop-take, take-take, take-append-drop}
use Rattle.spec_isa.specs.Words.{lay, read, with_byte}
use Rattle.spec_isa.specs.Masks.{bytes_of}
use Rattle.spec_isa.proofs.MemoryLaws.{length_with_byte, length_lay}
use Rattle.dl_mem.specs.Memories.{IsMemory, IsPaged}
use Rattle.dl_mem.proofs.Laid.{IsMemory-lay, lay-from}
use Rattle.dl_mem.proofs.Joined.{AllLong, AllLong-set, length_concat, get_concat, part_concat, with_byte_concat, concat_chunks, chunks_long}

-- pages have 4,096 bytes each
pub length_paged : (ps : List (List ℕ)) → IsPaged ps → length (concat ps) ≡ length ps * 4096
length_paged ps h = length_concat 4096 ps h.whole

-- a word inside a memory lies in one of its pages
pub page_inside : (ps : List (List ℕ)) (addr : ℕ) → IsPaged ps → addr + 4 ≤ length (concat ps) → addr / 4096 < length ps
page_inside ps addr h inside = let long = length_paged ps h in omega arith

-- what is read of the page that an index gave
pub read_paged : (ps : List (List ℕ)) (addr : ℕ) (page : List ℕ) → IsPaged ps → addr % 4 ≡ 0 → addr + 4 ≤ length (concat ps) → page ≡ get_or ps (addr / 4096) page →
    read page (addr % 4096 / 4) ≡ read (concat ps) (addr / 4)
unfolding read
read_paged ps addr page h aligned inside e =
    let i = page_inside ps addr h inside in
    rw (
      get_or_read ps (addr / 4096) page i e [],
      get_concat 4096 ps (addr / 4096) (4 * (addr % 4096 / 4)) (4 * (addr / 4)) h.whole i (omega arith) (omega arith),
      get_concat 4096 ps (addr / 4096) (4 * (addr % 4096 / 4) + 1) (4 * (addr / 4) + 1) h.whole i (omega arith) (omega arith),
      get_concat 4096 ps (addr / 4096) (4 * (addr % 4096 / 4) + 2) (4 * (addr / 4) + 2) h.whole i (omega arith) (omega arith),
      get_concat 4096 ps (addr / 4096) (4 * (addr % 4096 / 4) + 3) (4 * (addr / 4) + 3) h.whole i (omega arith) (omega arith),
    )
    refl

-- the page that an index gave is whole, and set again it changes nothing
long_read : (ps : List (List ℕ)) (i : ℕ) (page : List ℕ) → IsPaged ps → i < length ps → page ≡ get_or ps i page → length page ≡ 4096
long_read ps i page h lt e = rw e (h.whole i page lt)

set_read : (ps : List (List ℕ)) (i : ℕ) (page : List ℕ) → i < length ps → page ≡ get_or ps i page → slice_set ps i page ≡ ps
set_read ps i page lt e = subst (λ (p : List ℕ). slice_set ps i p ≡ ps) (sym e) (set-get_or ps i page)

-- four bytes from a place of a page on
four_concat : (ps : List (List ℕ)) (i j at : ℕ) (p : List ℕ) (b0 b1 b2 b3 : Option ℕ) →
    AllLong 4096 ps → i < length ps → j + 3 < 4096 → length p ≡ 4096 → at ≡ i * 4096 + j →
    with_byte (with_byte (with_byte (with_byte (concat (slice_set ps i p)) at b0) (at + 1) b1) (at + 2) b2) (at + 3) b3
    ≡ concat (slice_set ps i (with_byte (with_byte (with_byte (with_byte p j b0) (j + 1) b1) (j + 2) b2) (j + 3) b3))
four_concat ps i j at p b0 b1 b2 b3 h lt ltj lp e =
    rw (
      with_byte_concat 4096 ps i j at b0 p h lt (omega arith) lp e,
      with_byte_concat 4096 ps i (j + 1) (at + 1) b1 (with_byte p j b0) h lt (omega arith) (simp length_with_byte lp) (omega arith),
      with_byte_concat 4096 ps i (j + 2) (at + 2) b2 (with_byte (with_byte p j b0) (j + 1) b1) h lt (omega arith) (simp length_with_byte lp) (omega arith),
      with_byte_concat 4096 ps i (j + 3) (at + 3) b3 (with_byte (with_byte (with_byte p j b0) (j + 1) b1) (j + 2) b2) h lt (omega arith) (simp length_with_byte lp) (omega arith),
    )
    refl

-- what is stored into the page that an index gave
pub lay_paged : (ps : List (List ℕ)) (addr mask value : ℕ) (page : List ℕ) → IsPaged ps → addr % 4 ≡ 0 → addr + 4 ≤ length (concat ps) → page ≡ get_or ps (addr / 4096) page →
    concat (slice_set ps (addr / 4096) (lay page (bytes_of (addr % 4096 / 4) mask value))) ≡ lay (concat ps) (bytes_of (addr / 4) mask value)
unfolding bytes_of
lay_paged ps addr mask value page h aligned inside e =
    let i = page_inside ps addr h inside in
    let s = bytes_of (addr / 4) mask value in
    let same : concat (slice_set ps (addr / 4096) page) ≡ concat ps = ap concat (set_read ps (addr / 4096) page i e) in
    rw (lay-from page (addr % 4096) mask value (omega arith), lay-from (concat ps) addr mask value aligned, ← same)
    (sym (four_concat ps (addr / 4096) (addr % 4096) addr page s.b0 s.b1 s.b2 s.b3 h.whole i (omega arith) (long_read ps (addr / 4096) page h i e) (omega arith)))

-- a store leaves pages of a memory
pub IsPaged-lay : (ps : List (List ℕ)) (addr mask value : ℕ) (page : List ℕ) → IsPaged ps → addr % 4 ≡ 0 → addr + 4 ≤ length (concat ps) → page ≡ get_or ps (addr / 4096) page →
    IsPaged (slice_set ps (addr / 4096) (lay page (bytes_of (addr % 4096 / 4) mask value)))
IsPaged-lay ps addr mask value page h aligned inside e =
    let i = page_inside ps addr h inside in
    let s = bytes_of (addr % 4096 / 4) mask value in
    record {
      whole = AllLong-set 4096 ps (addr / 4096) (lay page s) h.whole (length_lay page s ∙ long_read ps (addr / 4096) page h i e);
      memory = IsMemory-lay (concat ps) _ (addr / 4) mask value (lay_paged ps addr mask value page h aligned inside e) h.memory;
    }

-- a memory cut into pages
pub IsPaged-chunks : (m : List ℕ) → IsMemory m → IsPaged (first_chunks 4096 (length m / 4096) m)
IsPaged-chunks m h =
    let pages = h.size.pages in
    let long : length m ≡ length m / 4096 * 4096 = omega arith in
    record {
      whole = chunks_long 4096 (length m / 4096) m long;
      memory = rw (concat_chunks 4096 (length m / 4096) m long) h;
    }

-- the pages of a memory, one after another, are the memory
pub concat_paged : (m : List ℕ) → IsMemory m → concat (first_chunks 4096 (length m / 4096) m) ≡ m
concat_paged m h =
    let pages = h.size.pages in
    concat_chunks 4096 (length m / 4096) m (omega arith)

-- n bytes from a place on: some that end in its page, and the others
pub copy_paged : (ps : List (List ℕ)) (at n here others : ℕ) (page : List ℕ) → IsPaged ps → at / 4096 < length ps → at % 4096 + here ≤ 4096 → page ≡ get_or ps (at / 4096) page → others + here ≡ n →
    take here (drop (at % 4096) page) ++ take others (drop (at + here) (concat ps)) ≡ take n (drop at (concat ps))
copy_paged ps at n here others page h lt ends e whole =
    let xs = drop at (concat ps) in
    let front : take here xs ≡ take here (drop (at % 4096) page) =
    rw (get_or_read ps (at / 4096) page lt e []) (part_concat 4096 ps (at / 4096) (at % 4096) here at h.whole lt ends (omega arith))
    in
    let sum : n ≡ here + others = omega arith in
    rw (sum, ← front, ← drop-drop here at (concat ps), ← drop-take here others xs, ← take-take here (here + others) xs (omega arith)) (take-append-drop here (take (here + others) xs))

-- the first of some bytes inside a memory lies in one of its pages
pub first_inside : (ps : List (List ℕ)) (at n : ℕ) → IsPaged ps → at + n ≤ length (concat ps) → 0 < n → at / 4096 < length ps
first_inside ps at n h inside some = let long = length_paged ps h in omega arith
