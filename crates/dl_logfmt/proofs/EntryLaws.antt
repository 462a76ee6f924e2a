-- Reading an entry of a section undoes writing it.
use Rattle.std.proofs.Common.{◌≡◌, ℕ, zero, suc, ◌<◌, ◌≤◌, ◌^◌, ◌==◌, ◌||◌, Bool, true, false, List, [], ◌∷◌, ◌++◌, All, Contains, length, get_or, nat_le, nat_lt, inl, inr, if◌then◌else◌, refl, ap, sym, ◌∙◌, append-nil, append_assoc, arith, eq-eqb, lit<}
use Rattle.std.specs.Bool.{Decides}
use Rattle.std.specs.List.{list_any}
use Rattle.std.proofs.Math.Nat.{le_trans}
use Rattle.std.proofs.lemmas.Bool.{leb-true, le-leb, ltb-true, lt-ltb, eqb-true, or_cases, and_parts, and_from}
use Rattle.std.proofs.lemmas.Bool.Decides.{Decides-or, Decides-and, Decides-ltb, Decides-eqb}
use Rattle.std.proofs.lemmas.List.Elements.{All-contains, All-from_recursion}
use Rattle.spec_log.specs.Bytes.{little, u8, u16, u32, counted_bytes, size_bytes, short_size_bytes, interrupt_bytes, input_bytes, dma_bytes}
use Rattle.spec_log.specs.Log.{ComesBefore, IsShortSize, IsInterrupt, AreFewBytes, input_kinds, IsInput, IsDmaRecord}
use Rattle.spec_log.specs.Versions.{IsVersion, IsStandard, most_standard, size_width}
use Rattle.spec_log.specs.declared.shape.Shape.{Shape}
use Rattle.spec_log.specs.Fields.{Reader, read, gives, raw, number, field, any, at_most, from_to}
use Rattle.spec_log.specs.Reading.{thread, is_earlier, size, short_size, interrupt, counted, input, dma}
use Rattle.dl_logfmt.proofs.ByteNumbers.{IsByte}
use Rattle.dl_logfmt.proofs.Codes.{Codes, Codes-as, Codes-read, Codes-gives, Codes-number, Codes-raw}

-- a part of the values X: how it stands in them, how it is read and written, and which are good
record Part (X A : Type 0) : Type 1 where
  of : X → A
  reader : Reader A
  bytes_of : A → List ℕ
  good : A → Type 0
  codes : Codes reader bytes_of good

-- reading a value of two parts, one after the other, undoes writing it
Codes-two : {A B X : Type 0} (a : Part X A) (b : Part X B) (make : A → B → X)
    → ((x : A) (y : B) → (a.of (make x y) ≡ x) × (b.of (make x y) ≡ y)) → ((z : X) → z ≡ make (a.of z) (b.of z))
    → Codes (read a.reader (λ x. read b.reader (λ y. gives (make x y)))) (λ z. a.bytes_of (a.of z) ++ b.bytes_of (b.of z)) (λ z. a.good (a.of z) × b.good (b.of z))
Codes-two {A} {B} {X} a b make parts whole =
    Codes-read a.reader (λ x. read b.reader (λ y. gives (make x y))) a.of a.bytes_of a.good (λ z. b.bytes_of (b.of z)) (λ z. b.good (b.of z)) a.codes
    (λ x g. Codes-as (read b.reader (λ y. gives (make x y))) (λ z. b.bytes_of (b.of z) ++ []) (λ z. b.bytes_of (b.of z)) (λ z. b.good (b.of z) × (a.of z ≡ x)) _
    (Codes-read b.reader (λ y. gives (make x y)) b.of b.bytes_of b.good (λ z. []) (λ z. a.of z ≡ x) b.codes
    (λ y h. Codes-gives (make x y) (λ z. (b.of z ≡ y) × (a.of z ≡ x)) ((parts x y).1, (parts x y).0)
    (λ z e. whole z ∙ (ap (λ (w : A). make w (b.of z)) e.1 ∙ ap (make x) e.0))))
    (λ z h. append-nil (b.bytes_of (b.of z))) (λ z h. (h.1, h.0)) (λ z h. (h.1, h.0)))

-- reading a value of three parts, one after the other, undoes writing it
Codes-three : {A B C X : Type 0} (a : Part X A) (b : Part X B) (c : Part X C) (make : A → B → C → X)
    → ((x : A) (y : B) (z : C) → (a.of (make x y z) ≡ x) × (b.of (make x y z) ≡ y) × (c.of (make x y z) ≡ z))
    → ((v : X) → v ≡ make (a.of v) (b.of v) (c.of v))
    → Codes (read a.reader (λ x. read b.reader (λ y. read c.reader (λ z. gives (make x y z)))))
    (λ v. a.bytes_of (a.of v) ++ b.bytes_of (b.of v) ++ c.bytes_of (c.of v)) (λ v. a.good (a.of v) × b.good (b.of v) × c.good (c.of v))
Codes-three {A} {B} {C} {X} a b c make parts whole =
    Codes-as _ (λ v. a.bytes_of (a.of v) ++ (b.bytes_of (b.of v) ++ (c.bytes_of (c.of v) ++ []))) _ (λ v. a.good (a.of v) × (b.good (b.of v) × c.good (c.of v))) _
    (Codes-read a.reader (λ x. read b.reader (λ y. read c.reader (λ z. gives (make x y z)))) a.of a.bytes_of a.good
    (λ v. b.bytes_of (b.of v) ++ (c.bytes_of (c.of v) ++ [])) (λ v. b.good (b.of v) × c.good (c.of v)) a.codes
    (λ x g. Codes-as (read b.reader (λ y. read c.reader (λ z. gives (make x y z)))) _ _ (λ v. b.good (b.of v) × ((a.of v ≡ x) × c.good (c.of v))) _
    (Codes-read b.reader (λ y. read c.reader (λ z. gives (make x y z))) b.of b.bytes_of b.good (λ v. c.bytes_of (c.of v) ++ []) (λ v. (a.of v ≡ x) × c.good (c.of v)) b.codes
    (λ y h. Codes-as (read c.reader (λ z. gives (make x y z))) _ _ (λ v. c.good (c.of v) × ((a.of v ≡ x) × (b.of v ≡ y))) _
    (Codes-read c.reader (λ z. gives (make x y z)) c.of c.bytes_of c.good (λ v. []) (λ v. (a.of v ≡ x) × (b.of v ≡ y)) c.codes
    (λ z i. Codes-gives (make x y z) (λ v. (c.of v ≡ z) × ((a.of v ≡ x) × (b.of v ≡ y))) ((parts x y z).2, ((parts x y z).0, (parts x y z).1))
    (λ v e. whole v ∙ (ap (λ (w : A). make w (b.of v) (c.of v)) e.1.0 ∙ (ap (λ (w : B). make x w (c.of v)) e.1.1 ∙ ap (make x y) e.0)))))
    (λ v j. refl) (λ v j. (j.1.1, (j.1.0, j.0))) (λ v j. (j.1.1, (j.1.0, j.0)))))
    (λ v j. refl) (λ v j. (j.1.0, (j.0, j.1.1))) (λ v j. (j.1.0, (j.0, j.1.1)))))
    (λ v j. rw (append-nil (c.bytes_of (c.of v))) (sym (append_assoc (a.bytes_of (a.of v)) (b.bytes_of (b.of v)) (c.bytes_of (c.of v)))))
    (λ v j. (j.0, j.1.0, j.1.1)) (λ v j. (j.0, (j.1, j.2)))

-- a number, with what its test says
pub Codes-field : (width : ℕ) (fault : ℕ) (test : ℕ → Bool) (is : ℕ → Type 0) → ((x : ℕ) → test x ≡ true → x < 256 ^ width → is x)
    → ((x : ℕ) → is x → (x < 256 ^ width) × (test x ≡ true)) → Codes (number width fault test) (little width) is
Codes-field width fault test is to from =
    Codes-as (number width fault test) (little width) (little width) _ is (Codes-number width fault test)
    (λ x h. refl) (λ x h. to x h.1 h.0) from

pub Codes-u32 : Codes (any 4) u32 (λ x. x < 2 ^ 32)
Codes-u32 = Codes-field 4 5 (λ x. true) (λ x. x < 2 ^ 32) (λ x h l. l) (λ x h. (h, refl))

-- a log's version has so many threads and such standard chunks
abbrev pub IsShape : Shape → Type 0
IsShape shape = IsVersion shape.version shape.threads × IsStandard shape.version shape.s

-- no log may have more than 63 threads
pub few-threads : (version threads : ℕ) → IsVersion version threads → threads ≤ 63
few-threads version threads (inl first) = omega (arith, first.1)
few-threads version threads (inr (second, inl few)) = omega (arith, few)
few-threads version threads (inr (second, inr many)) = omega (arith, many)

-- the threads fit in a byte, and the sizes in the bytes that the version has for them
pub record FitsBytes (shape : Shape) : Type 0 where
  pub threads : shape.threads ≤ 63
  pub sizes : shape.s ≤ most_standard shape.version

-- a good shape's threads and sizes fit in the bytes that its version has for them
pub shape-fits : (shape : Shape) → IsShape shape → FitsBytes shape
shape-fits shape good = record { threads = few-threads shape.version shape.threads good.0; sizes = good.1.1 }

pub Codes-thread : (shape : Shape) → FitsBytes shape → Codes (thread shape) u8 (λ t. t < shape.threads)
Codes-thread shape fits =
    let few = fits.threads in
    Codes-field 1 5 (λ t. nat_lt t shape.threads) (λ t. t < shape.threads) (λ t h l. ltb-true t shape.threads h)
    (λ t h. (omega (arith, h, few), lt-ltb t shape.threads h))

Codes-counted : Codes counted counted_bytes AreFewBytes
Codes-counted =
    Codes-read (field 2 (at_most 4096)) raw length u16 (λ n. n ≤ 4096) (λ bytes. bytes) (All IsByte)
    (Codes-field 2 5 (at_most 4096) (λ n. n ≤ 4096) (λ n h l. leb-true n 4096 h) (λ n h. (omega arith, le-leb n 4096 h)))
    (λ n h. Codes-as (raw n) (λ bytes. bytes) (λ bytes. bytes) _ _ (Codes-raw n) (λ x j. refl) (λ x j. (sym j.0, j.1)) (λ x j. (sym j.0, j.1)))

-- the parts that several entries have: a thread, a number of 32 bits, and bytes with their count
abbrev thread_part : {X : Type 0} (shape : Shape) → FitsBytes shape → (X → ℕ) → Part X ℕ
thread_part shape fits of = record { of = of; reader = thread shape; bytes_of = u8; good = λ t. t < shape.threads; codes = Codes-thread shape fits }

abbrev u32_part : {X : Type 0} → (X → ℕ) → Part X ℕ
u32_part of = record { of = of; reader = any 4; bytes_of = u32; good = λ x. x < 2 ^ 32; codes = Codes-u32 }

abbrev bytes_part : {X : Type 0} → (X → List ℕ) → Part X (List ℕ)
bytes_part of = record { of = of; reader = counted; bytes_of = counted_bytes; good = AreFewBytes; codes = Codes-counted }

-- the test whether an entry comes before another by thread and index says so just where it does
pub Decides-earlier : (t i u j : ℕ) → Decides (is_earlier t i u j) (ComesBefore t i u j)
Decides-earlier t i u j =
    Decides-or _ _ (Decides-ltb t u) (Decides-and _ _ (Decides-eqb t u) (Decides-ltb i j))

-- a size fits in the bytes that a version has for it
size-fits : (version size : ℕ) → size ≤ most_standard version → size < 256 ^ size_width version
size-fits version size h = fits (version == 1) h where
  fits : (first : Bool) → size ≤ (if first then 4096 else 65536) → size < 256 ^ (if first then 2 else 4)
  fits true h = omega (arith, h)
  fits false h = omega (arith, h)

-- reading a size undoes writing it
pub Codes-size : (shape : Shape) → FitsBytes shape → Codes (size shape) (size_bytes shape.version) (λ n. n ≤ shape.s)
Codes-size shape fits =
    Codes-field (size_width shape.version) 5 (at_most shape.s) (λ n. n ≤ shape.s) (λ n h l. leb-true n shape.s h)
    (λ n h. (size-fits shape.version n (le_trans h fits.sizes), le-leb n shape.s h))

-- reading a short size undoes writing it
pub Codes-short_size : (shape : Shape) → FitsBytes shape → Codes (short_size shape) (short_size_bytes shape.version) (IsShortSize shape.threads shape.s)
Codes-short_size shape fits =
    Codes-as (short_size shape) (short_size_bytes shape.version) (short_size_bytes shape.version) _ (IsShortSize shape.threads shape.s)
    (Codes-three (thread_part shape fits (λ x. x.thread)) (u32_part (λ x. x.index))
    (record { of = λ x. x.size; reader = field (size_width shape.version) (from_to 1 shape.s); bytes_of = size_bytes shape.version; good = λ size. (1 ≤ size) × (size ≤ shape.s); codes = Codes-over_0 shape.version shape.s fits.sizes })
    (λ t i size. record { thread = t; index = i; size = size }) (λ t i size. (refl, refl, refl)) (λ x. refl))
    (λ x h. refl) (λ x h. (h.0, h.1, h.2.0, h.2.1)) (λ x h. (h.0, h.1, (h.2, h.3))) where
      Codes-over_0 : (v s : ℕ) → s ≤ most_standard v → Codes (field (size_width v) (from_to 1 s)) (size_bytes v) (λ size. (1 ≤ size) × (size ≤ s))
      Codes-over_0 v s small =
          Codes-field (size_width v) 5 (from_to 1 s) (λ size. (1 ≤ size) × (size ≤ s))
          (λ x h l. let p = and_parts (nat_le 1 x) (nat_le x s) h in (leb-true 1 x p.0, leb-true x s p.1))
          (λ x h. (size-fits v x (le_trans h.1 small), and_from (nat_le 1 x) (nat_le x s) (le-leb 1 x h.0) (le-leb x s h.1)))

-- reading an interrupt undoes writing it
pub Codes-interrupt : (shape : Shape) → FitsBytes shape → Codes (interrupt shape) interrupt_bytes (IsInterrupt shape.threads)
Codes-interrupt shape fits =
    Codes-three (thread_part shape fits (λ x. x.thread)) (u32_part (λ x. x.index)) (u32_part (λ x. x.value))
    (λ t i value. record { thread = t; index = i; value = value }) (λ t i value. (refl, refl, refl)) (λ x. refl)

any-contains : (xs : List ℕ) (x : ℕ) → list_any (λ k. k == x) xs ≡ true → Contains xs x
any-contains [] x h = cc
any-contains (y ∷ ys) x h =
    elim (or_cases (y == x) (list_any (λ k. k == x) ys) h) [
      | inl e ↦ (0, omega arith, eqb-true y x e)
      | inr e ↦ let c = any-contains ys x e in (suc c.0, omega (arith, c.1), c.2)
    ]

contains-any : (xs : List ℕ) (x : ℕ) (k : ℕ) → k < length xs → get_or xs k x ≡ x → list_any (λ k. k == x) xs ≡ true
contains-any [] x k h e = absurd (omega arith)
contains-any (y ∷ ys) x zero h e = rw (eq-eqb y x e) refl
contains-any (y ∷ ys) x (suc k) h e = rw (contains-any ys x k (omega arith) e) (or-true (y == x)) where
  or-true : (b : Bool) → (b || true) ≡ true
  or-true b = elim b as (λ b. (b || true) ≡ true) [ true ↦ refl | false ↦ refl ]

kinds-small : (x : ℕ) → Contains input_kinds x → x < 256
kinds-small x h =
    All-contains (λ k. k < 256) input_kinds x
    (All-from_recursion (λ k. k < 256) input_kinds (lit< tt, (lit< tt, (lit< tt, (lit< tt, (lit< tt, (lit< tt, tt)))))))
    h

-- reading an input undoes writing it
pub Codes-input : Codes input input_bytes IsInput
Codes-input =
    Codes-three
    (record {
      of = λ x. x.kind;
      reader = field 1 (λ kind. list_any (λ k. k == kind) input_kinds);
      bytes_of = u8;
      good = Contains input_kinds;
      codes = Codes-field 1 5 (λ kind. list_any (λ k. k == kind) input_kinds) (Contains input_kinds) (λ x h l. any-contains input_kinds x h)
          (λ x h. (kinds-small x h, contains-any input_kinds x h.0 h.1 h.2));
    })
    (u32_part (λ x. x.result)) (bytes_part (λ x. x.bytes))
    (λ kind answer content. record { kind = kind; result = answer; bytes = content }) (λ kind answer content. (refl, refl, refl)) (λ x. refl)

-- reading a DMA's record undoes writing it
pub Codes-dma : Codes dma dma_bytes IsDmaRecord
Codes-dma =
    Codes-two (u32_part (λ x. x.position)) (bytes_part (λ x. x.bytes)) (λ position content. record { position = position; bytes = content })
    (λ position content. (refl, refl)) (λ x. refl)
