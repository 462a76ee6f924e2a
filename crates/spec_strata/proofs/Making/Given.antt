-- The sizes that chunks are given, where each commit has a size: they are sizes of short chunks, in order.
use Rattle.std.proofs.Common.{◌≡◌, ℕ, zero, suc, ◌+◌, ◌-◌, ◌<◌, ◌≤◌, ◌⊎◌, inl, inr, List, [], ◌∷◌, ◌++◌, length, Some, refl, sym, ap, ◌∙◌, subst, add-one, arith}
use Rattle.std.specs.Prelude.{◌^◌, slice_get, get_or, All}
use Rattle.std.specs.List.{AllAdjacentBelow}
use Rattle.std.proofs.lemmas.Bool.{cases_Bool}
use Rattle.std.proofs.lemmas.List.{length-append}
use Rattle.std.proofs.lemmas.List.Elements.{All-nil, All-cons, All-append, All-head, All-tail}
use Rattle.dl_entry.specs.declared.Commit.{Commit}
use Rattle.dl_entry.specs.declared.CommitKind.{CommitKind}
use Rattle.spec_log.specs.declared.ShortSize.{ShortSize}
use Rattle.spec_log.specs.Log.{ComesBefore, IsShortSize, AreShortSizes}
use Rattle.spec_log.specs.Size.{is_thread}
use Rattle.spec_strata.specs.Making.{chunk_size, chunk_sizes}
use Rattle.spec_strata.proofs.Making.Commits.{own, own-is, own-isnt}
use Rattle.spec_strata.proofs.Making.Sizes.{all_sizes, sizes-is, sizes-isnt, next-sizes}

-- ---- each of them

-- the chunks among a thread's commits have sizes in the range
abbrev pub HaveSizes : (s : ℕ) → List Commit → Type 0
HaveSizes s cs = (n : ℕ) (c : Commit) → slice_get cs n ≡ Some c → c.kind ≡ CommitKind.Chunk → (1 ≤ c.size) × (c.size ≤ s)

one-good : (threads s k i : ℕ) (c : Commit) (kind : CommitKind) → c.kind ≡ kind → k < threads → i < 2 ^ 32 → (c.kind ≡ CommitKind.Chunk → (1 ≤ c.size) × (c.size ≤ s))
    → All (IsShortSize threads s) (chunk_size k i c)
one-good threads s k i c CommitKind.Chunk is below few good =
    let g = good is in
    rw is (All-cons (IsShortSize threads s) (record { thread = k; index = i; size = c.size }) [] (below, few, g.0, g.1) (All-nil (IsShortSize threads s)))
one-good threads s k i c CommitKind.Serial is below few good = rw is (All-nil (IsShortSize threads s))
one-good threads s k i c CommitKind.Dma is below few good = rw is (All-nil (IsShortSize threads s))
one-good threads s k i c CommitKind.Piece is below few good = rw is (All-nil (IsShortSize threads s))

thread-good : (threads s k i : ℕ) (cs : List Commit) → k < threads → i + length (own k cs) ≤ 2 ^ 24 → HaveSizes s (own k cs) → All (IsShortSize threads s) (chunk_sizes k i cs)
thread-good threads s k i [] below few have = All-nil (IsShortSize threads s)
thread-good threads s k i (c ∷ cs) below few have =
    elim (cases_Bool (is_thread k c.actor)) [
      | inl is ↦ (
          let n = ap (λ (xs : List Commit). length xs) (own-is k c cs is) in
          subst (All (IsShortSize threads s)) (sym (sizes-is k i c cs is))
          (All-append (IsShortSize threads s) (chunk_size k i c) (chunk_sizes k (suc i) cs)
          (one-good threads s k i c c.kind refl below (omega (arith, few, n)) (have 0 c (ap (λ (xs : List Commit). slice_get xs 0) (own-is k c cs is))))
          (thread-good threads s k (suc i) cs below (omega (arith, few, n)) (λ j d there. have (suc j) d (ap (λ (xs : List Commit). slice_get xs (suc j)) (own-is k c cs is) ∙ there))))
          )
      | inr is ↦ (
          let n = ap (λ (xs : List Commit). length xs) (own-isnt k c cs is) in
          subst (All (IsShortSize threads s)) (sym (sizes-isnt k i c cs is))
          (thread-good threads s k i cs below (omega (arith, few, n)) (λ j d there. have j d (ap (λ (xs : List Commit). slice_get xs j) (own-isnt k c cs is) ∙ there)))
          )
    ]

all-good : (threads s from n : ℕ) (cs : List Commit) → from + n ≤ threads → ((k : ℕ) → length (own k cs) ≤ 2 ^ 24) → ((k : ℕ) → HaveSizes s (own k cs)) → All (IsShortSize threads s) (all_sizes from n cs)
all-good threads s from zero cs most few have = All-nil (IsShortSize threads s)
all-good threads s from (suc n) cs most few have =
    let l = few from in
    subst (All (IsShortSize threads s)) (sym (next-sizes from n cs))
    (All-append (IsShortSize threads s) (chunk_sizes from 0 cs) (all_sizes (suc from) n cs)
    (thread-good threads s from 0 cs (omega (arith, most)) (omega (arith, l)) (have from))
    (all-good threads s (suc from) n cs (omega (arith, most)) few have))

-- ---- how many they are

one-most : (k i : ℕ) (c : Commit) (kind : CommitKind) → c.kind ≡ kind → length (chunk_size k i c) ≤ 1
one-most k i c CommitKind.Chunk is = rw is (omega arith)
one-most k i c CommitKind.Serial is = rw is (omega arith)
one-most k i c CommitKind.Dma is = rw is (omega arith)
one-most k i c CommitKind.Piece is = rw is (omega arith)

thread-most : (k i : ℕ) (cs : List Commit) → length (chunk_sizes k i cs) ≤ length cs
thread-most k i [] = omega arith
thread-most k i (c ∷ cs) =
    elim (cases_Bool (is_thread k c.actor)) [
      | inl is ↦ (
          let a = ap (λ (xs : List ShortSize). length xs) (sizes-is k i c cs is) in
          let b = length-append (chunk_size k i c) (chunk_sizes k (suc i) cs) in
          let one = one-most k i c c.kind refl in
          let rest = thread-most k (suc i) cs in omega (arith, a, b, one, rest)
          )
      | inr is ↦ (let a = ap (λ (xs : List ShortSize). length xs) (sizes-isnt k i c cs is) in let rest = thread-most k i cs in omega (arith, a, rest))
    ]

-- so many times so many
abbrev times : ℕ → ℕ → ℕ
times zero m = 0
times (suc n) m = m + times n m

all-most : (from n : ℕ) (cs : List Commit) → length (all_sizes from n cs) ≤ times n (length cs)
all-most from zero cs = omega arith
all-most from (suc n) cs =
    let a = ap (λ (xs : List ShortSize). length xs) (next-sizes from n cs) in
    let b = length-append (chunk_sizes from 0 cs) (all_sizes (suc from) n cs) in
    let one = thread-most from 0 cs in
    let rest = all-most (suc from) n cs in omega (arith, a, b, one, rest)

times-most : (n m l : ℕ) → m ≤ l → times n m ≤ times n l
times-most zero m l h = omega arith
times-most (suc n) m l h = let rest = times-most n m l h in omega (arith, h, rest)

times-grow : (n a m : ℕ) → times n m ≤ times (a + n) m
times-grow n zero m = let e : 0 + n ≡ n = omega arith in let g = ap (λ (i : ℕ). times i m) e in omega (arith, g)
times-grow n (suc a) m = let rest = times-grow n a m in let e : suc a + n ≡ suc (a + n) = omega arith in let g = ap (λ (i : ℕ). times i m) e in omega (arith, rest, g)

-- ---- their order

abbrev Before : ShortSize → ShortSize → Type 0
Before x y = ComesBefore x.thread x.index y.thread y.index

-- thread k's moment i, or one after it
abbrev From : (k i : ℕ) → ShortSize → Type 0
From k i x = (k < x.thread) ⊎ ((k ≡ x.thread) × (i ≤ x.index))

-- each comes before all after it
abbrev Rising : List ShortSize → Type 0
Rising [] = Unit {0}
Rising (x ∷ xs) = All (From x.thread (suc x.index)) xs × Rising xs

weaker : (k i j m : ℕ) → (k < j) ⊎ ((k ≡ j) × (i ≤ m)) → (xs : List ShortSize) → All (From j m) xs → All (From k i) xs
weaker k i j m h xs all = λ n d l. each (slice-at n d) (all n d l)
  where
    slice-at : ℕ → ShortSize → ShortSize
    slice-at n d = get_or xs n d

    each : (x : ShortSize) → From j m x → From k i x
    each x is = elim h [
      | inl a ↦ elim is [ inl b ↦ inl (omega (arith, a, b)) | inr b ↦ (let e = b.0 in inl (omega (arith, a, e))) ]
      | inr a ↦ (let e = a.0 in let f = a.1 in elim is [ inl b ↦ inl (omega (arith, e, b)) | inr b ↦ (let g = b.0 in let o = b.1 in inr (omega (arith, e, g), omega (arith, f, o))) ])
    ]

rising-join : (k : ℕ) (xs ys : List ShortSize) → All (λ x. x.thread ≡ k) xs → All (From (suc k) 0) ys → Rising xs → Rising ys → Rising (xs ++ ys)
rising-join k [] ys own_ later a b = b
rising-join k (x ∷ xs) ys own_ later a b =
    let t : x.thread ≡ k = All-head (λ (z : ShortSize). z.thread ≡ k) x xs own_ in (
      All-append (From x.thread (suc x.index)) xs ys a.0 (weaker x.thread (suc x.index) (suc k) 0 (inl (omega (arith, t))) ys later),
      rising-join k xs ys (All-tail (λ (z : ShortSize). z.thread ≡ k) x xs own_) later a.1 b,
    )

one-own : (k i : ℕ) (c : Commit) (kind : CommitKind) → c.kind ≡ kind → All (λ x. (x.thread ≡ k) × (x.index ≡ i)) (chunk_size k i c)
one-own k i c CommitKind.Chunk is = rw is (All-cons (λ (x : ShortSize). (x.thread ≡ k) × (x.index ≡ i)) (record { thread = k; index = i; size = c.size }) [] (refl, refl) (All-nil (λ (x : ShortSize). (x.thread ≡ k) × (x.index ≡ i))))
one-own k i c CommitKind.Serial is = rw is (All-nil (λ (x : ShortSize). (x.thread ≡ k) × (x.index ≡ i)))
one-own k i c CommitKind.Dma is = rw is (All-nil (λ (x : ShortSize). (x.thread ≡ k) × (x.index ≡ i)))
one-own k i c CommitKind.Piece is = rw is (All-nil (λ (x : ShortSize). (x.thread ≡ k) × (x.index ≡ i)))

-- a thread's own sizes, from its commit i on
abbrev Own : (k i : ℕ) → ShortSize → Type 0
Own k i x = (x.thread ≡ k) × (i ≤ x.index)

thread-own : (k i : ℕ) (cs : List Commit) → All (Own k i) (chunk_sizes k i cs)
thread-own k i [] = All-nil (Own k i)
thread-own k i (c ∷ cs) =
    elim (cases_Bool (is_thread k c.actor)) [
      | inl is ↦ subst (All (Own k i)) (sym (sizes-is k i c cs is))
          (All-append (Own k i) (chunk_size k i c) (chunk_sizes k (suc i) cs)
          (λ n d l. let h = one-own k i c c.kind refl n d l in let e = h.1 in (h.0, omega (arith, e)))
          (λ n d l. let h = thread-own k (suc i) cs n d l in let e = h.1 in (h.0, omega (arith, e))))
      | inr is ↦ subst (All (Own k i)) (sym (sizes-isnt k i c cs is)) (thread-own k i cs)
    ]

-- one in front of later ones of its thread
one-front : (k i : ℕ) (c : Commit) (kind : CommitKind) (ys : List ShortSize) → c.kind ≡ kind → All (Own k (suc i)) ys → Rising ys → Rising (chunk_size k i c ++ ys)
one-front k i c CommitKind.Chunk ys is own_ r = rw is ((λ n d l. let h = own_ n d l in let e = h.0 in inr (omega (arith, e), h.1)), r)
one-front k i c CommitKind.Serial ys is own_ r = rw is r
one-front k i c CommitKind.Dma ys is own_ r = rw is r
one-front k i c CommitKind.Piece ys is own_ r = rw is r

thread-rising : (k i : ℕ) (cs : List Commit) → Rising (chunk_sizes k i cs)
thread-rising k i [] = tt
thread-rising k i (c ∷ cs) =
    elim (cases_Bool (is_thread k c.actor)) [
      | inl is ↦ subst Rising (sym (sizes-is k i c cs is))
          (one-front k i c c.kind (chunk_sizes k (suc i) cs) refl (thread-own k (suc i) cs) (thread-rising k (suc i) cs))
      | inr is ↦ subst Rising (sym (sizes-isnt k i c cs is)) (thread-rising k i cs)
    ]

all-from : (from n : ℕ) (cs : List Commit) → All (From from 0) (all_sizes from n cs)
all-from from zero cs = All-nil (From from 0)
all-from from (suc n) cs =
    subst (All (From from 0)) (sym (next-sizes from n cs))
    (All-append (From from 0) (chunk_sizes from 0 cs) (all_sizes (suc from) n cs)
    (λ j d l. let h = thread-own from 0 cs j d l in let e = h.0 in inr (omega (arith, e), h.1))
    (weaker from 0 (suc from) 0 (inl (omega arith)) (all_sizes (suc from) n cs) (all-from (suc from) n cs)))

all-rising : (from n : ℕ) (cs : List Commit) → Rising (all_sizes from n cs)
all-rising from zero cs = tt
all-rising from (suc n) cs =
    subst Rising (sym (next-sizes from n cs))
    (rising-join from (chunk_sizes from 0 cs) (all_sizes (suc from) n cs)
    (λ j d l. (thread-own from 0 cs j d l).0)
    (all-from (suc from) n cs) (thread-rising from 0 cs) (all-rising (suc from) n cs))

-- the same, each against the next
next-before : (xs : List ShortSize) → Rising xs → (k : ℕ) (d : ShortSize) → suc k < length xs → Before (get_or xs k d) (get_or xs (suc k) d)
next-before [] r k d l = absurd (omega (arith, l))
next-before (x ∷ []) r k d l = absurd (omega (arith, l))
next-before (x ∷ y ∷ ys) r zero d l =
    elim (All-head (From x.thread (suc x.index)) y ys r.0) [
      | inl h ↦ inl h
      | inr h ↦ (let e = h.1 in inr (h.0, omega (arith, e)))
    ]
next-before (x ∷ y ∷ ys) r (suc k) d l = next-before (y ∷ ys) r.1 k d (omega (arith, l))

adjacent : (xs : List ShortSize) → Rising xs → AllAdjacentBelow Before xs (length xs)
adjacent xs r k d l =
    subst (λ (n : ℕ). Before (get_or xs k d) (get_or xs n d)) (sym (add-one k)) (next-before xs r k d (omega (arith, l)))

-- ---- all of it

-- the sizes of all threads' chunks, if there are few commits and each chunk's size is in the range
pub given-sizes : (threads s : ℕ) (cs : List Commit) → threads ≤ 63 → length cs ≤ 2 ^ 24 → ((k : ℕ) → length (own k cs) ≤ 2 ^ 24) → ((k : ℕ) → HaveSizes s (own k cs)) → AreShortSizes threads s (all_sizes 0 threads cs)
given-sizes threads s cs most few each have =
    let n = all-most 0 threads cs in
    let a = times-most threads (length cs) (2 ^ 24) few in
    let d : (63 - threads) + threads ≡ 63 = omega (arith, most) in
    let b = times-grow threads (63 - threads) (2 ^ 24) in
    let e : times ((63 - threads) + threads) (2 ^ 24) ≡ times 63 (2 ^ 24) = ap (λ (i : ℕ). times i (2 ^ 24)) d in
    let top : times 63 (2 ^ 24) < 2 ^ 32 = omega arith in
    record {
      few = omega (arith, n, a, b, e, top);
      each = all-good threads s 0 threads cs (omega arith) each have;
      rising = adjacent (all_sizes 0 threads cs) (all-rising 0 threads cs);
    }
