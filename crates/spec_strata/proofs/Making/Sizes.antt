-- The canonical log of the strata that a log is cut into says what the log says.
use Rattle.std.proofs.Common.{◌≡◌, ◌≢◌, ℕ, zero, suc, ◌+◌, ◌<◌, ◌≤◌, inl, inr, Bool, true, false, List, [], ◌∷◌, ◌++◌, length, Option, Some, None, refl, sym, ap, ◌∙◌, arith}
use Rattle.std.specs.Prelude.{slice_get, nat_eq, ◌&&◌, ◌==◌, find, if◌then◌else◌}
use Rattle.std.specs.List.{flat_map, range_with_len, list_all}
use Rattle.std.specs.Option.{option_or}
use Rattle.std.proofs.lemmas.Bool.{cases_Bool, cases_eq, eq-eqb, ne_eqb, lt-ltb}
use Rattle.std.proofs.lemmas.List.Folds.{find-append, list_all-append}
use Rattle.dl_entry.specs.declared.Commit.{Commit}
use Rattle.dl_entry.specs.declared.CommitKind.{CommitKind}
use Rattle.spec_isa.specs.declared.thread.Parts.{Parts}
use Rattle.spec_log.specs.declared.ShortSize.{ShortSize}
use Rattle.spec_log.specs.Size.{is_thread}
use Rattle.spec_play.specs.Turns.{is_size_used}
use Rattle.spec_strata.specs.Making.{chunk_size, chunk_sizes}
use Rattle.spec_strata.proofs.Making.Commits.{commits_at, own, own-is, own-isnt}

-- ---- the size that is found

-- whether a size is that of thread k's commit i
abbrev pub is_for : (thread index : ℕ) → ShortSize → Bool
is_for k i short = (short.thread == k) && (short.index == i)

-- the size that a commit gives, if it is a chunk's
abbrev pub given_by : (thread index : ℕ) → Option Commit → Option ShortSize
given_by k i None = None
given_by k i (Some c) = elim c.kind [
  | CommitKind.Chunk ↦ Some (record { thread = k; index = i; size = c.size })
  | CommitKind.Serial ↦ None
  | CommitKind.Dma ↦ None
  | CommitKind.Piece ↦ None
]

and-right : (a b : Bool) → b ≡ false → (a && b) ≡ false
and-right true b e = e
and-right false b e = refl

both-true : (a b : Bool) → a ≡ true → b ≡ true → (a && b) ≡ true
both-true a b p q = (λ i. p i && q i)

no-index : (k i j n : ℕ) → i ≢ j → is_for k j (record { thread = k; index = i; size = n }) ≡ false
no-index k i j n ne = and-right (nat_eq k k) (nat_eq i j) (ne_eqb i j ne)

its-index : (k i n : ℕ) → is_for k i (record { thread = k; index = i; size = n }) ≡ true
its-index k i n = both-true (nat_eq k k) (nat_eq i i) (eq-eqb k k refl) (eq-eqb i i refl)

-- a size of another index isn't found in one commit's
other-one : (k i j : ℕ) (kind : CommitKind) (c : Commit) → c.kind ≡ kind → i ≢ j → find (is_for k j) (chunk_size k i c) ≡ None
other-one k i j CommitKind.Chunk c is ne = rw is (rw (no-index k i j c.size ne) refl)
other-one k i j CommitKind.Serial c is ne = rw is refl
other-one k i j CommitKind.Dma c is ne = rw is refl
other-one k i j CommitKind.Piece c is ne = rw is refl

its-one : (k i : ℕ) (kind : CommitKind) (c : Commit) → c.kind ≡ kind → find (is_for k i) (chunk_size k i c) ≡ given_by k i (Some c)
its-one k i CommitKind.Chunk c is = rw is (rw (its-index k i c.size) refl)
its-one k i CommitKind.Serial c is = rw is refl
its-one k i CommitKind.Dma c is = rw is refl
its-one k i CommitKind.Piece c is = rw is refl

-- a first commit of thread k gives its size, if it is a chunk, before later ones
pub sizes-is : (k i : ℕ) (c : Commit) (cs : List Commit) → is_thread k c.actor ≡ true → chunk_sizes k i (c ∷ cs) ≡ chunk_size k i c ++ chunk_sizes k (suc i) cs
sizes-is k i c cs e = ap (λ (b : Bool). if b then chunk_size k i c ++ chunk_sizes k (suc i) cs else chunk_sizes k i cs) e

-- a first commit that isn't thread k's gives no size, and isn't counted among its commits
pub sizes-isnt : (k i : ℕ) (c : Commit) (cs : List Commit) → is_thread k c.actor ≡ false → chunk_sizes k i (c ∷ cs) ≡ chunk_sizes k i cs
sizes-isnt k i c cs e = ap (λ (b : Bool). if b then chunk_size k i c ++ chunk_sizes k (suc i) cs else chunk_sizes k i cs) e

none-or : {A : Type 0} (o p : Option A) → o ≡ None → option_or o p ≡ p
none-or o p e = ap (λ (x : Option _). option_or x p) e

or-none : {A : Type 0} (o p : Option A) → p ≡ None → option_or o p ≡ o
or-none None p e = e
or-none (Some x) p e = refl

-- before its first index nothing is found
earlier-none : (k i j : ℕ) (cs : List Commit) → j < i → find (is_for k j) (chunk_sizes k i cs) ≡ None
earlier-none k i j [] l = refl
earlier-none k i j (c ∷ cs) l =
    elim (cases_Bool (is_thread k c.actor)) [
      | inl is ↦ ap (find (is_for k j)) (sizes-is k i c cs is) ∙ find-append (is_for k j) (chunk_size k i c) (chunk_sizes k (suc i) cs)
          ∙ none-or (find (is_for k j) (chunk_size k i c)) (find (is_for k j) (chunk_sizes k (suc i) cs)) (other-one k i j c.kind c refl (λ e. omega (arith, l, e)))
          ∙ earlier-none k (suc i) j cs (omega (arith, l))
      | inr is ↦ ap (find (is_for k j)) (sizes-isnt k i c cs is) ∙ earlier-none k i j cs l
    ]

abbrev Found : (k i : ℕ) → List Commit → Type 0
Found k i cs = (n : ℕ) → find (is_for k (i + n)) (chunk_sizes k i cs) ≡ given_by k (i + n) (slice_get (own k cs) n)

found-more : (k i : ℕ) (c : Commit) (cs : List Commit) (b : Bool) → is_thread k c.actor ≡ b → Found k i cs → Found k (suc i) cs → Found k i (c ∷ cs)
found-more k i c cs false is same next n =
    ap (find (is_for k (i + n))) (sizes-isnt k i c cs is) ∙ same n
    ∙ ap (λ (xs : List Commit). given_by k (i + n) (slice_get xs n)) (sym (own-isnt k c cs is))
found-more k i c cs true is same next zero =
    let e : i + 0 ≡ i = omega arith in
    ap (λ (j : ℕ). find (is_for k j) (chunk_sizes k i (c ∷ cs))) e
    ∙ ap (find (is_for k i)) (sizes-is k i c cs is) ∙ find-append (is_for k i) (chunk_size k i c) (chunk_sizes k (suc i) cs)
    ∙ or-none (find (is_for k i) (chunk_size k i c)) (find (is_for k i) (chunk_sizes k (suc i) cs)) (earlier-none k (suc i) i cs (omega arith))
    ∙ its-one k i c.kind c refl
    ∙ ap (λ (j : ℕ). given_by k j (Some c)) (sym e)
    ∙ ap (λ (xs : List Commit). given_by k (i + 0) (slice_get xs 0)) (sym (own-is k c cs is))
found-more k i c cs true is same next (suc n) =
    let e : i + suc n ≡ suc i + n = omega arith in
    ap (find (is_for k (i + suc n))) (sizes-is k i c cs is) ∙ find-append (is_for k (i + suc n)) (chunk_size k i c) (chunk_sizes k (suc i) cs)
    ∙ none-or (find (is_for k (i + suc n)) (chunk_size k i c)) (find (is_for k (i + suc n)) (chunk_sizes k (suc i) cs)) (other-one k i (i + suc n) c.kind c refl (λ h. omega (arith, h)))
    ∙ ap (λ (j : ℕ). find (is_for k j) (chunk_sizes k (suc i) cs)) e
    ∙ next n
    ∙ ap (λ (j : ℕ). given_by k j (slice_get (own k cs) n)) (sym e)
    ∙ ap (λ (xs : List Commit). given_by k (i + suc n) (slice_get xs (suc n))) (sym (own-is k c cs is))

-- the size of a thread's commit is found if it is a chunk's
found-own : (k i : ℕ) (cs : List Commit) → Found k i cs
found-own k i [] n = refl
found-own k i (c ∷ cs) n = found-more k i c cs (is_thread k c.actor) refl (found-own k i cs) (found-own k (suc i) cs) n

-- ---- in the sizes of all threads

no-thread : (k j i n m : ℕ) → j ≢ k → is_for k i (record { thread = j; index = n; size = m }) ≡ false
no-thread k j i n m ne = ap (λ (b : Bool). b && nat_eq n i) (ne_eqb j k ne)

other-thread : (k j i n : ℕ) (kind : CommitKind) (c : Commit) → c.kind ≡ kind → j ≢ k → find (is_for k i) (chunk_size j n c) ≡ None
other-thread k j i n CommitKind.Chunk c is ne = rw is (rw (no-thread k j i n c.size ne) refl)
other-thread k j i n CommitKind.Serial c is ne = rw is refl
other-thread k j i n CommitKind.Dma c is ne = rw is refl
other-thread k j i n CommitKind.Piece c is ne = rw is refl

others-none : (k j i n : ℕ) (cs : List Commit) → j ≢ k → find (is_for k i) (chunk_sizes j n cs) ≡ None
others-none k j i n [] ne = refl
others-none k j i n (c ∷ cs) ne =
    elim (cases_Bool (is_thread j c.actor)) [
      | inl is ↦ ap (find (is_for k i)) (sizes-is j n c cs is) ∙ find-append (is_for k i) (chunk_size j n c) (chunk_sizes j (suc n) cs)
          ∙ none-or (find (is_for k i) (chunk_size j n c)) (find (is_for k i) (chunk_sizes j (suc n) cs)) (other-thread k j i n c.kind c refl ne)
          ∙ others-none k j i (suc n) cs ne
      | inr is ↦ ap (find (is_for k i)) (sizes-isnt j n c cs is) ∙ others-none k j i n cs ne
    ]

-- the sizes of the chunks of n threads, one thread after the other, from a number on
abbrev pub all_sizes : (from n : ℕ) → List Commit → List ShortSize
all_sizes from n cs = flat_map (λ k. chunk_sizes k 0 cs) (range_with_len from n)

-- the sizes of several threads are those of the first, and then those of the others
pub next-sizes : (from n : ℕ) (cs : List Commit) → all_sizes from (suc n) cs ≡ chunk_sizes from 0 cs ++ all_sizes (suc from) n cs
next-sizes from n cs = let e : from + 1 ≡ suc from = omega arith in ap (λ (j : ℕ). chunk_sizes from 0 cs ++ all_sizes j n cs) e

found-out : (k i from n : ℕ) (cs : List Commit) → k < from → find (is_for k i) (all_sizes from n cs) ≡ None
found-out k i from zero cs l = refl
found-out k i from (suc n) cs l =
    ap (find (is_for k i)) (next-sizes from n cs) ∙ find-append (is_for k i) (chunk_sizes from 0 cs) (all_sizes (suc from) n cs)
    ∙ none-or (find (is_for k i) (chunk_sizes from 0 cs)) (find (is_for k i) (all_sizes (suc from) n cs)) (others-none k from i 0 cs (λ e. omega (arith, l, e)))
    ∙ found-out k i (suc from) n cs (omega (arith, l))

-- for one of these threads, the size that is found for commit i is what it gives
pub found-in : (k i from n : ℕ) (cs : List Commit) → from ≤ k → k < from + n → find (is_for k i) (all_sizes from n cs) ≡ given_by k i (slice_get (own k cs) i)
found-in k i from zero cs low high = absurd (omega (arith, low, high))
found-in k i from (suc n) cs low high =
    ap (find (is_for k i)) (next-sizes from n cs) ∙ find-append (is_for k i) (chunk_sizes from 0 cs) (all_sizes (suc from) n cs)
    ∙ (elim (cases_eq from k) [
      | inl e ↦ or-none (find (is_for k i) (chunk_sizes from 0 cs)) (find (is_for k i) (all_sizes (suc from) n cs)) (found-out k i (suc from) n cs (omega (arith, e)))
          ∙ ap (λ (j : ℕ). find (is_for k i) (chunk_sizes j 0 cs)) e
          ∙ (let z : i ≡ 0 + i = omega arith in ap (λ (j : ℕ). find (is_for k j) (chunk_sizes k 0 cs)) z ∙ found-own k 0 cs i ∙ ap (λ (j : ℕ). given_by k j (slice_get (own k cs) i)) (sym z))
      | inr ne ↦ none-or (find (is_for k i) (chunk_sizes from 0 cs)) (find (is_for k i) (all_sizes (suc from) n cs)) (others-none k from i 0 cs ne)
          ∙ found-in k i (suc from) n cs (omega (arith, low, ne)) (omega (arith, high))
    ])

-- for a thread after all of these no size is found
pub found-past : (k i from n : ℕ) (cs : List Commit) → from + n ≤ k → find (is_for k i) (all_sizes from n cs) ≡ None
found-past k i from zero cs l = refl
found-past k i from (suc n) cs l =
    ap (find (is_for k i)) (next-sizes from n cs) ∙ find-append (is_for k i) (chunk_sizes from 0 cs) (all_sizes (suc from) n cs)
    ∙ none-or (find (is_for k i) (chunk_sizes from 0 cs)) (find (is_for k i) (all_sizes (suc from) n cs)) (others-none k from i 0 cs (λ e. omega (arith, l, e)))
    ∙ found-past k i (suc from) n cs (omega (arith, l))

-- ---- all of them are used

abbrev used_by : List Parts → ShortSize → Bool
used_by ts short = is_size_used (slice_get ts short.thread) short

used-below : (o : Option Parts) (k i n : ℕ) → i < elim o [ None ↦ 0 | Some t ↦ t.commits ] → is_size_used o (record { thread = k; index = i; size = n }) ≡ true
used-below None k i n l = absurd (omega (arith, l))
used-below (Some t) k i n l = lt-ltb i t.commits l

used-one : (ts : List Parts) (k i : ℕ) (kind : CommitKind) (c : Commit) → c.kind ≡ kind → i < commits_at ts k → list_all (used_by ts) (chunk_size k i c) ≡ true
used-one ts k i CommitKind.Chunk c is l = rw is (both-true (used_by ts (record { thread = k; index = i; size = c.size })) true (used-below (slice_get ts k) k i c.size l) refl)
used-one ts k i CommitKind.Serial c is l = rw is refl
used-one ts k i CommitKind.Dma c is l = rw is refl
used-one ts k i CommitKind.Piece c is l = rw is refl

used-own : (ts : List Parts) (k i : ℕ) (cs : List Commit) → i + length (own k cs) ≤ commits_at ts k → list_all (used_by ts) (chunk_sizes k i cs) ≡ true
used-own ts k i [] l = refl
used-own ts k i (c ∷ cs) l =
    elim (cases_Bool (is_thread k c.actor)) [
      | inl is ↦ (
          let n = ap (λ (xs : List Commit). length xs) (own-is k c cs is) in
          ap (list_all (used_by ts)) (sizes-is k i c cs is) ∙ list_all-append (used_by ts) (chunk_size k i c) (chunk_sizes k (suc i) cs)
          ∙ both-true (list_all (used_by ts) (chunk_size k i c)) (list_all (used_by ts) (chunk_sizes k (suc i) cs)) (used-one ts k i c.kind c refl (omega (arith, l, n)))
          (used-own ts k (suc i) cs (omega (arith, l, n)))
          )
      | inr is ↦ (
          let n = ap (λ (xs : List Commit). length xs) (own-isnt k c cs is) in
          ap (list_all (used_by ts)) (sizes-isnt k i c cs is) ∙ used-own ts k i cs (omega (arith, l, n))
          )
    ]

-- all sizes are used, if no thread has more commits than it counts
pub used-all : (ts : List Parts) (from n : ℕ) (cs : List Commit) → ((k : ℕ) → length (own k cs) ≤ commits_at ts k) → list_all (used_by ts) (all_sizes from n cs) ≡ true
used-all ts from zero cs l = refl
used-all ts from (suc n) cs l =
    ap (list_all (used_by ts)) (next-sizes from n cs) ∙ list_all-append (used_by ts) (chunk_sizes from 0 cs) (all_sizes (suc from) n cs)
    ∙ both-true (list_all (used_by ts) (chunk_sizes from 0 cs)) (list_all (used_by ts) (all_sizes (suc from) n cs)) (used-own ts from 0 cs (let h = l from in omega (arith, h))) (used-all ts (suc from) n cs l)
