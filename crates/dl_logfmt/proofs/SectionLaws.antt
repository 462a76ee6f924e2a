-- Reading a section undoes writing it, where it does so for each entry.
use Rattle.std.proofs.Common.{◌≡◌, ℕ, zero, suc, ◌<◌, ◌^◌, Bool, true, List, [], ◌∷◌, ◌++◌, ◌-◌, length, drop, get_or, slice_get, Option, Some, None, Result, Ok, Err, refl, ap, subst, append-nil, append_assoc, add-one, arith}
use Rattle.std.specs.List.{flat_map, AllByRecursion, AllAdjacentBelow}
use Rattle.std.proofs.lemmas.List.{nil_from_length, length_push}
use Rattle.std.proofs.lemmas.List.Elements.{All-from_recursion, recursion_from_All}
use Rattle.std.specs.Bool.{Decides}
use Rattle.spec_log.specs.Log.{IsSection}
use Rattle.spec_log.specs.Bytes.{little, section}
use Rattle.spec_log.specs.declared.fault.Fault.{Fault}
use Rattle.spec_log.specs.Fields.{Read, Reader, continues, read, gives, any, passes, comes_after, last, next_entry, one_more, repeated}
use Rattle.dl_logfmt.proofs.Codes.{Codes, Codes-as, Codes-read, Codes-then, Codes-gives, Codes-number, Codes-tested}

-- so many entries, each of which comes after the one before it; the fault is at the entry's first byte
abbrev pub entries : {X : Type 0} → (X → X → Bool) → Reader X → Option X → ℕ → Reader (List X)
entries earlier entry before zero bytes start = gives [] bytes start
entries earlier entry before (suc n) bytes start =
    continues (read entry (λ x. passes (comes_after earlier before x) 6 start x) bytes start)
    (λ x after. read (entries earlier entry (Some x) n) (λ xs. gives (x ∷ xs)) bytes after)

-- a section: any count of entries, and the entries
abbrev pub section_of : {X : Type 0} → (X → X → Bool) → Reader X → Reader (List X)
section_of earlier entry = read (any 4) (λ count. entries earlier entry None count)

-- each entry comes after the one before it
abbrev pub Rises : {X : Type 0} → (X → X → Bool) → Option X → List X → Type 0
Rises earlier before [] = Unit {0}
Rises earlier before (x ∷ xs) = (comes_after earlier before x ≡ true) × Rises earlier (Some x) xs

-- entries in any order rise where none needs to be later
pub Rises-any : {X : Type 0} (xs : List X) (last : Option X) → Rises (λ x y. true) last xs
Rises-any [] last = tt
Rises-any (x ∷ xs) None = (refl, Rises-any xs (Some x))
Rises-any (x ∷ xs) (Some y) = (refl, Rises-any xs (Some x))

-- n good entries, each later than the one before it
abbrev pub AreEntries : {X : Type 0} → (X → X → Bool) → (X → Type 0) → Option X → ℕ → List X → Type 0
AreEntries earlier good before n xs = (length xs ≡ n) × AllByRecursion good xs × Rises earlier before xs

-- an entry that comes after the one before it
abbrev judged : {X : Type 0} → (X → X → Bool) → Reader X → Option X → Reader X
judged earlier entry before bytes start = read entry (λ x. passes (comes_after earlier before x) 6 start x) bytes start

Codes-judged : {X : Type 0} (earlier : X → X → Bool) (entry : Reader X) (bytes_of : X → List ℕ) (good : X → Type 0) (last : Option X)
    → Codes entry bytes_of good → Codes (judged earlier entry last) bytes_of (λ x. good x × (comes_after earlier last x ≡ true))
Codes-judged earlier entry bytes_of good last codes = Codes-tested 6 entry (comes_after earlier last) bytes_of good codes

-- a first entry, and the others
Codes-others : {X : Type 0} (n : ℕ) (earlier : X → X → Bool) (entry : Reader X) (bytes_of : X → List ℕ) (good : X → Type 0) (x : X)
    → Codes (entries earlier entry (Some x) n) (flat_map bytes_of) (AreEntries earlier good (Some x) n)
    → Codes (read (entries earlier entry (Some x) n) (λ xs. gives (x ∷ xs))) (λ y. flat_map bytes_of (drop 1 y))
    (λ y. (xs : List X) × (y ≡ x ∷ xs) × AreEntries earlier good (Some x) n xs)
Codes-others {X} n earlier entry bytes_of good x codes =
    Codes-then (entries earlier entry (Some x) n) (λ xs. gives (x ∷ xs)) (flat_map bytes_of) (AreEntries earlier good (Some x) n)
    (λ xs y. []) (λ xs y. y ≡ x ∷ xs) _ _ codes
    (λ xs g. Codes-gives (x ∷ xs) (λ y. y ≡ x ∷ xs) refl (λ y e. e))
    (λ y g. (g.0, g.2, g.1, rw (g.1, append-nil (flat_map bytes_of g.0)) refl))
    (λ xs y g e. ((xs, e, g), rw (e, append-nil (flat_map bytes_of xs)) refl))

-- reading entries undoes writing them, where it does so for each
pub Codes-entries : {X : Type 0} (n : ℕ) (earlier : X → X → Bool) (entry : Reader X) (bytes_of : X → List ℕ) (good : X → Type 0) (before : Option X)
    → Codes entry bytes_of good → Codes (entries earlier entry before n) (flat_map bytes_of) (AreEntries earlier good before n)
Codes-entries {X} zero earlier entry bytes_of good before codes =
    Codes-as (gives []) (λ xs. []) (flat_map bytes_of) (λ xs. xs ≡ []) _
    (Codes-gives [] (λ xs. xs ≡ []) refl (λ y e. e))
    (λ xs e. rw e refl) (λ xs e. rw e (refl, tt, tt)) (λ xs g. nil_from_length xs g.0)
Codes-entries {X} (suc n) earlier entry bytes_of good before codes =
    Codes-then (judged earlier entry before) (λ x. read (entries earlier entry (Some x) n) (λ xs. gives (x ∷ xs)))
    bytes_of (λ x. good x × (comes_after earlier before x ≡ true))
    (λ x y. flat_map bytes_of (drop 1 y)) (λ x y. (xs : List X) × (y ≡ x ∷ xs) × AreEntries earlier good (Some x) n xs)
    (flat_map bytes_of) (AreEntries earlier good before (suc n))
    (Codes-judged earlier entry bytes_of good before codes)
    (λ x g. Codes-others n earlier entry bytes_of good x (Codes-entries n earlier entry bytes_of good (Some x) codes))
    (entries_split n) entries_join where
      entries_split : (n : ℕ) (y : List X) → AreEntries earlier good before (suc n) y
          → (x : X) × (good x × (comes_after earlier before x ≡ true)) × ((xs : List X) × (y ≡ x ∷ xs) × AreEntries earlier good (Some x) n xs) × (flat_map bytes_of y ≡ bytes_of x ++ flat_map bytes_of (drop 1 y))
      entries_split n [] g = absurd (omega (arith, g.0))
      entries_split n (x ∷ xs) g = (x, (g.1.0, g.2.0), (xs, refl, (omega (arith, g.0), g.1.1, g.2.1)), refl)

      entries_join : (x : X) (y : List X) → good x × (comes_after earlier before x ≡ true)
          → (xs : List X) × (y ≡ x ∷ xs) × AreEntries earlier good (Some x) n xs
          → AreEntries earlier good before (suc n) y × (flat_map bytes_of y ≡ bytes_of x ++ flat_map bytes_of (drop 1 y))
      entries_join x y g r = rw r.1 ((ap suc r.2.0, (g.0, r.2.1), (g.1, r.2.2)), refl)

-- each entry of a section comes before the next
Rises-adjacent : {X : Type 0} (earlier : X → X → Bool) (before : X → X → Type 0) → ((x y : X) → Decides (earlier x y) (before x y))
    → (xs : List X) (last : Option X) → Rises earlier last xs → (k : ℕ) (d : X) → suc k < length xs → before (get_or xs k d) (get_or xs (suc k) d)
Rises-adjacent earlier before decides [] last r k d h = absurd (omega arith)
Rises-adjacent earlier before decides (x ∷ []) last r k d h = absurd (omega arith)
Rises-adjacent earlier before decides (x ∷ y ∷ ys) last r zero d h = (decides x y).0 r.1.0
Rises-adjacent earlier before decides (x ∷ y ∷ ys) last r (suc k) d h =
    Rises-adjacent earlier before decides (y ∷ ys) (Some x) r.1 k d (omega arith)

Rises-behind : {X : Type 0} (earlier : X → X → Bool) (before : X → X → Type 0) → ((x y : X) → Decides (earlier x y) (before x y))
    → (xs : List X) (x : X) → ((k : ℕ) (d : X) → suc k < length (x ∷ xs) → before (get_or (x ∷ xs) k d) (get_or (x ∷ xs) (suc k) d)) → Rises earlier (Some x) xs
Rises-behind earlier before decides [] x h = tt
Rises-behind earlier before decides (y ∷ ys) x h =
    ((decides x y).1 (h 0 x (omega arith)), Rises-behind earlier before decides ys y (λ k d l. h (suc k) d (omega arith)))

Rises-first : {X : Type 0} (earlier : X → X → Bool) (before : X → X → Type 0) → ((x y : X) → Decides (earlier x y) (before x y))
    → (xs : List X) → AllAdjacentBelow before xs (length xs) → Rises earlier None xs
Rises-first earlier before decides [] h = tt
Rises-first earlier before decides (x ∷ xs) h = (
  refl,
  Rises-behind earlier before decides xs x (λ k d l.
      subst (λ (n : ℕ). before (get_or (x ∷ xs) k d) (get_or (x ∷ xs) n d)) (add-one k) (h k d (omega arith))),
)

-- a count, and so many entries
pub Codes-section : {X : Type 0} (earlier : X → X → Bool) (before : X → X → Type 0) (entry : Reader X) (bytes_of : X → List ℕ) (good : X → Type 0)
    → ((x y : X) → Decides (earlier x y) (before x y)) → Codes entry bytes_of good
    → Codes (section_of earlier entry) (section bytes_of) (IsSection good before)
Codes-section {X} earlier before entry bytes_of good decides codes =
    Codes-as (section_of earlier entry) _ (section bytes_of) _ (IsSection good before)
    (Codes-read (any 4) (λ count. entries earlier entry None count) length (little 4) (λ x. (x < 256 ^ 4) × (true ≡ true))
    (flat_map bytes_of) (λ xs. AllByRecursion good xs × Rises earlier None xs)
    (Codes-number 4 5 (λ x. true))
    (λ n g. Codes-as (entries earlier entry None n) (flat_map bytes_of) (flat_map bytes_of) (AreEntries earlier good None n) _
    (Codes-entries n earlier entry bytes_of good None codes) (λ xs h. refl) (λ xs h. (h.0, (h.1, h.2))) (λ xs h. (h.0, h.1.0, h.1.1))))
    (λ xs h. refl)
    (λ xs h. record {
      few = h.0.0;
      each = All-from_recursion good xs h.1.0;
      rising = λ k d l. rw add-one (Rises-adjacent earlier before decides xs None h.1.1 k d (omega arith));
    })
    (λ xs h. ((h.few, refl), (recursion_from_All good xs h.each, Rises-first earlier before decides xs h.rising)))

slice_get-end : {X : Type 0} (xs : List X) (x : X) → slice_get (xs ++ x ∷ []) (length xs) ≡ Some x
slice_get-end [] x = refl
slice_get-end (y ∷ xs) x = slice_get-end xs x

last-push : {X : Type 0} (xs : List X) (x : X) → last (xs ++ x ∷ []) ≡ Some x
last-push xs x =
    let e : length (xs ++ x ∷ []) - 1 ≡ length xs = omega (arith, length_push xs x) in rw e (slice_get-end xs x)

-- A stage of a file reads one entry more each time.
module _ {D X : Type 0} (one : D → Reader D) (set : List X → D) (earlier : X → X → Bool) (entry : Reader X)
    (on : (xs : List X) (bytes : List ℕ) (at : ℕ) → one (set xs) bytes at ≡ read (one_more earlier entry xs) (λ ys. gives (set ys)) bytes at) where
  one-pushed : (xs : List X) (x : X) (bytes : List ℕ) (r : Result (Read (List X)) Fault)
      → continues r (λ ys. gives (set ((xs ++ x ∷ []) ++ ys)) bytes)
      ≡ continues (continues r (λ ys. gives (x ∷ ys) bytes)) (λ ys. gives (set (xs ++ ys)) bytes)
  one-pushed xs x bytes (Ok r) = rw append_assoc refl
  one-pushed xs x bytes (Err fault) = refl

  one-entered : (n : ℕ) (xs : List X) (bytes : List ℕ)
      → ((xs : List X) (at : ℕ) → repeated one n (set xs) bytes at ≡ read (entries earlier entry (last xs) n) (λ ys. gives (set (xs ++ ys))) bytes at)
      → (r : Result (Read X) Fault)
      → continues (continues (continues r (λ x. gives (xs ++ x ∷ []) bytes)) (λ ys. gives (set ys) bytes)) (λ d after. repeated one n d bytes after)
      ≡ continues (continues r (λ x after. read (entries earlier entry (Some x) n) (λ ys. gives (x ∷ ys)) bytes after)) (λ ys. gives (set (xs ++ ys)) bytes)
  one-entered n xs bytes rest (Ok r) =
      rw (rest (xs ++ r.value ∷ []) r.after, last-push xs r.value) (one-pushed xs r.value bytes (entries earlier entry (Some r.value) n bytes r.after))
  one-entered n xs bytes rest (Err fault) = refl

  -- so many times are so many entries
  repeated-entries : (n : ℕ) (xs : List X) (bytes : List ℕ) (at : ℕ)
      → repeated one n (set xs) bytes at ≡ read (entries earlier entry (last xs) n) (λ ys. gives (set (xs ++ ys))) bytes at
  repeated-entries zero xs bytes at = rw (append-nil xs) refl
  repeated-entries (suc n) xs bytes at =
      rw (on xs bytes at) (one-entered n xs bytes (λ ys to. repeated-entries n ys bytes to) (next_entry earlier entry xs bytes at))

  counted-entries : (bytes : List ℕ) (r : Result (Read ℕ) Fault)
      → continues r (λ n after. repeated one n (set []) bytes after)
      ≡ continues (continues r (λ n after. entries earlier entry None n bytes after)) (λ xs. gives (set xs) bytes)
  counted-entries bytes (Ok r) = repeated-entries r.value [] bytes r.after
  counted-entries bytes (Err fault) = refl

  -- the stage reads the entries after their number
  pub staged-entries : (count : Reader ℕ) (bytes : List ℕ) (at : ℕ)
      → read count (λ n. repeated one n (set [])) bytes at
      ≡ read (read count (λ n. entries earlier entry None n)) (λ xs. gives (set xs)) bytes at
  staged-entries count bytes at = counted-entries bytes (count bytes at)
