-- An entry that is put in its place among entries that stand thread by thread: it comes after those of its thread.
use Rattle.std.proofs.Common.{◌≡◌, ◌≢◌, ℕ, zero, suc, ◌+◌, ◌<◌, ◌≤◌, inl, inr, Bool, true, false, ◌&&◌, ◌||◌, eqb, cond, List, [], ◌∷◌, ◌++◌, Some, None, refl, sym, ap, ◌∙◌, subst, arith}
use Rattle.std.specs.Prelude.{nat_lt, find}
use Rattle.std.specs.List.{flat_map}
use Rattle.std.proofs.lemmas.Bool.{true≢false, cases_eq, eq-eqb, ne_eqb, lt-ltb, le-ltb}
use Rattle.std.proofs.lemmas.List.{append_assoc}
use Rattle.dl_entry.specs.Numbers.{most_threads}
use Rattle.spec_log.specs.Reading.{is_earlier}
use Rattle.spec_log.specs.Noting.{insert_by}
use Rattle.spec_sphere.specs.sphere.Logged.{threads}
use Rattle.spec_sphere.proofs.Logs.Inserting.{both_tests, is_of_moment, found_first}

-- ---- before and after

-- these entries are of thread k, and of an index below n
abbrev pub Are : {X : Type 0} (thread index : X → ℕ) (k n : ℕ) → List X → Type 0
Are {X} thread index k n [] = Unit {0}
Are {X} thread index k n (y ∷ ys) = (thread y ≡ k) × (index y < n) × Are thread index k n ys

-- they are earlier than the entry; or later
abbrev AreEarlier : {X : Type 0} (thread index : X → ℕ) (x : X) → List X → Type 0
AreEarlier {X} thread index x [] = Unit {0}
AreEarlier {X} thread index x (y ∷ ys) = (is_earlier (thread y) (index y) (thread x) (index x) ≡ true) × AreEarlier thread index x ys

record IsLater {X : Type 0} (thread index : X → ℕ) (x y : X) : Type 0 where
  later : is_earlier (thread y) (index y) (thread x) (index x) ≡ false
  other : is_of_moment thread index (thread x) (index x) y ≡ false

abbrev AreLater : {X : Type 0} (thread index : X → ℕ) (x : X) → List X → Type 0
AreLater {X} thread index x [] = Unit {0}
AreLater {X} thread index x (y ∷ ys) = IsLater thread index x y × AreLater thread index x ys

later_append : {X : Type 0} (thread index : X → ℕ) (x : X) (ys zs : List X) → AreLater thread index x ys → AreLater thread index x zs → AreLater thread index x (ys ++ zs)
later_append thread index x [] zs a b = b
later_append thread index x (y ∷ ys) zs a b = (a.0, later_append thread index x ys zs a.1 b)

insert_past : {X : Type 0} (thread index : X → ℕ) (x : X) (ys zs : List X) → AreEarlier thread index x ys → insert_by thread index x (ys ++ zs) ≡ ys ++ insert_by thread index x zs
insert_past thread index x [] zs a = refl
insert_past {X} thread index x (y ∷ ys) zs a =
    ap (λ (b : Bool). cond b (y ∷ insert_by thread index x (ys ++ zs)) (cond (is_of_moment thread index (thread x) (index x) y) (x ∷ ys ++ zs) (x ∷ y ∷ ys ++ zs))) a.0
    ∙ ap (λ (ws : List X). y ∷ ws) (insert_past thread index x ys zs a.1)

insert_first : {X : Type 0} (thread index : X → ℕ) (x : X) (ys : List X) → AreLater thread index x ys → insert_by thread index x ys ≡ x ∷ ys
insert_first thread index x [] a = refl
insert_first thread index x (y ∷ ys) a =
    let l = a.0 in
    (λ h. cond (l.later h) (y ∷ insert_by thread index x ys) (cond (l.other h) (x ∷ ys) (x ∷ y ∷ ys)))

-- ---- by thread and index

less_thread : (t i u j : ℕ) → t < u → is_earlier t i u j ≡ true
less_thread t i u j l = (λ h. lt-ltb t u l h || (eqb t u && nat_lt i j))

less_index : (t i u j : ℕ) → t ≡ u → i < j → is_earlier t i u j ≡ true
less_index t i u j e l = (λ h. le-ltb t u (omega arith) h || (eq-eqb t u e h && lt-ltb i j l h))

more_thread : (t i u j : ℕ) → u < t → is_earlier t i u j ≡ false
more_thread t i u j l = (λ h. le-ltb t u (omega arith) h || (ne_eqb t u (λ e. omega arith) h && nat_lt i j))

earlier_threads : {X : Type 0} (thread index : X → ℕ) (x : X) (k n : ℕ) (ys : List X) → k < thread x → Are thread index k n ys → AreEarlier thread index x ys
earlier_threads thread index x k n [] l a = tt
earlier_threads thread index x k n (y ∷ ys) l a =
    (less_thread (thread y) (index y) (thread x) (index x) (let e = a.0 in omega arith), earlier_threads thread index x k n ys l a.2)

earlier_indices : {X : Type 0} (thread index : X → ℕ) (x : X) (ys : List X) → Are thread index (thread x) (index x) ys → AreEarlier thread index x ys
earlier_indices thread index x [] a = tt
earlier_indices thread index x (y ∷ ys) a = (less_index (thread y) (index y) (thread x) (index x) a.0 a.1, earlier_indices thread index x ys a.2)

later_threads : {X : Type 0} (thread index : X → ℕ) (x : X) (k n : ℕ) (ys : List X) → thread x < k → Are thread index k n ys → AreLater thread index x ys
later_threads thread index x k n [] l a = tt
later_threads thread index x k n (y ∷ ys) l a =
    let e = a.0 in (
      record {
        later = more_thread (thread y) (index y) (thread x) (index x) (omega arith);
        other = both_tests (thread y) (index y) (thread x) (index x) (λ h i. omega arith);
      },
      later_threads thread index x k n ys l a.2,
    )

-- where no entry is of the moment after them all, all are below it
pub are-below : {X : Type 0} (thread index : X → ℕ) (k n : ℕ) (ys : List X) → Are thread index k (suc n) ys → find (is_of_moment thread index k n) ys ≡ None → Are thread index k n ys
are-below thread index k n [] a none = tt
are-below thread index k n (y ∷ ys) a none =
    let p = found_first (is_of_moment thread index k n) y ys none in
    let ne : index y ≡ n → ⊥ = (λ e. true≢false (sym (λ h. eq-eqb (thread y) k a.0 h && eq-eqb (index y) n e h) ∙ p.0)) in
    (a.0, (let l = a.1 in omega arith), are-below thread index k n ys a.2 p.1)

-- ---- thread by thread

-- so many threads from k on
abbrev pub threads_from : (k n : ℕ) → List ℕ
threads_from k zero = []
threads_from k (suc n) = k ∷ threads_from (suc k) n

all_rest : {X : Type 0} (thread index : X → ℕ) (f : ℕ → List X) (most : ℕ → ℕ) (x : X) (a n : ℕ) → thread x < a → ((j : ℕ) → Are thread index j (most j) (f j)) → AreLater thread index x (flat_map f (threads_from a n))
all_rest thread index f most x a zero l are = tt
all_rest thread index f most x a (suc n) l are =
    later_append thread index x (f a) (flat_map f (threads_from (suc a) n)) (later_threads thread index x a (most a) (f a) l (are a)) (all_rest thread index f most x (suc a) n (omega arith) are)

same_rest : {X : Type 0} (f g : ℕ → List X) (k a n : ℕ) → k < a → ((j : ℕ) → j ≢ k → g j ≡ f j) → flat_map g (threads_from a n) ≡ flat_map f (threads_from a n)
same_rest f g k a zero l other = refl
same_rest f g k a (suc n) l other = (λ h. other a (λ e. omega arith) h ++ same_rest f g k (suc a) n (omega arith) other h)

placed_from : {X : Type 0} (thread index : X → ℕ) (f g : ℕ → List X) (most : ℕ → ℕ) (x : X) (a n : ℕ) → a ≤ thread x → thread x < a + n → Are thread index (thread x) (index x) (f (thread x)) → ((j : ℕ) → Are thread index j (most j) (f j))
    → ((j : ℕ) → j ≢ thread x → g j ≡ f j) → g (thread x) ≡ f (thread x) ++ x ∷ []
    → insert_by thread index x (flat_map f (threads_from a n)) ≡ flat_map g (threads_from a n)
placed_from thread index f g most x a zero l m top are other own = absurd (omega arith)
placed_from {X} thread index f g most x a (suc n) l m top are other own =
    elim (cases_eq a (thread x)) [
      | inl e ↦ (
          insert_past thread index x (f a) (flat_map f (threads_from (suc a) n)) (earlier_indices thread index x (f a) (subst (λ (j : ℕ). Are thread index (thread x) (index x) (f j)) (sym e) top))
          ∙ ap (λ (ws : List X). f a ++ ws) (insert_first thread index x (flat_map f (threads_from (suc a) n)) (all_rest thread index f most x (suc a) n (omega arith) are))
          ∙ sym (append_assoc (f a) (x ∷ []) (flat_map f (threads_from (suc a) n)))
          ∙ ap (λ (ws : List X). ws ++ flat_map f (threads_from (suc a) n)) (ap (λ (j : ℕ). f j ++ x ∷ []) e ∙ sym own ∙ ap g (sym e))
          ∙ ap (λ (ws : List X). g a ++ ws) (sym (same_rest f g (thread x) (suc a) n (omega arith) other))
          )
      | inr ne ↦ (
          insert_past thread index x (f a) (flat_map f (threads_from (suc a) n)) (earlier_threads thread index x a (most a) (f a) (omega arith) (are a))
          ∙ (λ h. sym (other a ne) h ++ placed_from thread index f g most x (suc a) n (omega arith) (omega arith) top are other own h)
          )
    ]

-- among the entries of all threads the entry of one goes after that thread's
pub placed-behind : {X : Type 0} (thread index : X → ℕ) (f g : ℕ → List X) (most : ℕ → ℕ) (x : X) → thread x < most_threads → Are thread index (thread x) (index x) (f (thread x)) → ((j : ℕ) → Are thread index j (most j) (f j))
    → ((j : ℕ) → j ≢ thread x → g j ≡ f j) → g (thread x) ≡ f (thread x) ++ x ∷ []
    → insert_by thread index x (flat_map f threads) ≡ flat_map g threads
placed-behind thread index f g most x l top are other own = placed_from thread index f g most x 0 most_threads (omega arith) l top are other own

-- ---- a thread's own among those of all

-- what is in neither of two lists together is in neither
pub find_parts : {X : Type 0} (test : X → Bool) (xs ys : List X) → find test (xs ++ ys) ≡ None → (find test xs ≡ None) × (find test ys ≡ None)
find_parts test [] ys e = (refl, e)
find_parts {X} test (x ∷ xs) ys e =
    let p = found_first test x (xs ++ ys) e in
    let q = find_parts test xs ys p.1 in
    (ap (λ (b : Bool). cond b (Some x) (find test xs)) p.0 ∙ q.0, q.1)

part_from : {X : Type 0} (test : X → Bool) (f : ℕ → List X) (k a n : ℕ) → a ≤ k → k < a + n → find test (flat_map f (threads_from a n)) ≡ None → find test (f k) ≡ None
part_from test f k a zero l m e = absurd (omega arith)
part_from {X} test f k a (suc n) l m e =
    let p = find_parts test (f a) (flat_map f (threads_from (suc a) n)) e in
    elim (cases_eq a k) [
      | inl ak ↦ ap (λ (j : ℕ). find test (f j)) (sym ak) ∙ p.0
      | inr ne ↦ part_from test f k (suc a) n (omega arith) (omega arith) p.1
    ]

-- what none of all is, none of one thread is
pub part-none : {X : Type 0} (test : X → Bool) (f : ℕ → List X) (k : ℕ) → k < most_threads → find test (flat_map f threads) ≡ None → find test (f k) ≡ None
part-none test f k l e = part_from test f k 0 most_threads (omega arith) l e
