-- The limits of chunks: over 0, and no more than a log can say. And no sphere may have more threads than any.
use Rattle.std.proofs.Common.{◌≡◌, ℕ, zero, suc, ◌<◌, ◌≤◌, inl, inr, Bool, eqb, List, [], ◌∷◌, Option, Some, None, refl, subst, arith}
use Rattle.std.specs.Prelude.{slice_get, max, All, map, filter, find, option_map, ◌&&◌}
use Rattle.std.specs.List.{zip}
use Rattle.std.proofs.lemmas.Option.{none-some}
use Rattle.dl_entry.specs.Numbers.{most_chunk, most_threads}
use Rattle.dl_entry.specs.declared.Actor.{Actor}
use Rattle.spec_isa.specs.declared.thread.Parts.{Parts}
use Rattle.spec_log.specs.declared.ModeName.{ModeName}
use Rattle.spec_log.specs.declared.ShortSize.{ShortSize}
use Rattle.spec_log.specs.declared.Sizes.{Sizes}
use Rattle.spec_log.specs.declared.LogParts.{LogParts}
use Rattle.spec_log.specs.Log.{IsSizes, IsShortSize, IsLog}
use Rattle.spec_log.specs.Versions.{IsVersion}
use Rattle.spec_log.specs.Size.{is_thread, sizes_of_thread, thread_size, size_in}
use Rattle.spec_log.proofs.Threads.{threads-few, standard-few}
use Rattle.spec_sphere.specs.sphere.Spheres.{Role, Plain, Record, Replay, whole_limit, limit_of, limit_after, most_in}
use Rattle.spec_sphere.specs.promises.Sound.{IsSoundRole}
use Rattle.spec_play.proofs.Threads.{branch}

-- ---- lists

-- each element of a list, by its place
abbrev pub AllIn : {X : Type 0} → (X → Type 0) → List X → Type 0
AllIn P [] = Unit {0}
AllIn P (x ∷ xs) = P x × AllIn P xs

-- what holds of all elements by the one definition does so by the other
pub all-in : {X : Type 0} (P : X → Type 0) (xs : List X) → All P xs → AllIn P xs
all-in P [] all = tt
all-in P (x ∷ xs) all = (all 0 x (omega arith), all-in P xs (λ k d l. all (suc k) d (omega arith)))

-- what holds of all elements holds of each that is found
pub get-in : {X : Type 0} (P : X → Type 0) (xs : List X) (k : ℕ) (x : X) → AllIn P xs → slice_get xs k ≡ Some x → P x
get-in P [] k x all e = absurd (none-some x e)
get-in P (y ∷ xs) zero x all e = subst P (let q : y ≡ x = cc in q) all.0
get-in P (y ∷ xs) (suc k) x all e = get-in P xs k x all.1 e

-- what holds of all elements holds of one that is found by a test
pub find-in : {X : Type 0} (P : X → Type 0) (p : X → Bool) (xs : List X) (x : X) → AllIn P xs → find p xs ≡ Some x → P x
find-in P p [] x all e = absurd (none-some x e)
find-in P p (y ∷ xs) x all e =
    branch (λ (o : Option _). o ≡ Some x → P x) (p y) (Some y) (find p xs)
    (λ _ h. subst P (let q : y ≡ x = cc in q) all.0)
    (λ _ h. find-in P p xs x all.1 h) e

-- ---- sizes

sizes-in : (k s : ℕ) (order : List Actor) (sizes : List ℕ) → AllIn (λ z. z ≤ s) sizes → AllIn (λ z. z ≤ s) (sizes_of_thread k order sizes)
sizes-in k s [] sizes all = tt
sizes-in k s (actor ∷ order) [] all = tt
sizes-in k s (actor ∷ order) (z ∷ sizes) all =
    branch (λ (ps : List _). AllIn (λ y. y ≤ s) (map (λ p. p.1) ps)) (is_thread k actor) ((actor, z) ∷ filter (λ p. is_thread k p.0) (zip order sizes)) (filter (λ p. is_thread k p.0) (zip order sizes))
    (λ _. (all.0, sizes-in k s order sizes all.1))
    (λ _. sizes-in k s order sizes all.1)

short-found : (t s : ℕ) (o : Option ShortSize) (z : ℕ) → ((x : ShortSize) → o ≡ Some x → IsShortSize t s x) → option_map (λ short. short.size) o ≡ Some z → z ≤ s
short-found t s None z each e = absurd (none-some z e)
short-found t s (Some x) z each e = let l = (each x refl).3 in let q : x.size ≡ z = cc in omega (arith, l, q)

each-size : (s k n z : ℕ) (order : List Actor) (sizes : List ℕ) → All (λ y. y ≤ s) sizes → slice_get (sizes_of_thread k order sizes) n ≡ Some z → z ≤ s
each-size s k n z order sizes all e = get-in (λ y. y ≤ s) (sizes_of_thread k order sizes) n z (sizes-in k s order sizes (all-in (λ y. y ≤ s) sizes all)) e

short-size : (t s k n z : ℕ) (sizes : List ShortSize) → All (IsShortSize t s) sizes → option_map (λ short. short.size) (find (λ short. eqb short.thread k && eqb short.index n) sizes) ≡ Some z → z ≤ s
short-size t s k n z sizes all e =
    short-found t s (find (λ short. eqb short.thread k && eqb short.index n) sizes) z
    (λ x h. find-in (IsShortSize t s) (λ short. eqb short.thread k && eqb short.index n) sizes x (all-in (IsShortSize t s) sizes all) h) e

-- no thread's commit is larger than a standard chunk
pub size-most : (mode : ModeName) (t s count k n z : ℕ) (order : List Actor) (sizes : Sizes) → IsSizes mode t s count sizes → thread_size order sizes k n ≡ Some z → z ≤ s
size-most ModeName.OrderSize t s count k n z order (Sizes.Each sizes) is e = each-size s k n z order sizes is.1 e
size-most ModeName.OrderSize t s count k n z order (Sizes.Short sizes) is e = absurd is
size-most ModeName.OrderOnly t s count k n z order (Sizes.Each sizes) is e = absurd is
size-most ModeName.OrderOnly t s count k n z order (Sizes.Short sizes) is e = short-size t s k n z sizes is.each e
size-most ModeName.Picolog t s count k n z order (Sizes.Each sizes) is e = absurd is
size-most ModeName.Picolog t s count k n z order (Sizes.Short sizes) is e = short-size t s k n z sizes is.each e

-- ---- limits

abbrev limit_by : (s : ℕ) → Option ℕ → ℕ
limit_by s o = elim o [ None ↦ s | Some z ↦ max 1 z ]

by-positive : (s : ℕ) (o : Option ℕ) → 0 < s → 0 < limit_by s o
by-positive s None l = l
by-positive s (Some z) l = omega arith

by-most : (s : ℕ) (o : Option ℕ) → 1 ≤ s → ((z : ℕ) → o ≡ Some z → z ≤ s) → limit_by s o ≤ s
by-most s None l each = omega arith
by-most s (Some z) l each = let h = each z refl in omega (arith, l, h)

-- the limit that a log gives a commit is over 0
pub whole-positive : (log : LogParts) (k n : ℕ) → IsLog log → 0 < whole_limit log k n
whole-positive log k n is = by-positive log.s (size_in log (Actor.Thread k) n) (let l = is.s.0 in omega (arith, l))

-- the limit that a log gives a commit is at most its standard size
pub whole-most : (log : LogParts) (k n : ℕ) → IsLog log → whole_limit log k n ≤ log.s
whole-most log k n is =
    by-most log.s (size_in log (Actor.Thread k) n) (let l = is.s.0 in omega (arith, l)) (λ z e. size-most log.mode log.threads log.s log.count k n z log.order log.sizes is.sizes e)

-- the limit of a chunk in a sound sphere is at most the size of the largest standard chunk
pub limit-most : (s commits : ℕ) (threads : List Parts) (role : Role) (k : ℕ) (t : Parts) → s ≤ most_chunk → IsSoundRole s commits threads role → limit_of s role k t ≤ most_chunk
unfolding limit_of
limit-most s commits threads Plain k t l is = l
limit-most s commits threads (Record recording) k t l is = l
limit-most s commits threads (Replay b) k t l is =
    let a = whole-most b.log k t.commits is.log in let m = standard-few b.log.version b.log.threads b.log.s is.log.version is.log.s in omega (arith, a, m)

-- so is that of the commit after it
pub after-most : (s commits : ℕ) (threads : List Parts) (role : Role) (k : ℕ) (t : Parts) → s ≤ most_chunk → IsSoundRole s commits threads role → limit_after s role k t ≤ most_chunk
unfolding limit_after
after-most s commits threads Plain k t l is = l
after-most s commits threads (Record log) k t l is = l
after-most s commits threads (Replay b) k t l is =
    let a = whole-most b.log k t.commits is.log in let m = standard-few b.log.version b.log.threads b.log.s is.log.version is.log.s in omega (arith, a, m)

-- ---- threads

-- a sound sphere may have no more threads than any sphere can
pub threads-most : (s commits : ℕ) (threads : List Parts) (role : Role) → IsSoundRole s commits threads role → most_in role ≤ most_threads
threads-most s commits threads Plain is = omega arith
threads-most s commits threads (Record recording) is = threads-few recording.log.version recording.log.threads is.version
threads-most s commits threads (Replay b) is = threads-few b.log.version b.log.threads is.log.version

-- a version of logs has room for a thread
pub version-least : (version threads : ℕ) → IsVersion version threads → 1 ≤ threads
version-least version threads is =
    elim is [
      | inl first ↦ (let e = first.1 in omega (arith, e))
      | inr second ↦ elim second.1 [
        | inl e ↦ omega (arith, e)
        | inr e ↦ omega (arith, e)
      ]
    ]
