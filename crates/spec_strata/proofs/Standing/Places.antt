-- The place of a commit of a stratum in canonical order, by numbers of commits; and which commit is then the last.
use Rattle.std.proofs.Common.{◌≡◌, ℕ, zero, suc, ◌<◌, ◌≤◌, List, [], ◌∷◌, ◌++◌, length, map, Option, Some, refl, sym, ap, ◌∙◌, arith}
use Rattle.std.specs.Prelude.{insert}
use Rattle.std.specs.List.{sum}
use Rattle.std.specs.Option.{option_or}
use Rattle.dl_entry.specs.declared.Actor.{Actor}
use Rattle.dl_entry.specs.declared.Commit.{Commit}
use Rattle.spec_isa.specs.declared.thread.Parts.{Parts}
use Rattle.spec_isa.specs.Runs.{Run}
use Rattle.spec_play.specs.Progress.{thread_of, last_thread}
use Rattle.spec_strata.specs.Shares.{Rule, Share, alone, share_more, shares_at}
use Rattle.spec_strata.specs.InPlay.{commits_of}
use Rattle.spec_strata.specs.Orders.{insert_at, place}
use Rattle.spec_strata.specs.Standing.{done_up_to}
use Rattle.spec_strata.proofs.Plays.Canonical.{length-mapped}
use Rattle.spec_strata.proofs.Standing.Counts.{count_at, none-up-to, sum-zero, sum-cons}

-- ---- how many commits a thread has

runs-more : (q : Rule) (m : List ℕ) (p : Share) → length (share_more q m p).runs ≡ suc (length p.runs)
unfolding share_more
runs-more q m p = one_longer p.runs _
  where
    one_longer : (rs : List Run) (r : Run) → length (rs ++ r ∷ []) ≡ suc (length rs)
    one_longer [] r = refl
    one_longer (s ∷ rs) r = ap suc (one_longer rs r)

runs-are : (q : Rule) (m : List ℕ) (t : Parts) (i : ℕ) → length (alone q m t i).runs ≡ i
runs-are q m t zero = refl
runs-are q m t (suc i) = runs-more q _ (alone q m t i) ∙ ap suc (runs-are q m t i)

-- no thread has any that isn't there
abbrev pub OnlyOf : (threads : ℕ) → List ℕ → Type 0
OnlyOf n ds = (j : ℕ) → n ≤ j → count_at ds j ≡ 0

none-placed : (q : ℕ → Rule) (m : List ℕ) (ts : List Parts) (k : ℕ) → place k (shares_at q m ts (λ j. 0)) ≡ 0
none-placed q m [] k = refl
none-placed q m (t ∷ ts) zero = refl
none-placed q m (t ∷ ts) (suc k) = let h = none-placed (λ j. q (suc j)) m ts k in omega (arith, h)

-- the commits of threads up to one
pub place-is : (q : ℕ → Rule) (m : List ℕ) (ts : List Parts) (ds : List ℕ) (k : ℕ) → OnlyOf (length ts) ds → place k (shares_at q m ts (count_at ds)) ≡ done_up_to k ds
place-is q m [] ds k only = sym (none-up-to k ds (λ j. only j (omega arith)))
place-is q m (t ∷ ts) [] k only = none-placed q m (t ∷ ts) k
place-is q m (t ∷ ts) (d ∷ ds) zero only = runs-are (q 0) m t d
place-is q m (t ∷ ts) (d ∷ ds) (suc k) only =
    let a = runs-are (q 0) m t d in
    let h = place-is (λ j. q (suc j)) m ts ds k (λ j l. only (suc j) (omega (arith, l))) in omega (arith, a, h)

none-counted : (f : ℕ → Run → Commit) (q : ℕ → Rule) (m : List ℕ) (ts : List Parts) → length (commits_of f (shares_at q m ts (λ j. 0))) ≡ 0
none-counted f q m [] = refl
none-counted f q m (t ∷ ts) = none-counted (λ k. f (suc k)) (λ k. q (suc k)) m ts

-- the commits of all threads
pub length-is : (f : ℕ → Run → Commit) (q : ℕ → Rule) (m : List ℕ) (ts : List Parts) (ds : List ℕ) → OnlyOf (length ts) ds → length (commits_of f (shares_at q m ts (count_at ds))) ≡ sum ds
length-is f q m [] ds only = sym (sum-zero ds (λ j. only j (omega arith)))
length-is f q m (t ∷ ts) [] only = none-counted f q m (t ∷ ts)
length-is f q m (t ∷ ts) (d ∷ ds) only =
    let a = runs-are (q 0) m t d in
    let b = length-mapped (f 0) (alone (q 0) m t d).runs (commits_of (λ k. f (suc k)) (shares_at (λ k. q (suc k)) m ts (count_at ds))) in
    let c = sum-cons d ds in
    let h = length-is (λ k. f (suc k)) (λ k. q (suc k)) m ts ds (λ j l. only (suc j) (omega (arith, l))) in omega (arith, a, b, c, h)

-- ---- lists

-- the library's insert and insert_at give the same list
pub insert-is : {A : Type 0} (i : ℕ) (x : A) (xs : List A) → insert xs i x ≡ insert_at i x xs
insert-is zero x xs = refl
insert-is (suc i) x [] = refl
insert-is (suc i) x (y ∷ ys) = ap (λ (zs : List _). y ∷ zs) (insert-is i x ys)

abbrev AreThreads : List Commit → Type 0
AreThreads [] = Unit {0}
AreThreads (c ∷ cs) = ((k : ℕ) × (c.actor ≡ Actor.Thread k)) × AreThreads cs

threads-append : (cs ds : List Commit) → AreThreads cs → AreThreads ds → AreThreads (cs ++ ds)
threads-append [] ds a b = b
threads-append (c ∷ cs) ds a b = (a.0, threads-append cs ds a.1 b)

threads-map : (f : Run → Commit) (rs : List Run) → ((r : Run) → (k : ℕ) × ((f r).actor ≡ Actor.Thread k)) → AreThreads (map f rs)
threads-map f [] each = tt
threads-map f (r ∷ rs) each = (each r, threads-map f rs each)

-- if the commit of each run is a thread's, so is each commit of the shares
pub threads-of : (f : ℕ → Run → Commit) (ps : List Share) → ((j : ℕ) (r : Run) → (k : ℕ) × ((f j r).actor ≡ Actor.Thread k)) → AreThreads (commits_of f ps)
threads-of f [] each = tt
threads-of f (p ∷ ps) each =
    threads-append (map (f 0) p.runs) (commits_of (λ k. f (suc k)) ps) (threads-map (f 0) p.runs (each 0)) (threads-of (λ k. f (suc k)) ps (λ j. each (suc j)))

last-some : (c : Commit) (cs : List Commit) → AreThreads (c ∷ cs) → (k : ℕ) × (last_thread (c ∷ cs) ≡ Some k)
last-some c [] a = (a.0.0, ap thread_of a.0.1)
last-some c (d ∷ ds) a =
    let r = last-some d ds a.1 in (r.0, ap (λ (o : Option ℕ). option_or o (thread_of c.actor)) r.1)

-- one more before the end leaves the last
pub last-before : (n : ℕ) (c : Commit) (cs : List Commit) → AreThreads cs → n < length cs → last_thread (insert_at n c cs) ≡ last_thread cs
last-before n c [] a l = absurd (omega (arith, l))
last-before zero c (d ∷ ds) a l =
    let r = last-some d ds a in ap (λ (o : Option ℕ). option_or o (thread_of c.actor)) r.1 ∙ sym r.1
last-before (suc n) c (d ∷ ds) a l = ap (λ (o : Option ℕ). option_or o (thread_of d.actor)) (last-before n c ds a.1 (omega (arith, l)))

-- if a thread's commit is added at the end, that thread is the last one
pub last-at-end : (c : Commit) (cs : List Commit) (k : ℕ) → c.actor ≡ Actor.Thread k → last_thread (insert_at (length cs) c cs) ≡ Some k
last-at-end c [] k e = ap thread_of e
last-at-end c (d ∷ ds) k e = ap (λ (o : Option ℕ). option_or o (thread_of d.actor)) (last-at-end c ds k e)
