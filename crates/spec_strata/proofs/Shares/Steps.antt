-- Commits of a stratum, in whatever order, are each what their thread does alone.
use Rattle.std.proofs.Common.{◌≡◌, ◌≢◌, ℕ, zero, suc, ◌≤◌, ◌+◌, inl, inr, Bool, true, ◌||◌, List, [], ◌∷◌, ◌++◌, map, set, Option, Some, None, refl, sym, ap, ◌∙◌, subst, arith}
use Rattle.std.specs.Prelude.{slice_get, slice_set, option_map}
use Rattle.std.proofs.lemmas.Bool.{or_left, or_right, cases_eq, cases_lt, eq-eqb, ne_eqb}
use Rattle.std.proofs.lemmas.Option.{none-some}
use Rattle.spec_isa.specs.declared.thread.Parts.{Parts}
use Rattle.spec_isa.specs.Words.{Stored, lays, holds}
use Rattle.spec_play.specs.Touching.{Agree, Unseen}
use Rattle.spec_strata.specs.Footprints.{looks, IsAlike}
use Rattle.spec_strata.specs.Shares.{Rule, Share, empty_share, next_run, next_seen, share_more, alone, StratumState, with_more, commit_more, commits_more, stratum_start, bump, bumps, shares_at, words_of, state_at}
use Rattle.spec_strata.specs.Parallel.{OthersMiss, IsParallel, ParallelOnesStep, ParallelOnesInterleave}
use Rattle.spec_play.proofs.Local.Laying.{lays_append, lays-lays, Agree-lays, Agree-unseen, Agree_trans}
use Rattle.spec_strata.proofs.Local.Footprints.{commits_are_local, unseen-lack, Unseen-less}

-- ---- lists

-- setting one element of a list leaves the others as they were
pub get-set_other : {A : Type 0} (xs : List A) (k j : ℕ) (x : A) → j ≢ k → slice_get (set xs k x) j ≡ slice_get xs j
get-set_other [] k j x ne = refl
get-set_other (y ∷ ys) zero zero x ne = absurd (ne refl)
get-set_other (y ∷ ys) zero (suc j) x ne = refl
get-set_other (y ∷ ys) (suc k) zero x ne = refl
get-set_other (y ∷ ys) (suc k) (suc j) x ne = get-set_other ys k j x (λ e. ne (ap suc e))

-- an element that is set in a list is then found at its place
pub get-set_same : {A : Type 0} (xs : List A) (k : ℕ) (x y : A) → slice_get xs k ≡ Some y → slice_get (set xs k x) k ≡ Some x
get-set_same [] k x y e = absurd (none-some y e)
get-set_same (z ∷ zs) zero x y e = refl
get-set_same (z ∷ zs) (suc k) x y e = get-set_same zs k x y e

-- equal options that both have a value have the same value
pub same_some : {A : Type 0} (x y : A) → Some x ≡ Some y → x ≡ y
same_some x y e = cc

-- lists with the same elements are the same
pub same_by_get : {A : Type 0} (xs ys : List A) → ((j : ℕ) → slice_get xs j ≡ slice_get ys j) → xs ≡ ys
same_by_get [] [] e = refl
same_by_get [] (y ∷ ys) e = absurd (none-some y (e 0))
same_by_get (x ∷ xs) [] e = absurd (none-some x (sym (e 0)))
same_by_get (x ∷ xs) (y ∷ ys) e =
    let h : x ≡ y = same_some x y (e 0) in
    let r : xs ≡ ys = same_by_get xs ys (λ j. e (suc j)) in
    (λ i. h i ∷ r i)

-- if a function over an option gives y, the option has a value that the function takes to y
pub mapped : {A B : Type 0} (f : A → B) (o : Option A) (y : B) → option_map f o ≡ Some y → (x : A) × ((o ≡ Some x) × (f x ≡ y))
mapped f None y e = absurd (none-some y e)
mapped f (Some x) y e = (x, (refl, same_some (f x) y e))

-- ---- numbers of commits

-- one more commit of thread k makes k's number one more
pub bump_same : (c : ℕ → ℕ) (k : ℕ) → bump c k k ≡ suc (c k)
bump_same c k = rw (eq-eqb k k refl) refl

-- one more commit of thread k leaves the numbers of other threads as they were
pub bump_other : (c : ℕ → ℕ) (k j : ℕ) → j ≢ k → bump c k j ≡ c j
bump_other c k j ne = rw (ne_eqb j k ne) refl

-- one more commit makes no thread's number less
pub bump_more : (c : ℕ → ℕ) (k j : ℕ) → c j ≤ bump c k j
bump_more c k j =
    elim (cases_eq j k) [
      | inl e ↦ subst (λ (i : ℕ). c i ≤ bump c k i) (sym e) (let h = bump_same c k in omega arith)
      | inr ne ↦ (let h = bump_other c k j ne in omega arith)
    ]

-- any number of further commits make no thread's number less
pub bumps_more : (c : ℕ → ℕ) (ks : List ℕ) (j : ℕ) → c j ≤ bumps c ks j
bumps_more c [] j = omega arith
bumps_more c (k ∷ ks) j = let a = bump_more c k j in let b = bumps_more (bump c k) ks j in omega arith

-- ---- words that are unseen

pub Unseen-append : (seen : ℕ → Bool) (xs ys : List Stored) → Unseen seen xs → Unseen seen ys → Unseen seen (xs ++ ys)
Unseen-append seen [] ys p q = q
Unseen-append seen (x ∷ xs) ys p q = (p.0, Unseen-append seen xs ys p.1 q)

Unseen_left : (seen : ℕ → Bool) (xs ys : List Stored) → Unseen seen (xs ++ ys) → Unseen seen xs
Unseen_left seen [] ys p = tt
Unseen_left seen (x ∷ xs) ys p = (p.0, Unseen_left seen xs ys p.1)

pub Unseen-or : (s r : ℕ → Bool) (ws : List Stored) → Unseen s ws → Unseen r ws → Unseen (λ a. s a || r a) ws
Unseen-or s r [] p q = tt
Unseen-or s r (w ∷ ws) p q = ((λ i. p.0 i || q.0 i), Unseen-or s r ws p.1 q.1)

-- ---- each thread's part

-- the parts, one by one
pub shares_at-get : (q : ℕ → Rule) (m : List ℕ) (ts : List Parts) (done : ℕ → ℕ) (k : ℕ) → slice_get (shares_at q m ts done) k ≡ option_map (λ t. alone (q k) m t (done k)) (slice_get ts k)
shares_at-get q m [] done k = refl
shares_at-get q m (t ∷ ts) done zero = refl
shares_at-get q m (t ∷ ts) done (suc k) = shares_at-get (λ j. q (suc j)) m ts (λ j. done (suc j)) k

-- the share of a thread that is there is what it does alone
pub alone-get : (q : ℕ → Rule) (m : List ℕ) (ts : List Parts) (done : ℕ → ℕ) (k : ℕ) (t : Parts) → slice_get ts k ≡ Some t → slice_get (shares_at q m ts done) k ≡ Some (alone (q k) m t (done k))
alone-get q m ts done k t is = shares_at-get q m ts done k ∙ ap (λ (o : Option Parts). option_map (λ u. alone (q k) m u (done k)) o) is

-- putting one more commit of thread k alone in its share gives the shares with k's number one more
pub alone-set : (q : ℕ → Rule) (m : List ℕ) (ts : List Parts) (done : ℕ → ℕ) (k : ℕ) (t : Parts) → slice_get ts k ≡ Some t → slice_set (shares_at q m ts done) k (alone (q k) m t (suc (done k))) ≡ shares_at q m ts (bump done k)
alone-set q m ts done k t is =
    let new : Share = alone (q k) m t (suc (done k)) in
    let there : slice_get (slice_set (shares_at q m ts done) k new) k ≡ slice_get (shares_at q m ts (bump done k)) k =
    get-set_same (shares_at q m ts done) k new (alone (q k) m t (done k)) (alone-get q m ts done k t is)
    ∙ ap (λ (n : ℕ). Some (alone (q k) m t n)) (sym (bump_same done k))
    ∙ sym (alone-get q m ts (bump done k) k t is) in
    same_by_get _ _
    (λ j. elim (cases_eq j k) [
      | inl e ↦ subst (λ (i : ℕ). slice_get (slice_set (shares_at q m ts done) k new) i ≡ slice_get (shares_at q m ts (bump done k)) i) (sym e) there
      | inr ne ↦ get-set_other (shares_at q m ts done) k j new ne ∙ shares_at-get q m ts done j
          ∙ ap (λ (n : ℕ). option_map (λ u. alone (q j) m u n) (slice_get ts j)) (sym (bump_other done k j ne))
          ∙ sym (shares_at-get q m ts (bump done k) j)
    ])

-- what it has seen grows, and its words too
pub seen_more : (q : Rule) (m : List ℕ) (t : Parts) (i n a : ℕ) → i ≤ n → (alone q m t i).seen a ≡ true → (alone q m t n).seen a ≡ true
unfolding share_more
seen_more q m t i zero a l e = let h : i ≡ 0 = omega arith in subst (λ (k : ℕ). (alone q m t k).seen a ≡ true) h e
seen_more q m t i (suc n) a l e =
    elim (cases_lt i (suc n)) [
      | inl h ↦ or_left _ _ (seen_more q m t i n a (omega arith) e)
      | inr h ↦ (let same : i ≡ suc n = omega arith in subst (λ (k : ℕ). (alone q m t k).seen a ≡ true) same e)
    ]

-- if the words of a thread's first n commits are unseen, so are those of fewer of its commits
pub words_fewer : (q : Rule) (m : List ℕ) (t : Parts) (seen : ℕ → Bool) (i n : ℕ) → i ≤ n → Unseen seen (alone q m t n).words → Unseen seen (alone q m t i).words
unfolding share_more
words_fewer q m t seen i zero l u = let h : 0 ≡ i = omega arith in subst (λ (k : ℕ). Unseen seen (alone q m t k).words) h u
words_fewer q m t seen i (suc n) l u =
    let p : Share = alone q m t n in
    elim (cases_lt i (suc n)) [
      | inl h ↦ words_fewer q m t seen i n (omega arith) (Unseen_left seen p.words (next_run q (lays m p.words) p).words u)
      | inr h ↦ (let same : suc n ≡ i = omega arith in subst (λ (k : ℕ). Unseen seen (alone q m t k).words) same u)
    ]

-- ---- the memory of a stratum

unseen-all : (seen : ℕ → Bool) (ps : List Share) → ((j : ℕ) (p : Share) → slice_get ps j ≡ Some p → Unseen seen p.words) → Unseen seen (words_of ps)
unseen-all seen [] all = tt
unseen-all seen (p ∷ ps) all = Unseen-append seen p.words (words_of ps) (all 0 p refl) (unseen-all seen ps (λ j o e. all (suc j) o e))

-- if the other threads store no word that is seen, that is still so without the first share
pub miss_tail : (seen : ℕ → Bool) (k : ℕ) (p : Share) (ps : List Share) → OthersMiss seen (suc k) (p ∷ ps) → OthersMiss seen k ps
miss_tail seen k p ps h = record { each = λ j o ne e. h.each (suc j) o (λ same. ne (omega arith)) e }

-- if threads other than the first store no word that is seen, all their words together are unseen
pub behind : (seen : ℕ → Bool) (p : Share) (ps : List Share) → OthersMiss seen 0 (p ∷ ps) → Unseen seen (words_of ps)
behind seen p ps h = unseen-all seen ps (λ j o e. h.each (suc j) o (λ same. omega arith) e)

-- where the others store no word that is seen, a thread's own memory agrees there with that of all
pub agree-others : (seen : ℕ → Bool) (m : List ℕ) (ps : List Share) (k : ℕ) (p : Share) → slice_get ps k ≡ Some p → OthersMiss seen k ps → Agree seen (lays m p.words) (lays m (words_of ps))
agree-others seen m [] k p e h = absurd (none-some p e)
agree-others seen m (o ∷ os) zero p e h =
    let same : o ≡ p = same_some o p e in
    subst (λ (x : Share). Agree seen (lays m x.words) (lays m (o.words ++ words_of os))) same
    (subst (λ (n : List ℕ). Agree seen (lays m o.words) n) (sym (lays_append m o.words (words_of os)))
    (Agree-unseen seen (lays m o.words) (words_of os) (behind seen o os h)))
agree-others seen m (o ∷ os) (suc k) p e h =
    subst (λ (n : List ℕ). Agree seen (lays m p.words) n) (sym (lays_append m o.words (words_of os)))
    (Agree_trans seen (lays m p.words) (lays (lays m o.words) p.words) (lays (lays m o.words) (words_of os))
    (Agree-lays seen m (lays m o.words) p.words (Agree-unseen seen m o.words (h.each 0 o (λ same. omega arith) refl)))
    (agree-others seen (lays m o.words) os k p e (miss_tail seen k o os h)))

-- words of thread k laid last are laid as the last of its own
pub laid-more : (seen : ℕ → Bool) (m : List ℕ) (ps : List Share) (k : ℕ) (p r : Share) (ws : List Stored) → slice_get ps k ≡ Some p → r.words ≡ p.words ++ ws → ((a : ℕ) → holds ws a ≡ true → seen a ≡ true) → OthersMiss seen k ps
    → lays (lays m (words_of ps)) ws ≡ lays m (words_of (slice_set ps k r))
laid-more seen m [] k p r ws e new all h = absurd (none-some p e)
laid-more seen m (o ∷ os) zero p r ws e new all h =
    let same : p ≡ o = sym (same_some o p e) in
    let words : r.words ≡ o.words ++ ws = new ∙ ap (λ (x : Share). x.words ++ ws) same in
    ap (λ (n : List ℕ). lays n ws) (lays_append m o.words (words_of os))
    ∙ lays-lays (lays m o.words) (words_of os) ws (unseen-lack seen (words_of os) ws all (behind seen o os h))
    ∙ ap (λ (n : List ℕ). lays n (words_of os)) (sym (lays_append m o.words ws))
    ∙ ap (λ (vs : List Stored). lays (lays m vs) (words_of os)) (sym words)
    ∙ sym (lays_append m r.words (words_of os))
laid-more seen m (o ∷ os) (suc k) p r ws e new all h =
    ap (λ (n : List ℕ). lays n ws) (lays_append m o.words (words_of os))
    ∙ laid-more seen (lays m o.words) os k p r ws e new all (miss_tail seen k o os h)
    ∙ sym (lays_append m o.words (words_of (slice_set os k r)))

-- ---- one commit more

-- if a thread's next commit is alike on two memories, its share with that commit is the same
pub share_more-alike : (q : Rule) (m n : List ℕ) (p : Share) → IsAlike m n p.thread (q.size p.thread) → share_more q n p ≡ share_more q m p
unfolding share_more
share_more-alike q m n p a =
    (λ i. record {
      thread = q.settle (a.same_run i).thread;
      words = p.words ++ (a.same_run i).words;
      seen = (λ x. p.seen x || a.same_words i x);
      runs = p.runs ++ a.same_run i ∷ [];
      raised = p.raised + q.raises (a.same_run i).thread;
    })

-- with one more commit, a share's words are those before and then those of the commit's run
pub more-words : (q : Rule) (m : List ℕ) (p : Share) → (share_more q m p).words ≡ p.words ++ (next_run q m p).words
unfolding share_more
more-words q m p = refl

-- where no other thread has stored a word of its footprint, thread k's next commit is the one that it does alone
pub one-more : (q : ℕ → Rule) (m : List ℕ) (ts : List Parts) (done : ℕ → ℕ) (k : ℕ) (t : Parts) → slice_get ts k ≡ Some t
    → let p = alone (q k) m t (done k) in OthersMiss (next_seen (q k) (lays m p.words) p) k (shares_at q m ts done)
    → commit_more q (state_at q m ts done) k ≡ state_at q m ts (bump done k)
unfolding commit_more state_at
one-more q m ts done k t is miss =
    let p : Share = alone (q k) m t (done k) in
    let ps : List Share = shares_at q m ts done in
    let base : List ℕ = lays m p.words in
    let now : List ℕ = lays m (words_of ps) in
    let seen : ℕ → Bool = next_seen (q k) base p in
    let there : slice_get ps k ≡ Some p = alone-get q m ts done k t is in
    let a : IsAlike base now p.thread ((q k).size p.thread) = commits_are_local base now p.thread ((q k).size p.thread) (agree-others seen m ps k p there miss) in
    let x : StratumState = record { memory = now; shares = ps } in
    let r : Share = share_more (q k) base p in
    let all : slice_set ps k r ≡ shares_at q m ts (bump done k) = alone-set q m ts done k t is in
    ap (with_more q x k) there
    ∙ (λ i. record { memory = lays now (a.same_run i).words; shares = slice_set ps k (share_more-alike (q k) base now p a i) })
    ∙ ap (λ (n : List ℕ). record { memory = n; shares = slice_set ps k r })
    (laid-more seen m ps k p r (next_run (q k) base p).words there (more-words (q k) base p) (λ n h. or_right (looks base p.thread ((q k).size p.thread) n) _ h) miss)
    ∙ ap (λ (os : List Share). record { memory = lays m (words_of os); shares = os }) all

-- a thread that is not there changes nothing
pub no-more : (q : ℕ → Rule) (m : List ℕ) (ts : List Parts) (done : ℕ → ℕ) (k : ℕ) → slice_get ts k ≡ None → commit_more q (state_at q m ts done) k ≡ state_at q m ts (bump done k)
unfolding commit_more state_at
no-more q m ts done k none =
    let ps : List Share = shares_at q m ts done in
    let x : StratumState = record { memory = lays m (words_of ps); shares = ps } in
    let there : slice_get ps k ≡ None = shares_at-get q m ts done k ∙ ap (λ (o : Option Parts). option_map (λ u. alone (q k) m u (done k)) o) none in
    let all : ps ≡ shares_at q m ts (bump done k) =
    same_by_get _ _
    (λ j. shares_at-get q m ts done j
    ∙ (elim (cases_eq j k) [
      | inl e ↦ (let gone : slice_get ts j ≡ None = ap (slice_get ts) e ∙ none in
          ap (λ (o : Option Parts). option_map (λ u. alone (q j) m u (done j)) o) gone
          ∙ sym (ap (λ (o : Option Parts). option_map (λ u. alone (q j) m u (bump done k j)) o) gone))
      | inr ne ↦ ap (λ (n : ℕ). option_map (λ u. alone (q j) m u n) (slice_get ts j)) (sym (bump_other done k j ne))
    ])
    ∙ sym (shares_at-get q m ts (bump done k) j)) in
    ap (with_more q x k) there ∙ ap (λ (os : List Share). record { memory = lays m (words_of os); shares = os }) all

-- ---- parallel commits

-- of parallel commits, the next one of thread k has in its footprint no word that others have stored by then
pub misses : (q : ℕ → Rule) (m : List ℕ) (ts : List Parts) (count done : ℕ → ℕ) (k : ℕ) (t : Parts) → slice_get ts k ≡ Some t → IsParallel q m ts count → ((j : ℕ) → bump done k j ≤ count j)
    → let p = alone (q k) m t (done k) in OthersMiss (next_seen (q k) (lays m p.words) p) k (shares_at q m ts done)
unfolding share_more
misses q m ts count done k t is parallel few =
    let p : Share = alone (q k) m t (done k) in
    let seen : ℕ → Bool = next_seen (q k) (lays m p.words) p in
    let within : (a : ℕ) → seen a ≡ true → (alone (q k) m t (count k)).seen a ≡ true =
    (λ a e. seen_more (q k) m t (suc (done k)) (count k) a (let f = few k in let h = bump_same done k in omega arith) (or_right (p.seen a) _ e)) in
    record {
      each = λ j o ne e.
          let f = mapped (λ u. alone (q j) m u (done j)) (slice_get ts j) o (sym (shares_at-get q m ts done j) ∙ e) in
          let u : Parts = f.0 in
          let all : Unseen (alone (q k) m t (count k)).seen (alone (q j) m u (count j)).words = parallel.apart j k u t ne f.1.0 is in
          let some : Unseen (alone (q k) m t (count k)).seen (alone (q j) m u (done j)).words =
          words_fewer (q j) m u (alone (q k) m t (count k)).seen (done j) (count j) (let g = few j in let h = bump_more done k j in omega arith) all in
          subst (λ (x : Share). Unseen seen x.words) f.1.1
          (Unseen-less (alone (q k) m t (count k)).seen seen (alone (q j) m u (done j)).words within some);
    }

step-found : (q : ℕ → Rule) (m : List ℕ) (ts : List Parts) (count done : ℕ → ℕ) (k : ℕ) (o : Option Parts) → slice_get ts k ≡ o → IsParallel q m ts count → ((j : ℕ) → bump done k j ≤ count j)
    → commit_more q (state_at q m ts done) k ≡ state_at q m ts (bump done k)
step-found q m ts count done k None is parallel few = no-more q m ts done k is
step-found q m ts count done k (Some t) is parallel few = one-more q m ts done k t is (misses q m ts count done k t is parallel few)

-- of parallel commits, the next one of any thread is what that thread does alone
pub parallel_ones_step : ParallelOnesStep
parallel_ones_step q m ts count done k parallel few = step-found q m ts count done k (slice_get ts k) refl parallel few

-- from any point on
steps-on : (q : ℕ → Rule) (m : List ℕ) (ts : List Parts) (count done : ℕ → ℕ) (ks : List ℕ) → IsParallel q m ts count → ((j : ℕ) → bumps done ks j ≤ count j)
    → commits_more q (state_at q m ts done) ks ≡ state_at q m ts (bumps done ks)
steps-on q m ts count done [] parallel few = refl
steps-on q m ts count done (k ∷ ks) parallel few =
    ap (λ (x : StratumState). commits_more q x ks)
    (parallel_ones_step q m ts count done k parallel (λ j. let a = bumps_more (bump done k) ks j in let b = few j in omega arith))
    ∙ steps-on q m ts count (bump done k) ks parallel few

starts : (q : ℕ → Rule) (m : List ℕ) (ts : List Parts) → map empty_share ts ≡ shares_at q m ts (λ k. 0)
starts q m [] = refl
starts q m (t ∷ ts) = ap (λ (ps : List Share). empty_share t ∷ ps) (starts (λ k. q (suc k)) m ts)

no-words : (ts : List Parts) → words_of (map empty_share ts) ≡ []
no-words [] = refl
no-words (t ∷ ts) = no-words ts

-- the start of a stratum is its state with no commits done
pub at-start : (q : ℕ → Rule) (m : List ℕ) (ts : List Parts) → stratum_start m ts ≡ state_at q m ts (λ k. 0)
unfolding state_at
at-start q m ts =
    ap (λ (ws : List Stored). record { memory = lays m ws; shares = map empty_share ts }) (sym (no-words ts))
    ∙ ap (λ (os : List Share). record { memory = lays m (words_of os); shares = os }) (starts q m ts)

-- parallel commits, done in any order, leave the state that their numbers give
pub parallel_ones_interleave : ParallelOnesInterleave
parallel_ones_interleave q m ts count ks parallel few =
    ap (λ (x : StratumState). commits_more q x ks) (at-start q m ts) ∙ steps-on q m ts count (λ k. 0) ks parallel few
