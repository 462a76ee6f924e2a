-- Commits that are checked one after the other are parallel.
use Rattle.std.proofs.Common.{◌≡◌, ◌≢◌, ℕ, suc, ◌≤◌, inl, inr, ◌⊎◌, Bool, List, [], ◌∷◌, ◌++◌, Option, Some, None, refl, sym, ap, ◌∙◌, subst, arith}
use Rattle.std.specs.Prelude.{slice_get}
use Rattle.std.proofs.lemmas.Bool.{cases_eq}
use Rattle.std.proofs.lemmas.Option.{none-some}
use Rattle.spec_isa.specs.declared.thread.Parts.{Parts}
use Rattle.spec_isa.specs.Words.{Stored, lays}
use Rattle.spec_isa.specs.Runs.{Run}
use Rattle.spec_play.specs.Touching.{Agree, Unseen}
use Rattle.spec_strata.specs.Footprints.{IsAlike}
use Rattle.spec_strata.specs.Shares.{Rule, Share, next_run, next_seen, share_more, alone, StratumState, commit_more, commits_more, bump, bumps, shares_at, words_of, state_at}
use Rattle.spec_strata.specs.Parallel.{OthersMiss, OthersBlind, IsClear, AreClear, IsParallel, ClearOnesAreParallel, ParallelOnesAreClear}
use Rattle.spec_strata.proofs.Local.Footprints.{commits_are_local, Unseen-less}
use Rattle.spec_strata.proofs.Shares.Steps.{same_some, mapped, misses, bump_more, bumps_more, seen_more, words_fewer, shares_at-get, parallel_ones_step, bump_same, bump_other, Unseen-append, Unseen-or, alone-get, agree-others, one-more, no-more, at-start}

pub Agree_sym : (seen : ℕ → Bool) (m n : List ℕ) → Agree seen m n → Agree seen n m
Agree_sym seen m n g = record { size = sym g.size; bytes = λ i e. sym (g.bytes i e) }

-- what the next commit is on memory of its thread alone, and that it conflicts there with none that others have done
pub record Clear (q : ℕ → Rule) (m : List ℕ) (ts : List Parts) (done : ℕ → ℕ) (k : ℕ) (p : Share) : Type 0 where
  pub miss : OthersMiss (next_seen (q k) (lays m p.words) p) k (shares_at q m ts done)
  pub blind : OthersBlind (next_run (q k) (lays m p.words) p).words k (shares_at q m ts done)

-- a commit that is clear on the stratum's memory is clear on the memory of its thread alone
pub clear-alone : (q : ℕ → Rule) (m : List ℕ) (ts : List Parts) (done : ℕ → ℕ) (k : ℕ) (t : Parts) → slice_get ts k ≡ Some t → let p = alone (q k) m t (done k) in
    IsClear (q k) (state_at q m ts done) k p → Clear q m ts done k p
unfolding state_at
clear-alone q m ts done k t is c =
    let p : Share = alone (q k) m t (done k) in
    let ps : List Share = shares_at q m ts done in
    let base : List ℕ = lays m p.words in
    let now : List ℕ = lays m (words_of ps) in
    let g = agree-others (next_seen (q k) now p) m ps k p (alone-get q m ts done k t is) c.miss in
    let a : IsAlike now base p.thread ((q k).size p.thread) = commits_are_local now base p.thread ((q k).size p.thread) (Agree_sym _ base now g) in
    record {
      miss = subst (λ (seen : ℕ → Bool). OthersMiss seen k ps) (sym a.same_words) c.miss;
      blind = subst (λ (r : Run). OthersBlind r.words k ps) (sym a.same_run) c.blind;
    }

abbrev Pair : (ℕ → Rule) → List ℕ → (i j : ℕ) (u v : Parts) (a b : ℕ) → Type 0
Pair q m i j u v a b = Unseen (alone (q j) m v b).seen (alone (q i) m u a).words

same-thread : (ts : List Parts) (i k : ℕ) (u t : Parts) → i ≡ k → slice_get ts i ≡ Some u → slice_get ts k ≡ Some t → u ≡ t
same-thread ts i k u t e u_is t_is = same_some u t (sym u_is ∙ ap (slice_get ts) e ∙ t_is)

-- thread k stores words that another has not seen
stores-apart : (q : ℕ → Rule) (m : List ℕ) (ts : List Parts) (done : ℕ → ℕ) (k : ℕ) (t : Parts) → slice_get ts k ≡ Some t → Clear q m ts done k (alone (q k) m t (done k)) → IsParallel q m ts done
    → (j : ℕ) (v : Parts) → k ≢ j → slice_get ts j ≡ Some v → Pair q m k j t v (suc (done k)) (done j)
unfolding share_more
stores-apart q m ts done k t is c parallel j v ne v_is =
    let p : Share = alone (q k) m t (done k) in
    let o : Share = alone (q j) m v (done j) in
    Unseen-append o.seen p.words (next_run (q k) (lays m p.words) p).words (parallel.apart k j t v ne is v_is)
    (c.blind.each j o (λ e. ne (sym e)) (alone-get q m ts done j v v_is))

-- thread k has seen no words that another stores
sees-apart : (q : ℕ → Rule) (m : List ℕ) (ts : List Parts) (done : ℕ → ℕ) (k : ℕ) (t : Parts) → slice_get ts k ≡ Some t → Clear q m ts done k (alone (q k) m t (done k)) → IsParallel q m ts done
    → (i : ℕ) (u : Parts) → i ≢ k → slice_get ts i ≡ Some u → Pair q m i k u t (done i) (suc (done k))
unfolding share_more
sees-apart q m ts done k t is c parallel i u ne u_is =
    let p : Share = alone (q k) m t (done k) in
    let o : Share = alone (q i) m u (done i) in
    Unseen-or p.seen (next_seen (q k) (lays m p.words) p) o.words (parallel.apart i k u t ne u_is is)
    (c.miss.each i o ne (alone-get q m ts done i u u_is))

pair-apart : (q : ℕ → Rule) (m : List ℕ) (ts : List Parts) (done : ℕ → ℕ) (k : ℕ) (t : Parts) → slice_get ts k ≡ Some t → Clear q m ts done k (alone (q k) m t (done k)) → IsParallel q m ts done
    → (i j : ℕ) (u v : Parts) → i ≢ j → slice_get ts i ≡ Some u → slice_get ts j ≡ Some v → (i ≡ k) ⊎ (i ≢ k) → (j ≡ k) ⊎ (j ≢ k) → Pair q m i j u v (bump done k i) (bump done k j)
pair-apart q m ts done k t is c parallel i j u v ne u_is v_is (inl ik) (inl jk) = absurd (ne (ik ∙ sym jk))
pair-apart q m ts done k t is c parallel i j u v ne u_is v_is (inr ik) (inr jk) =
    subst (λ (a : ℕ). Pair q m i j u v a (bump done k j)) (sym (bump_other done k i ik))
    (subst (λ (b : ℕ). Pair q m i j u v (done i) b) (sym (bump_other done k j jk)) (parallel.apart i j u v ne u_is v_is))
pair-apart q m ts done k t is c parallel i j u v ne u_is v_is (inl ik) (inr jk) =
    subst (λ (x : ℕ). Pair q m x j u v (bump done k x) (bump done k j)) (sym ik)
    (subst (λ (x : Parts). Pair q m k j x v (bump done k k) (bump done k j)) (sym (same-thread ts i k u t ik u_is is))
    (subst (λ (a : ℕ). Pair q m k j t v a (bump done k j)) (sym (bump_same done k))
    (subst (λ (b : ℕ). Pair q m k j t v (suc (done k)) b) (sym (bump_other done k j jk))
    (stores-apart q m ts done k t is c parallel j v (λ e. jk (sym e)) v_is))))
pair-apart q m ts done k t is c parallel i j u v ne u_is v_is (inr ik) (inl jk) =
    subst (λ (x : ℕ). Pair q m i x u v (bump done k i) (bump done k x)) (sym jk)
    (subst (λ (x : Parts). Pair q m i k u x (bump done k i) (bump done k k)) (sym (same-thread ts j k v t jk v_is is))
    (subst (λ (b : ℕ). Pair q m i k u t (bump done k i) b) (sym (bump_same done k))
    (subst (λ (a : ℕ). Pair q m i k u t a (suc (done k))) (sym (bump_other done k i ik))
    (sees-apart q m ts done k t is c parallel i u ik u_is))))

-- one commit more that was clear
pub more-parallel : (q : ℕ → Rule) (m : List ℕ) (ts : List Parts) (done : ℕ → ℕ) (k : ℕ) (t : Parts) → slice_get ts k ≡ Some t → Clear q m ts done k (alone (q k) m t (done k)) → IsParallel q m ts done → IsParallel q m ts (bump done k)
more-parallel q m ts done k t is c parallel =
    record { apart = λ i j u v ne u_is v_is. pair-apart q m ts done k t is c parallel i j u v ne u_is v_is (cases_eq i k) (cases_eq j k) }

-- with no commits done, a stratum is parallel
pub none-parallel : (q : ℕ → Rule) (m : List ℕ) (ts : List Parts) → IsParallel q m ts (λ k. 0)
none-parallel q m ts = record { apart = λ j k t u ne t_is u_is. tt }

-- with a thread that is not there nothing more is done
gone-parallel : (q : ℕ → Rule) (m : List ℕ) (ts : List Parts) (done : ℕ → ℕ) (k : ℕ) → slice_get ts k ≡ None → IsParallel q m ts done → IsParallel q m ts (bump done k)
gone-parallel q m ts done k none parallel =
    record {
      apart = λ i j u v ne u_is v_is.
          let there : (x : ℕ) (w : Parts) → slice_get ts x ≡ Some w → x ≢ k = (λ x w w_is e. none-some w (sym none ∙ ap (slice_get ts) (sym e) ∙ w_is)) in
          subst (λ (a : ℕ). Pair q m i j u v a (bump done k j)) (sym (bump_other done k i (there i u u_is)))
          (subst (λ (b : ℕ). Pair q m i j u v (done i) b) (sym (bump_other done k j (there j v v_is))) (parallel.apart i j u v ne u_is v_is));
    }

-- the shares in a stratum's state are what the threads do alone
pub shares-of : (q : ℕ → Rule) (m : List ℕ) (ts : List Parts) (done : ℕ → ℕ) → (state_at q m ts done).shares ≡ shares_at q m ts done
unfolding state_at
shares-of q m ts done = refl

pub record Stepped (q : ℕ → Rule) (m : List ℕ) (ts : List Parts) (done : ℕ → ℕ) (k : ℕ) : Type 0 where
  pub same : commit_more q (state_at q m ts done) k ≡ state_at q m ts (bump done k)
  pub parallel : IsParallel q m ts (bump done k)

-- a next commit that is clear is what its thread does alone, and with it all are still parallel
pub checked-step : (q : ℕ → Rule) (m : List ℕ) (ts : List Parts) (done : ℕ → ℕ) (k : ℕ) (o : Option Parts) → slice_get ts k ≡ o → IsParallel q m ts done
    → ((p : Share) → slice_get (state_at q m ts done).shares k ≡ Some p → IsClear (q k) (state_at q m ts done) k p) → Stepped q m ts done k
checked-step q m ts done k None is parallel clear =
    record { same = no-more q m ts done k is; parallel = gone-parallel q m ts done k is parallel }
checked-step q m ts done k (Some t) is parallel clear =
    let p : Share = alone (q k) m t (done k) in
    let c : Clear q m ts done k p = clear-alone q m ts done k t is (clear p (ap (λ (os : List Share). slice_get os k) (shares-of q m ts done) ∙ alone-get q m ts done k t is)) in
    record { same = one-more q m ts done k t is c.miss; parallel = more-parallel q m ts done k t is c parallel }

checked-on : (q : ℕ → Rule) (m : List ℕ) (ts : List Parts) (done : ℕ → ℕ) (ks : List ℕ) → IsParallel q m ts done → AreClear q (state_at q m ts done) ks
    → (commits_more q (state_at q m ts done) ks ≡ state_at q m ts (bumps done ks)) × IsParallel q m ts (bumps done ks)
checked-on q m ts done [] parallel clear = (refl, parallel)
checked-on q m ts done (k ∷ ks) parallel clear =
    let s : Stepped q m ts done k = checked-step q m ts done k (slice_get ts k) refl parallel clear.0 in
    let rest = checked-on q m ts (bump done k) ks s.parallel (subst (λ (x : StratumState). AreClear q x ks) s.same clear.1) in
    (ap (λ (x : StratumState). commits_more q x ks) s.same ∙ rest.0, rest.1)

-- commits that are clear one after the other are parallel, and are what their threads do alone
pub clear_ones_are_parallel : ClearOnesAreParallel
clear_ones_are_parallel q m ts ks clear =
    let start = at-start q m ts in
    let rest = checked-on q m ts (λ k. 0) ks (none-parallel q m ts) (subst (λ (x : StratumState). AreClear q x ks) start clear) in
    (ap (λ (x : StratumState). commits_more q x ks) start ∙ rest.0, rest.1)

-- ---- and the other way round

pub Unseen_right : (seen : ℕ → Bool) (xs ys : List Stored) → Unseen seen (xs ++ ys) → Unseen seen ys
Unseen_right seen [] ys p = p
Unseen_right seen (x ∷ xs) ys p = Unseen_right seen xs ys p.1

-- what thread k's next commit stores, others have not seen
blinds : (q : ℕ → Rule) (m : List ℕ) (ts : List Parts) (count done : ℕ → ℕ) (k : ℕ) (t : Parts) → slice_get ts k ≡ Some t → IsParallel q m ts count → ((j : ℕ) → bump done k j ≤ count j)
    → let p = alone (q k) m t (done k) in OthersBlind (next_run (q k) (lays m p.words) p).words k (shares_at q m ts done)
unfolding share_more
blinds q m ts count done k t is parallel few =
    let p : Share = alone (q k) m t (done k) in
    let ws : List Stored = (next_run (q k) (lays m p.words) p).words in
    record {
      each = λ j o ne e.
          let f = mapped (λ u. alone (q j) m u (done j)) (slice_get ts j) o (sym (shares_at-get q m ts done j) ∙ e) in
          let u : Parts = f.0 in
          let all : Unseen (alone (q j) m u (count j)).seen (alone (q k) m t (count k)).words = parallel.apart k j t u (λ s. ne (sym s)) is f.1.0 in
          let few_k : suc (done k) ≤ count k = (let g = few k in let h = bump_same done k in omega arith) in
          let few_j : done j ≤ count j = (let g = few j in let h = bump_more done k j in omega arith) in
          let some : Unseen (alone (q j) m u (count j)).seen (p.words ++ ws) = words_fewer (q k) m t (alone (q j) m u (count j)).seen (suc (done k)) (count k) few_k all in
          subst (λ (x : Share). Unseen x.seen ws) f.1.1
          (Unseen-less (alone (q j) m u (count j)).seen (alone (q j) m u (done j)).seen ws (λ a h. seen_more (q j) m u (done j) (count j) a few_j h)
          (Unseen_right (alone (q j) m u (count j)).seen p.words ws some));
    }

clear-here : (q : ℕ → Rule) (m : List ℕ) (ts : List Parts) (count done : ℕ → ℕ) (k : ℕ) (t : Parts) → slice_get ts k ≡ Some t → IsParallel q m ts count → ((j : ℕ) → bump done k j ≤ count j)
    → IsClear (q k) (state_at q m ts done) k (alone (q k) m t (done k))
unfolding state_at
clear-here q m ts count done k t is parallel few =
    let p : Share = alone (q k) m t (done k) in
    let ps : List Share = shares_at q m ts done in
    let base : List ℕ = lays m p.words in
    let now : List ℕ = lays m (words_of ps) in
    let miss : OthersMiss (next_seen (q k) base p) k ps = misses q m ts count done k t is parallel few in
    let a : IsAlike base now p.thread ((q k).size p.thread) = commits_are_local base now p.thread ((q k).size p.thread) (agree-others (next_seen (q k) base p) m ps k p (alone-get q m ts done k t is) miss) in
    record {
      miss = subst (λ (seen : ℕ → Bool). OthersMiss seen k ps) (sym a.same_words) miss;
      blind = subst (λ (r : Run). OthersBlind r.words k ps) (sym a.same_run) (blinds q m ts count done k t is parallel few);
    }

clear-found : (q : ℕ → Rule) (m : List ℕ) (ts : List Parts) (count done : ℕ → ℕ) (k : ℕ) (p : Share) → IsParallel q m ts count → ((j : ℕ) → bump done k j ≤ count j)
    → slice_get (state_at q m ts done).shares k ≡ Some p → IsClear (q k) (state_at q m ts done) k p
clear-found q m ts count done k p parallel few e =
    let f = mapped (λ t. alone (q k) m t (done k)) (slice_get ts k) p (sym (shares_at-get q m ts done k) ∙ ap (λ (os : List Share). slice_get os k) (sym (shares-of q m ts done)) ∙ e) in
    subst (IsClear (q k) (state_at q m ts done) k) f.1.1 (clear-here q m ts count done k f.0 f.1.0 parallel few)

clear-on : (q : ℕ → Rule) (m : List ℕ) (ts : List Parts) (count done : ℕ → ℕ) (ks : List ℕ) → IsParallel q m ts count → ((j : ℕ) → bumps done ks j ≤ count j) → AreClear q (state_at q m ts done) ks
clear-on q m ts count done [] parallel few = tt
clear-on q m ts count done (k ∷ ks) parallel few =
    let one : (j : ℕ) → bump done k j ≤ count j = (λ j. let a = bumps_more (bump done k) ks j in let b = few j in omega arith) in (
      (λ p e. clear-found q m ts count done k p parallel one e),
      subst (λ (x : StratumState). AreClear q x ks) (sym (parallel_ones_step q m ts count done k parallel one)) (clear-on q m ts count (bump done k) ks parallel few),
    )

-- parallel commits are clear one after the other, in any order
pub parallel_ones_are_clear : ParallelOnesAreClear
parallel_ones_are_clear q m ts count ks parallel few =
    subst (λ (x : StratumState). AreClear q x ks) (sym (at-start q m ts)) (clear-on q m ts count (λ k. 0) ks parallel few)
