-- Commits of a stratum that don't conflict, tested one after the other or known of all of them at once.
use Rattle.std.specs.Prelude.{◌≡◌, ℕ, zero, suc, ◌<◌, Bool, false, ◌||◌, List, [], ◌∷◌, Some, None, ◌≢◌, ◌≤◌, slice_get}
use Rattle.spec_isa.specs.declared.thread.Parts.{Parts}
use Rattle.spec_isa.specs.Words.{Stored, lays}
use Rattle.spec_strata.specs.Shares.{counts_of, Share, stratum_start, bump, StratumState, Rule, commit_more, state_at, commits_more, next_seen, next_run, alone}
use Rattle.spec_play.specs.Touching.{Unseen}
use Rattle.spec_strata.specs.Footprints.{meets}

-- ---- one after the other

-- no thread but k stores a word that is seen
pub record OthersMiss (seen : ℕ → Bool) (k : ℕ) (shares : List Share) : Type 0 where
  pub each : (j : ℕ) (p : Share) → j ≢ k → slice_get shares j ≡ Some p → Unseen seen p.words

-- no thread but k has seen a word that is stored
pub record OthersBlind (words : List Stored) (k : ℕ) (shares : List Share) : Type 0 where
  pub each : (j : ℕ) (p : Share) → j ≢ k → slice_get shares j ≡ Some p → Unseen p.seen words

-- the next commit of a thread, done on the memory as it is, conflicts with none that another thread has done
pub record IsClear (q : Rule) (x : StratumState) (k : ℕ) (p : Share) : Type 0 where
  pub miss : OthersMiss (next_seen q x.memory p) k x.shares
  pub blind : OthersBlind (next_run q x.memory p).words k x.shares

-- so it is with each of these threads' commits, one after the other
abbrev pub AreClear : (ℕ → Rule) → StratumState → List ℕ → Type 0
AreClear q x [] = Unit {0}
AreClear q x (k ∷ ks) =
    ((p : Share) → slice_get x.shares k ≡ Some p → IsClear (q k) x k p) × AreClear q (commit_more q x k) ks

-- ---- all at once

-- of so many commits of each thread, each done on memory m with no other thread's, none stores a word of another's footprint
pub record IsParallel (q : ℕ → Rule) (m : List ℕ) (ts : List Parts) (done : ℕ → ℕ) : Type 0 where
  pub apart : (j k : ℕ) (t u : Parts) → j ≢ k → slice_get ts j ≡ Some t → slice_get ts k ≡ Some u
      → Unseen (alone (q k) m u (done k)).seen (alone (q j) m t (done j)).words

-- ---- the test

-- whether a commit with this footprint and these words conflicts with one that another thread than k has done
abbrev pub clashes_with : (seen : ℕ → Bool) → List Stored → Share → Bool
clashes_with seen ws o = meets seen o.words || meets o.seen ws

abbrev pub clashes_all : (seen : ℕ → Bool) → List Stored → List Share → Bool
clashes_all seen ws [] = false
clashes_all seen ws (o ∷ os) = clashes_with seen ws o || clashes_all seen ws os

abbrev pub clashes : (seen : ℕ → Bool) → List Stored → (thread : ℕ) → List Share → Bool
clashes seen ws k [] = false
clashes seen ws zero (o ∷ os) = clashes_all seen ws os
clashes seen ws (suc k) (o ∷ os) = clashes_with seen ws o || clashes seen ws k os

-- whether thread k's next commit, on the memory as it is, conflicts with one that another thread has done
abbrev pub clashes_next : (ℕ → Rule) → StratumState → (thread : ℕ) → Bool
clashes_next q x k =
    elim (slice_get x.shares k) [
      | None ↦ false
      | Some p ↦ clashes (next_seen (q k) x.memory p) (next_run (q k) x.memory p).words k x.shares
    ]

-- so of these threads' next commits, one after the other, whether number i does
abbrev pub clashes_in : (ℕ → Rule) → StratumState → List ℕ → (i : ℕ) → Bool
clashes_in q x [] i = false
clashes_in q x (k ∷ ks) zero = clashes_next q x k
clashes_in q x (k ∷ ks) (suc i) = clashes_in q (commit_more q x k) ks i

-- A commit conflicts with none that another thread has done exactly if the test says so.
abbrev pub ClearIsTested : Type 0
ClearIsTested =
    (q : Rule) (x : StratumState) (k : ℕ) (p : Share)
    → let tested = clashes (next_seen q x.memory p) (next_run q x.memory p).words k x.shares ≡ false in
    (tested → IsClear q x k p) × (IsClear q x k p → tested)

-- ---- what is promised

-- Commits that pass the test one after the other, in some order, are each what their thread does alone; and all of them are
-- parallel.
abbrev pub ClearOnesAreParallel : Type 0
ClearOnesAreParallel =
    (q : ℕ → Rule) (m : List ℕ) (ts : List Parts) (ks : List ℕ) → AreClear q (stratum_start m ts) ks
    → let done = counts_of ks in
    (commits_more q (stratum_start m ts) ks ≡ state_at q m ts done) × IsParallel q m ts done

-- Of parallel ones, whatever was done, one more of any thread that has some left is what the thread does alone.
abbrev pub ParallelOnesStep : Type 0
ParallelOnesStep =
    (q : ℕ → Rule) (m : List ℕ) (ts : List Parts) (count done : ℕ → ℕ) (k : ℕ) → IsParallel q m ts count
    → ((j : ℕ) → bump done k j ≤ count j)
    → commit_more q (state_at q m ts done) k ≡ state_at q m ts (bump done k)

-- So parallel ones may be done in any order, all or some of them.
abbrev pub ParallelOnesInterleave : Type 0
ParallelOnesInterleave =
    (q : ℕ → Rule) (m : List ℕ) (ts : List Parts) (count : ℕ → ℕ) (ks : List ℕ) → IsParallel q m ts count
    → ((j : ℕ) → counts_of ks j ≤ count j)
    → commits_more q (stratum_start m ts) ks ≡ state_at q m ts (counts_of ks)

-- And in any such order each conflicts with none that another thread has done: whether commits are parallel doesn't depend
-- on the order in which they are tested.
abbrev pub ParallelOnesAreClear : Type 0
ParallelOnesAreClear =
    (q : ℕ → Rule) (m : List ℕ) (ts : List Parts) (count : ℕ → ℕ) (ks : List ℕ) → IsParallel q m ts count
    → ((j : ℕ) → counts_of ks j ≤ count j) → AreClear q (stratum_start m ts) ks

-- ---- two by two

-- a thread's commit i of the stratum, with nobody else's: the words of its footprint, and the words that it stores
abbrev pub seen_at : Rule → List ℕ → Parts → (i : ℕ) → (number : ℕ) → Bool
seen_at q m t i = let p = alone q m t i in next_seen q (lays m p.words) p

abbrev pub words_at : Rule → List ℕ → Parts → (i : ℕ) → List Stored
words_at q m t i = let p = alone q m t i in (next_run q (lays m p.words) p).words

-- no two commits of different threads conflict
pub record NoTwoConflict (q : ℕ → Rule) (m : List ℕ) (ts : List Parts) (done : ℕ → ℕ) : Type 0 where
  pub apart : (j k : ℕ) (t u : Parts) (i l : ℕ) → j ≢ k → slice_get ts j ≡ Some t → slice_get ts k ≡ Some u
      → i < done j → l < done k → meets (seen_at (q k) m u l) (words_at (q j) m t i) ≡ false

-- That is what parallel means.
abbrev pub ParallelByPairs : Type 0
ParallelByPairs =
    (q : ℕ → Rule) (m : List ℕ) (ts : List Parts) (done : ℕ → ℕ)
    → (NoTwoConflict q m ts done → IsParallel q m ts done) × (IsParallel q m ts done → NoTwoConflict q m ts done)
