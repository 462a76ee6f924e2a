-- The share of a thread in a stratum: its commits there, as they are with nobody else's; and the state of a stratum that
-- follows from all shares.
use Rattle.std.specs.Prelude.{ℕ, zero, suc, Bool, false, ◌||◌, nat_eq, List, [], ◌∷◌, Option, Some, None, ◌+◌, ◌++◌, map, slice_get, slice_set, if◌then◌else◌}
use Rattle.spec_isa.specs.declared.thread.Parts.{Parts}
use Rattle.spec_isa.specs.Words.{Stored, lays}
use Rattle.spec_isa.specs.Runs.{run, Run}
use Rattle.spec_strata.specs.Footprints.{footprint}

-- ---- one thread

-- what is known of a thread's commits: how many instructions the next one has, and what becomes of the thread after it
pub record Rule : Type 0 where
  pub size : Parts → ℕ
  pub settle : Parts → Parts
  -- how many interrupts it takes then
  pub raises : Parts → ℕ

-- a thread's commits of a stratum so far: the thread as it now is, the words that they stored, in order, their footprints
-- together, their runs, and the number of interrupts that were taken after them
pub record Share : Type 0 where
  pub thread : Parts
  pub words : List Stored
  pub seen : ℕ → Bool
  pub runs : List Run
  pub raised : ℕ

-- before its first commit
abbrev pub empty_share : Parts → Share
empty_share t = record { thread = t; words = []; seen = λ a. false; runs = []; raised = 0 }

-- the run of the thread's next commit on a memory, and its footprint
abbrev pub next_run : Rule → List ℕ → Share → Run
next_run q m p = run m p.thread (q.size p.thread)

abbrev pub next_seen : Rule → List ℕ → Share → (number : ℕ) → Bool
next_seen q m p = footprint m p.thread (q.size p.thread)

-- with the thread's next commit, done on a memory
unfoldable pub share_more : Rule → List ℕ → Share → Share
share_more q m p =
    record {
      thread = q.settle (next_run q m p).thread;
      words = p.words ++ (next_run q m p).words;
      seen = λ a. p.seen a || next_seen q m p a;
      runs = p.runs ++ next_run q m p ∷ [];
      raised = p.raised + q.raises (next_run q m p).thread;
    }

-- a thread's first i commits, as they are on memory m with nobody else's
abbrev pub alone : Rule → List ℕ → Parts → (i : ℕ) → Share
alone q m t zero = empty_share t
alone q m t (suc i) = let p = alone q m t i in share_more q (lays m p.words) p

-- ---- all threads

-- the state of a stratum: the memory, and each thread's share
pub record StratumState : Type 0 where
  pub memory : List ℕ
  pub shares : List Share

-- with thread k's next commit, on the memory as it is
abbrev pub with_more : (ℕ → Rule) → StratumState → (thread : ℕ) → Option Share → StratumState
with_more q x k None = x
with_more q x k (Some p) =
    record {
      memory = lays x.memory (next_run (q k) x.memory p).words;
      shares = slice_set x.shares k (share_more (q k) x.memory p);
    }

unfoldable pub commit_more : (ℕ → Rule) → StratumState → (thread : ℕ) → StratumState
commit_more q x k = with_more q x k (slice_get x.shares k)

-- commits of these threads, one after the other
abbrev pub commits_more : (ℕ → Rule) → StratumState → List ℕ → StratumState
commits_more q x [] = x
commits_more q x (k ∷ ks) = commits_more q (commit_more q x k) ks

-- before the first commit
abbrev pub stratum_start : List ℕ → List Parts → StratumState
stratum_start m ts = record { memory = m; shares = map empty_share ts }

-- ---- what is done, by numbers of commits alone

-- numbers of commits, with one more of thread k
abbrev pub bump : (ℕ → ℕ) → ℕ → ℕ → ℕ
bump c k j = if nat_eq j k then suc (c j) else c j

-- with one more of each of these threads, one after the other
abbrev pub bumps : (ℕ → ℕ) → List ℕ → ℕ → ℕ
bumps c [] = c
bumps c (k ∷ ks) = bumps (bump c k) ks

-- how many of some commits are each thread's
abbrev pub counts_of : List ℕ → ℕ → ℕ
counts_of ks = bumps (λ k. 0) ks

-- each thread's share, after so many commits of it on memory m with nobody else's
abbrev pub shares_at : (ℕ → Rule) → List ℕ → List Parts → (ℕ → ℕ) → List Share
shares_at q m [] done = []
shares_at q m (t ∷ ts) done = alone (q 0) m t (done 0) ∷ shares_at (λ k. q (suc k)) m ts (λ k. done (suc k))

-- the words of all shares, threads rising
abbrev pub words_of : List Share → List Stored
words_of [] = []
words_of (p ∷ ps) = p.words ++ words_of ps

-- each thread's share is as with nobody else's commits, and the memory is that at the start with the words of all laid in
unfoldable pub state_at : (ℕ → Rule) → List ℕ → List Parts → (done : ℕ → ℕ) → StratumState
state_at q m ts done =
    let shares = shares_at q m ts done in record { memory = lays m (words_of shares); shares = shares }
