-- A stratum in another log that says the same.
use Rattle.std.proofs.Common.{◌≡◌, ℕ, ◌<◌, ◌+◌, inl, inr, ◌||◌, List, [], ◌∷◌, ◌++◌, Option, Some, None, refl, sym, ap, ◌∙◌, subst, arith}
use Rattle.std.specs.Prelude.{slice_get, slice_set}
use Rattle.dl_entry.specs.declared.Actor.{Actor}
use Rattle.spec_isa.specs.declared.thread.Parts.{Parts}
use Rattle.spec_isa.specs.declared.thread.Kind.{Kind}
use Rattle.spec_isa.specs.Words.{lays}
use Rattle.spec_isa.specs.Runs.{Run, run}
use Rattle.spec_log.specs.declared.LogParts.{LogParts}
use Rattle.spec_log.specs.Size.{size_in}
use Rattle.spec_kernel.specs.Needs.{next_kind}
use Rattle.spec_play.specs.Effects.{Effect, counted, chunk_effect}
use Rattle.spec_play.specs.Progress.{Progress}
use Rattle.spec_play.specs.declared.used.Used.{Used}
use Rattle.spec_play.specs.Turns.{Turn}
use Rattle.spec_play.specs.Verdicts.{Goes, unless, interrupt_at, with_interrupted, chunk_why, chunk_verdict}
use Rattle.spec_play.specs.Plays.{Played, with_threads, settled, size_or_standard, thread_verdict, play_thread, play_turn}
use Rattle.spec_strata.specs.Footprints.{footprint}
use Rattle.spec_strata.specs.Shares.{Rule, Share, share_more, StratumState, with_more, commit_more, stratum_start, counts_of}
use Rattle.spec_strata.specs.Parallel.{OthersMiss, OthersBlind, IsClear, AreClear}
use Rattle.spec_strata.specs.InPlay.{after_interrupt, number_of, rule_of, ChunkGoes, plays_of, ChunksGo, with_state, in_stratum, IsLike, IsStratum}
use Rattle.spec_strata.specs.Orders.{StepsOn}
use Rattle.spec_strata.specs.Relogged.{SaysAlike, StrataRelog}
use Rattle.spec_strata.proofs.Shares.Steps.{same_some, mapped, at-start}
use Rattle.spec_strata.proofs.Plays.Verdicts.{IsLogged, goes-logged, run-commits, some-of}
use Rattle.spec_strata.proofs.Plays.Strata.{get-map, thread_in, like-more, like-start, good-found, strata_played, strata_interleave}
use Rattle.spec_strata.proofs.Plays.Staying.{chunk-same, pushed-same, pushed-length}

-- ---- plays that are alike

like_trans : (a b c : Played) → IsLike a b → IsLike b c → IsLike a c
like_trans a b c x y =
    record { memory = y.memory ∙ x.memory; threads = y.threads ∙ x.threads; request = y.request ∙ x.request; used = y.used ∙ x.used; first = y.first ∙ x.first; count = y.count ∙ x.count; each = λ by. y.each by ∙ x.each by }

like_sym : (a b : Played) → IsLike a b → IsLike b a
like_sym a b x =
    record { memory = sym x.memory; threads = sym x.threads; request = sym x.request; used = sym x.used; first = sym x.first; count = sym x.count; each = λ by. sym (x.each by) }

-- ---- what the logs say

-- a chunk that goes isn't logged with size 0
not-zero : (o : Option ℕ) (n : ℕ) → chunk_why o n ≡ None → o ≡ Some 0 → ⊥
not-zero o n e is = let h = some-of 1 o n (omega arith) e in zero-not (ap (λ (x : Option ℕ). elim x [ None ↦ 1 | Some z ↦ z ]) is) h
  where
    zero-not : {a : ℕ} → a ≡ 0 → 0 < a → ⊥
    zero-not e l = omega (arith, e, l)

record Same (log other : LogParts) (k : ℕ) (t : Parts) : Type 0 where
  logged : size_in other (Actor.Thread k) t.commits ≡ size_in log (Actor.Thread k) t.commits
  size : size_or_standard other k t.commits ≡ size_or_standard log k t.commits

size-same : (log other : LogParts) (k : ℕ) (y : Played) → SaysAlike log other → (c : ChunkGoes log y k) → Same log other k c.thread
size-same log other k y says c =
    let r : Run = run y.memory c.thread (size_or_standard log k c.thread.commits) in
    let l : IsLogged log k r = goes-logged log y.progress y.used c.used k r c.effect c.goes in
    let commits : r.thread.commits ≡ c.thread.commits = run-commits y.memory c.thread (size_or_standard log k c.thread.commits) in
    let why : chunk_why (size_in log (Actor.Thread k) c.thread.commits) r.n ≡ None = ap (λ (n : ℕ). chunk_why (size_in log (Actor.Thread k) n) r.n) (sym commits) ∙ l.size in
    let same : size_in other (Actor.Thread k) c.thread.commits ≡ size_in log (Actor.Thread k) c.thread.commits =
    elim (says.size k c.thread.commits) [
      | inl none ↦ absurd (not-zero (size_in log (Actor.Thread k) c.thread.commits) r.n why none)
      | inr h ↦ h
    ] in
    record { logged = same; size = λ i. elim (same i) [ None ↦ says.standard i | Some z ↦ z ] }

verdict-relogged : (log other : LogParts) (p : Progress) (u : Used) (k : ℕ) (r : Run) → SaysAlike log other → size_in other (Actor.Thread k) r.thread.commits ≡ size_in log (Actor.Thread k) r.thread.commits
    → chunk_verdict other p u k r ≡ chunk_verdict log p u k r
unfolding chunk_verdict
verdict-relogged log other p u k r says same =
    let e : Effect = chunk_effect k p.request r in
    (λ i. unless (chunk_why (same i) r.n) (with_interrupted (interrupt_at (says.interrupts i) k e.thread.commits) e u))

-- ---- the rules

more-mixed : (q : Rule) (size : Parts → ℕ) (m : List ℕ) (p : Share) → size p.thread ≡ q.size p.thread → share_more (record q { size = size }) m p ≡ share_more q m p
unfolding share_more
more-mixed q size m p e =
    (λ i. record {
      thread = q.settle (run m p.thread (e i)).thread;
      words = p.words ++ (run m p.thread (e i)).words;
      seen = (λ a. p.seen a || footprint m p.thread (e i) a);
      runs = p.runs ++ run m p.thread (e i) ∷ [];
      raised = p.raised + q.raises (run m p.thread (e i)).thread;
    })

rule-is : (log other : LogParts) (k : ℕ) → SaysAlike log other → rule_of other k ≡ record (rule_of log k) { size = (rule_of other k).size }
rule-is log other k says =
    (λ i. record {
      size = (rule_of other k).size;
      settle = (λ t. after_interrupt (interrupt_at (says.interrupts i) k (counted t).commits) (counted t));
      raises = (λ t. number_of (interrupt_at (says.interrupts i) k (counted t).commits));
    })

alone-relogged : (log other : LogParts) (k : ℕ) (m : List ℕ) (p : Share) → SaysAlike log other → (rule_of other k).size p.thread ≡ (rule_of log k).size p.thread → share_more (rule_of other k) m p ≡ share_more (rule_of log k) m p
alone-relogged log other k m p says e =
    ap (λ (q : Rule). share_more q m p) (rule-is log other k says) ∙ more-mixed (rule_of log k) (rule_of other k).size m p e

clear-relogged : (q r : Rule) (x : StratumState) (k : ℕ) (p : Share) → r.size p.thread ≡ q.size p.thread → IsClear q x k p → IsClear r x k p
clear-relogged q r x k p e c =
    record {
      miss = subst (λ (n : ℕ). OthersMiss (footprint x.memory p.thread n) k x.shares) (sym e) c.miss;
      blind = subst (λ (n : ℕ). OthersBlind (run x.memory p.thread n).words k x.shares) (sym e) c.blind;
    }

-- ---- one commit

pub record Relogged (log other : LogParts) (y z : Played) (k : ℕ) : Type 0 where
  pub goes : ChunkGoes other z k
  pub like : IsLike (play_turn log y (Turn k)) (play_turn other z (Turn k))

-- if thread k's next chunk goes, the play after its turn is the one with that chunk's effect
pub play-is : (log : LogParts) (y : Played) (k : ℕ) (t : Parts) (e : Effect) (u : Used) → slice_get y.threads k ≡ Some t → next_kind t y.memory ≡ None
    → chunk_verdict log y.progress y.used k (run y.memory t (size_or_standard log k t.commits)) ≡ Goes e u → play_turn log y (Turn k) ≡ settled log y k (Goes e u)
play-is log y k t e u there chunk goes =
    ap (play_thread log y k) there
    ∙ ap (λ (o : Option Kind). settled log y k (thread_verdict log y k t o)) chunk
    ∙ ap (settled log y k) goes

-- alike plays of two logs stay alike with the same effect and use of the log
pub settled-relogged : (log other : LogParts) (y z : Played) (k : ℕ) (e : Effect) (u : Used) → IsLike y z → IsLike (settled log y k (Goes e u)) (settled other z k (Goes e u))
settled-relogged log other y z k e u like =
    record {
      memory = ap (λ (m : List ℕ). lays m e.words) like.memory;
      threads = ap (λ (ts : List Parts). with_threads k e ts) like.threads;
      request = refl;
      used = refl;
      first = like.first;
      count = pushed-length y.progress.commits z.progress.commits e.commit like.count;
      each = λ by. pushed-same by y.progress.commits z.progress.commits e.commit (like.each by);
    }

-- a chunk that goes in one log goes alike in another that says the same
pub step-relogged : (log other : LogParts) (y z : Played) (k : ℕ) → SaysAlike log other → IsLike y z → ChunkGoes log y k → Relogged log other y z k
step-relogged log other y z k says like c =
    let t : Parts = c.thread in
    let s : Same log other k t = size-same log other k y says c in
    let n : ℕ = size_or_standard log k t.commits in
    let r : Run = run y.memory t n in
    let there : slice_get z.threads k ≡ Some t = ap (λ (ts : List Parts). slice_get ts k) like.threads ∙ c.there in
    let chunk : next_kind t z.memory ≡ None = ap (next_kind t) like.memory ∙ c.chunk in
    let commits : r.thread.commits ≡ t.commits = run-commits y.memory t n in
    let goes : chunk_verdict other z.progress z.used k (run z.memory t (size_or_standard other k t.commits)) ≡ Goes c.effect c.used =
    (λ i. chunk_verdict other z.progress (like.used i) k (run (like.memory i) t (s.size i)))
    ∙ chunk-same other y.progress z.progress y.used k r like.request
    ∙ verdict-relogged log other y.progress y.used k r says (ap (λ (x : ℕ). size_in other (Actor.Thread k) x) commits ∙ s.logged ∙ ap (λ (x : ℕ). size_in log (Actor.Thread k) x) (sym commits))
    ∙ c.goes in
    let a : play_turn log y (Turn k) ≡ settled log y k (Goes c.effect c.used) = play-is log y k t c.effect c.used c.there c.chunk c.goes in
    let b : play_turn other z (Turn k) ≡ settled other z k (Goes c.effect c.used) = play-is other z k t c.effect c.used there chunk goes in
    record {
      goes = record { thread = t; there = there; chunk = chunk; effect = c.effect; used = c.used; goes = goes };
      like = subst (λ (w : Played). IsLike w (play_turn other z (Turn k))) (sym a) (subst (λ (w : Played). IsLike (settled log y k (Goes c.effect c.used)) w) (sym b) (settled-relogged log other y z k c.effect c.used like));
    }

-- ---- all commits, in the log's order

record AllRelogged (log other : LogParts) (y z : Played) (x : StratumState) (ks : List ℕ) : Type 0 where
  go : ChunksGo other z ks
  clear : AreClear (rule_of other) x ks
  like : IsLike (plays_of log y ks) (plays_of other z ks)

commit-as : (q : ℕ → Rule) (x : StratumState) (k : ℕ) (p : Share) → slice_get x.shares k ≡ Some p → commit_more q x k ≡ with_more q x k (Some p)
unfolding commit_more
commit-as q x k p is = ap (with_more q x k) is

with-relogged : (log other : LogParts) (x : StratumState) (k : ℕ) (p : Share) → SaysAlike log other → (rule_of other k).size p.thread ≡ (rule_of log k).size p.thread → with_more (rule_of other) x k (Some p) ≡ with_more (rule_of log) x k (Some p)
with-relogged log other x k p says e =
    (λ i. record { memory = lays x.memory (run x.memory p.thread (e i)).words; shares = slice_set x.shares k (alone-relogged log other k x.memory p says e i) })

all-relogged : (log other : LogParts) (start y z : Played) (x : StratumState) (ks : List ℕ) → SaysAlike log other → 0 < log.s → IsLike y z → IsLike (with_state log start x) y → ChunksGo log y ks → AreClear (rule_of log) x ks → AllRelogged log other y z x ks
all-relogged log other start y z x [] says l like at_ go clear = record { go = tt; clear = tt; like = like }
all-relogged log other start y z x (k ∷ ks) says l like at_ go clear =
    let c : ChunkGoes log y k = go.0 in
    let a = mapped thread_in (slice_get x.shares k) c.thread (sym (get-map thread_in x.shares k) ∙ ap (λ (ts : List Parts). slice_get ts k) (sym at_.threads) ∙ c.there) in
    let p : Share = a.0 in
    let is : slice_get x.shares k ≡ Some p = a.1.0 in
    let s : Same log other k c.thread = size-same log other k y says c in
    let size : (rule_of other k).size p.thread ≡ (rule_of log k).size p.thread = subst (λ (t : Parts). (rule_of other k).size t ≡ (rule_of log k).size t) (sym a.1.1) s.size in
    let one : Relogged log other y z k = step-relogged log other y z k says like c in
    let next : StratumState = with_more (rule_of log) x k (Some p) in
    let h : StepsOn log start y x next k = like-more log start y x k p is (good-found log y k x.memory p c l at_.memory a.1.1) at_ in
    let mine : commit_more (rule_of log) x k ≡ next = commit-as (rule_of log) x k p is in
    let theirs : commit_more (rule_of other) x k ≡ next = commit-as (rule_of other) x k p is ∙ with-relogged log other x k p says size in
    let rest : AllRelogged log other (play_turn log y (Turn k)) (play_turn other z (Turn k)) next ks =
    all-relogged log other start (play_turn log y (Turn k)) (play_turn other z (Turn k)) next ks says l one.like h.like go.1 (subst (λ (w : StratumState). AreClear (rule_of log) w ks) mine clear.1) in
    record {
      go = (one.goes, rest.go);
      clear = (
        (λ o o_is. clear-relogged (rule_of log k) (rule_of other k) x k o (subst (λ (w : Share). (rule_of other k).size w.thread ≡ (rule_of log k).size w.thread) (same_some p o (sym is ∙ o_is)) size) (clear.0 o o_is)),
        subst (λ (w : StratumState). AreClear (rule_of other) w ks) (sym theirs) rest.clear,
      );
      like = rest.like;
    }

-- ---- and in another order

-- a stratum of one log is one of another that says the same, in any order of its commits
pub strata_relog : StrataRelog
strata_relog log other y z ks js says l like s counts =
    let x : StratumState = stratum_start y.memory y.threads in
    let first : IsLike (with_state log y x) y = subst (λ (w : StratumState). IsLike (with_state log y w) y) (sym (at-start (rule_of log) y.memory y.threads)) (like-start log y) in
    let all : AllRelogged log other y z x ks = all-relogged log other y y z x ks says l like first s.go s.clear in
    let standard : 0 < other.s = subst (λ (n : ℕ). 0 < n) (sym says.standard) l in
    let theirs : IsStratum other z ks =
    record { go = all.go; clear = (subst (λ (w : StratumState). AreClear (rule_of other) w ks) (λ i. stratum_start (sym like.memory i) (sym like.threads i)) all.clear) } in
    let stand : IsLike (in_stratum other z (counts_of ks)) (plays_of other z ks) = strata_played other z ks standard theirs in
    let h = strata_interleave other z ks js standard theirs (λ j. let e = counts j in omega arith) in
    let same : in_stratum other z (counts_of js) ≡ in_stratum other z (counts_of ks) = (λ i. in_stratum other z (λ j. counts j i)) in (
      h.0,
      like_trans (plays_of log y ks) (plays_of other z ks) (plays_of other z js) all.like
          (like_trans (plays_of other z ks) (in_stratum other z (counts_of ks)) (plays_of other z js)
          (like_sym (in_stratum other z (counts_of ks)) (plays_of other z ks) stand)
          (subst (λ (w : Played). IsLike w (plays_of other z js)) same h.1)),
    )
