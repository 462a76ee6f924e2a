-- What a whole stratum costs is the work of its commits in the play of the log.
use Rattle.std.proofs.Common.{◌≡◌, ℕ, suc, ◌+◌, ◌<◌, List, [], ◌∷◌, ◌++◌, length, Option, Some, refl, sym, ap, ◌∙◌, subst, arith}
use Rattle.std.specs.List.{sum}
use Rattle.std.proofs.Math.Seq.{take-length}
use Rattle.std.proofs.lemmas.List.{append-nil, append_assoc, append_cancel_left}
use Rattle.dl_entry.specs.declared.Commit.{Commit}
use Rattle.spec_isa.specs.declared.thread.Kind.{Kind}
use Rattle.spec_isa.specs.Runs.{Run, run}
use Rattle.spec_log.specs.declared.LogParts.{LogParts}
use Rattle.spec_play.specs.Effects.{chunk_commit}
use Rattle.spec_play.specs.Turns.{Turn}
use Rattle.spec_play.specs.Plays.{Played, size_or_standard, settled, thread_verdict, play_thread, play_turn, plays}
use Rattle.spec_play.proofs.Resuming.{plays_go_on}
use Rattle.spec_strata.specs.Shares.{Share, counts_of, shares_at}
use Rattle.spec_strata.specs.InPlay.{rule_of, commits_of, ChunkGoes, ChunksGo, IsLooked, IsStratum, in_stratum}
use Rattle.spec_strata.specs.Orders.{IsRising, TurnsAre}
use Rattle.spec_strata.specs.Canonical.{rising}
use Rattle.spec_strata.specs.Costs.{cost_of, stratum_cost}
use Rattle.spec_strata.proofs.Shares.Checking.{shares-of}
use Rattle.spec_strata.proofs.Plays.Verdicts.{logged-goes, goes-logged}
use Rattle.spec_strata.proofs.Plays.Canonical.{one-turn, canonical_plays}
use Rattle.spec_strata.proofs.Images.Canonical.{length-rising}
use Rattle.spec_strata.proofs.Standing.Counts.{count_at, counts-rising}
use Rattle.spec_replay.proofs.Strata.Coming.{rising-up}
use Rattle.spec_finishing.specs.Work.{thread_work, turn_work, next_work, commit_work, commits_work}

-- ---- a chunk that goes as logged

-- the run of the chunk
abbrev pub run_of : (log : LogParts) (y : Played) (k : ℕ) → ChunkGoes log y k → Run
run_of log y k g = run y.memory g.thread (size_or_standard log k g.thread.commits)

-- its work is its instructions and itself
pub chunk-work : (log : LogParts) (y : Played) (k : ℕ) (g : ChunkGoes log y k) → turn_work log y k (Some g.thread) ≡ suc (run_of log y k g).n
chunk-work log y k g = ap (λ (o : Option Kind). suc (thread_work log y k g.thread o)) g.chunk

-- it comes after the others
pub chunk-appended : (log : LogParts) (y : Played) (k : ℕ) (g : ChunkGoes log y k) → (play_turn log y (Turn k)).progress.commits ≡ y.progress.commits ++ chunk_commit k (run_of log y k g) ∷ []
chunk-appended log y k g =
    let r = run_of log y k g in
    let goes = logged-goes log y.progress y.used k r (goes-logged log y.progress y.used g.used k r g.effect g.goes) in
    ap (λ (z : Played). z.progress.commits)
    (ap (play_thread log y k) g.there ∙ ap (λ (o : Option Kind). settled log y k (thread_verdict log y k g.thread o)) g.chunk ∙ ap (settled log y k) goes)

-- ---- chunks that have the turns

-- after i commits of the play come n, with what they cost
record Costs (log : LogParts) (x : Played) (i n : ℕ) : Type 0 where
  commits : List Commit
  appended : (plays log x (n + i)).progress.commits ≡ (plays log x i).progress.commits ++ commits
  work : commits_work log x i n ≡ cost_of commits

one_work : (log : LogParts) (y : Played) (k : ℕ) (g : ChunkGoes log y k) → y.now ≡ Turn k → commit_work log y ≡ suc (run_of log y k g).n
unfolding commit_work
one_work log y k g turn = ap (next_work log y) turn ∙ ap (turn_work log y k) g.there ∙ chunk-work log y k g

chunks_cost : (log : LogParts) (x : Played) (i : ℕ) (ks : List ℕ) → ChunksGo log (plays log x i) ks → TurnsAre log (plays log x i) ks → Costs log x i (length ks)
chunks_cost log x i [] go turns =
    let e : 0 + i ≡ i = omega arith in
    record {
      commits = [];
      appended = ap (λ (n : ℕ). (plays log x n).progress.commits) e ∙ sym (append-nil (plays log x i).progress.commits);
      work = refl;
    }
chunks_cost log x i (k ∷ ks) go turns =
    let y = plays log x i in
    let one = one-turn log y k turns.0 in
    let rest = chunks_cost log x (suc i) ks (subst (λ (z : Played). ChunksGo log z ks) (sym one) go.1) turns.1 in
    let c = chunk_commit k (run_of log y k go.0) in
    let e : suc (length ks) + i ≡ length ks + suc i = omega arith in
    record {
      commits = c ∷ rest.commits;
      appended =
          ap (λ (n : ℕ). (plays log x n).progress.commits) e
          ∙ rest.appended
          ∙ ap (λ (z : Played). z.progress.commits ++ rest.commits) one
          ∙ ap (λ (cs : List Commit). cs ++ rest.commits) (chunk-appended log y k go.0)
          ∙ append_assoc y.progress.commits (c ∷ []) rest.commits;
      work = (let a = one_work log y k go.0 turns.0 in let b = rest.work in omega (arith, a, b));
    }

-- ---- a whole stratum

-- the commits of a stratum that have the turns, after i commits of a play
pub turns-cost : (log : LogParts) (x : Played) (i : ℕ) (ks : List ℕ) → 0 < log.s → let y = plays log x i in IsStratum log y ks → IsRising 0 ks → IsLooked log y → TurnsAre log y ks
    → commits_work log x i (length ks) ≡ stratum_cost log y (counts_of ks)
turns-cost log x i ks s is rising looked turns =
    let y = plays log x i in
    let n = length ks in
    let c = chunks_cost log x i ks is.go turns in
    let order : n + i ≡ i + n = omega arith in
    let whole : plays log x (n + i) ≡ in_stratum log y (counts_of ks) =
    ap (plays log x) order ∙ sym (plays_go_on log x i n)
    ∙ canonical_plays log y ks n s is rising looked turns (omega arith)
    ∙ ap (λ (js : List ℕ). in_stratum log y (counts_of js)) (take-length ks)
    in
    let shares = shares-of (rule_of log) y.memory y.threads (counts_of ks) in
    let same : y.progress.commits ++ c.commits ≡ y.progress.commits ++ commits_of chunk_commit (shares_at (rule_of log) y.memory y.threads (counts_of ks)) =
    sym c.appended ∙ ap (λ (z : Played). z.progress.commits) whole
    ∙ ap (λ (ps : List Share). y.progress.commits ++ commits_of chunk_commit ps) shares
    in
    c.work ∙ ap (λ (cs : List Commit). cost_of cs) (append_cancel_left y.progress.commits c.commits _ same)

-- a stratum of chunks, of which each thread has so many
pub stratum-cost : (log : LogParts) (x : Played) (i : ℕ) (counts : List ℕ) → 0 < log.s → let y = plays log x i in IsStratum log y (rising 0 counts) → IsLooked log y → TurnsAre log y (rising 0 counts)
    → commits_work log x i (sum counts) ≡ stratum_cost log y (count_at counts)
stratum-cost log x i counts s is looked turns =
    ap (commits_work log x i) (sym (length-rising 0 counts))
    ∙ turns-cost log x i (rising 0 counts) s is (rising-up 0 0 counts (omega arith)) looked turns
    ∙ ap (stratum_cost log (plays log x i)) (λ e j. counts-rising counts j e)

-- nothing of a stratum costs nothing
pub nothing-costs : (log : LogParts) (x : Played) (i : ℕ) → 0 < log.s → IsLooked log (plays log x i) → stratum_cost log (plays log x i) (λ j. 0) ≡ 0
nothing-costs log x i s looked = sym (turns-cost log x i [] s (record { go = tt; clear = tt }) tt looked tt)
