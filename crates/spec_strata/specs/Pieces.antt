-- A commit of a stratum that is done in pieces.
use Rattle.std.specs.Prelude.{◌≡◌, ℕ, ◌<◌, List, Some, ◌≤◌, ◌+◌, ◌++◌, slice_get, slice_set}
use Rattle.spec_isa.specs.declared.thread.Parts.{Parts}
use Rattle.spec_isa.specs.Words.{Stored, lays}
use Rattle.spec_isa.specs.Runs.{run, Run}
use Rattle.spec_log.specs.declared.LogParts.{LogParts}
use Rattle.spec_play.specs.Effects.{Effect, chunk_commit}
use Rattle.spec_play.specs.declared.used.Used.{Used}
use Rattle.spec_play.specs.Verdicts.{Goes, chunk_verdict}
use Rattle.spec_play.specs.Plays.{Played, with_threads}
use Rattle.spec_strata.specs.InPlay.{IsStratum, rule_of, IsLike, in_stratum, commits_of}
use Rattle.spec_strata.specs.Shares.{bump, state_at, counts_of, Share, words_of, alone, shares_at}
use Rattle.spec_strata.specs.Orders.{insert_at, place}

-- a thread's share, with the words of pieces after those of its commits
abbrev pub with_words : Share → List Stored → Share
with_words p ws = record p { words = p.words ++ ws }

-- `total` instructions of thread k's next commit have run as pieces: they did on the memory of all threads what they do on
-- the thread's own, and the memory is that at the stratum's start with the done commits and the pieces laid in
pub record PieceIsLocal (log : LogParts) (y z : Played) (done : ℕ → ℕ) (k : ℕ) (p : Share) (total : ℕ) : Type 0 where
  pub same_run : run z.memory p.thread total ≡ run (lays y.memory p.words) p.thread total
  pub memory : let shares = shares_at (rule_of log) y.memory y.threads done in
      let words = (run z.memory p.thread total).words in
      lays z.memory words ≡ lays y.memory (words_of (slice_set shares k (with_words p words)))

-- So it is with the pieces of each commit of a stratum.
abbrev pub PiecesAreLocal : Type 0
PiecesAreLocal =
    (log : LogParts) (y z : Played) (ks : List ℕ) (done : ℕ → ℕ) (k total : ℕ) (t : Parts) → 0 < log.s
    → IsStratum log y ks
    → slice_get y.threads k ≡ Some t → ((j : ℕ) → bump done k j ≤ counts_of ks j) → IsLike (in_stratum log y done) z
    → let p = alone (rule_of log k) y.memory t (done k) in total ≤ (rule_of log k).size p.thread
    → PieceIsLocal log y z done k p total

-- a commit's last part, judged with the pieces before it: the loads and the number of instructions are the whole commit's
abbrev pub last_part : Run → Run → Run
last_part r s = record { thread = s.thread; words = s.words; loads = r.loads ++ s.loads; n = r.n + s.n }

-- thread k, which has run r as pieces, runs the last part s: it goes as logged, and with its words laid after those of the
-- pieces it leaves the play with one commit more of k, which is the whole one
pub record LastPartGoes (log : LogParts) (y z : Played) (done : ℕ → ℕ) (k : ℕ) (r s : Run) : Type 0 where
  pub effect : Effect
  pub used : Used
  pub goes : chunk_verdict log z.progress z.used k (last_part r s) ≡ Goes effect used
  pub memory : lays (lays z.memory r.words) effect.words ≡ (in_stratum log y (bump done k)).memory
  pub threads : with_threads k effect (slice_set z.threads k r.thread) ≡ (in_stratum log y (bump done k)).threads
  pub same_used : used ≡ (in_stratum log y (bump done k)).used
  pub request : effect.request ≡ (in_stratum log y (bump done k)).progress.request
  pub commits : let shares = (state_at (rule_of log) y.memory y.threads done).shares in
      commits_of chunk_commit (state_at (rule_of log) y.memory y.threads (bump done k)).shares
      ≡ insert_at (place k shares) effect.commit (commits_of chunk_commit shares)

-- A commit in pieces is the whole commit: `total` instructions in pieces, and up to n more.
abbrev pub LastPartsGo : Type 0
LastPartsGo =
    (log : LogParts) (y z : Played) (ks : List ℕ) (done : ℕ → ℕ) (k total n : ℕ) (t : Parts) → 0 < log.s
    → IsStratum log y ks
    → slice_get y.threads k ≡ Some t → ((j : ℕ) → bump done k j ≤ counts_of ks j) → IsLike (in_stratum log y done) z
    → let p = alone (rule_of log k) y.memory t (done k) in total + n ≡ (rule_of log k).size p.thread
    → let r = run z.memory p.thread total in LastPartGoes log y z done k r (run (lays z.memory r.words) r.thread n)
