-- A commit of a stratum, put in its place among the commits that are done, leaves the progress that canonical order gives.
use Rattle.std.proofs.Common.{◌≡◌, ℕ, ◌+◌, inl, inr, Bool, cond, List, ◌++◌, length, Option, Some, sym, ap, ◌∙◌, arith, refl}
use Rattle.std.specs.Prelude.{insert}
use Rattle.std.specs.List.{sum}
use Rattle.std.specs.Option.{option_or}
use Rattle.std.proofs.lemmas.Bool.{cases_eq, eq-eqb, ne_eqb}
use Rattle.dl_entry.specs.declared.Actor.{Actor}
use Rattle.dl_entry.specs.declared.Commit.{Commit}
use Rattle.spec_log.specs.declared.LogParts.{LogParts}
use Rattle.spec_play.specs.Effects.{Effect, chunk_commit}
use Rattle.spec_play.specs.Progress.{last_thread}
use Rattle.spec_play.specs.Plays.{Played}
use Rattle.spec_strata.specs.Shares.{Share, state_at, bump}
use Rattle.spec_strata.specs.InPlay.{rule_of, commits_of, in_stratum}
use Rattle.spec_strata.specs.Orders.{insert_at, place}
use Rattle.spec_strata.specs.Standing.{Standing, done_up_to, place_of, is_last}
use Rattle.spec_strata.proofs.Shares.Checking.{shares-of}
use Rattle.spec_strata.proofs.Plays.Strata.{insert-behind}
use Rattle.spec_strata.proofs.Standing.Counts.{up-to-most}
use Rattle.spec_strata.proofs.Standing.Places.{OnlyOf, place-is, length-is, insert-is, threads-of, last-before, last-at-end}
use Rattle.spec_sphere.specs.sphere.Commits.{with_commit}
use Rattle.spec_replay.specs.InStrata.{done_by}

-- where a commit of thread k comes in canonical order, and which is then the last
module _ (log : LogParts) (y : Played) (x : Standing) (k : ℕ) (e : Effect) where
  abbrev old : List Commit
  old = commits_of chunk_commit (state_at (rule_of log) y.memory y.threads (done_by x)).shares

  abbrev new : List Commit
  new = commits_of chunk_commit (state_at (rule_of log) y.memory y.threads (bump (done_by x) k)).shares

  pub record Placed : Type 0 where
    pub before : x.before ≡ length y.progress.commits
    pub only : OnlyOf (length y.threads) x.done
    pub actor : e.commit.actor ≡ Actor.Thread k
    pub placed : new ≡ insert_at (place k (state_at (rule_of log) y.memory y.threads (done_by x)).shares) e.commit old
    pub request : e.request ≡ y.progress.request

  module _ (h : Placed) where
    at_place : place k (state_at (rule_of log) y.memory y.threads (done_by x)).shares ≡ done_up_to k x.done
    at_place = ap (place k) (shares-of (rule_of log) y.memory y.threads (done_by x)) ∙ place-is (rule_of log) y.memory y.threads x.done k h.only

    all_old : length old ≡ sum x.done
    all_old =
        ap (λ (ps : List Share). length (commits_of chunk_commit ps)) (shares-of (rule_of log) y.memory y.threads (done_by x))
        ∙ length-is chunk_commit (rule_of log) y.memory y.threads x.done h.only

    placed-at : new ≡ insert_at (done_up_to k x.done) e.commit old
    placed-at = h.placed ∙ ap (λ (i : ℕ). insert_at i e.commit old) at_place

    commits_placed : insert (y.progress.commits ++ old) (place_of k x) e.commit ≡ y.progress.commits ++ new
    commits_placed =
        insert-is (place_of k x) e.commit (y.progress.commits ++ old)
        ∙ ap (λ (i : ℕ). insert_at (i + done_up_to k x.done) e.commit (y.progress.commits ++ old)) h.before
        ∙ insert-behind y.progress.commits old (done_up_to k x.done) e.commit
        ∙ ap (λ (cs : List Commit). y.progress.commits ++ cs) (sym placed-at)

    abbrev last_if : Bool → Option ℕ
    last_if b = cond b (Some k) (option_or (last_thread old) y.progress.last)

    last_placed : last_if (is_last k x) ≡ option_or (last_thread new) y.progress.last
    last_placed =
        elim (cases_eq (done_up_to k x.done) (sum x.done)) [
          | inl same ↦ ap last_if (eq-eqb (done_up_to k x.done) (sum x.done) same)
              ∙ ap (λ (o : Option ℕ). option_or o y.progress.last)
              (sym (ap last_thread placed-at ∙ ap (λ (i : ℕ). last_thread (insert_at i e.commit old)) (same ∙ sym all_old) ∙ last-at-end e.commit old k h.actor))
          | inr ne ↦ ap last_if (ne_eqb (done_up_to k x.done) (sum x.done) ne)
              ∙ ap (λ (o : Option ℕ). option_or o y.progress.last)
              (sym (ap last_thread placed-at ∙ last-before (done_up_to k x.done) e.commit old
              (threads-of chunk_commit (state_at (rule_of log) y.memory y.threads (done_by x)).shares (λ j r. (j, refl)))
              (let m = up-to-most k x.done in let n = all_old in omega (arith, m, n, ne))))
        ]

    -- the commit comes where canonical order has it
    pub progress-placed : with_commit (Some x) k e (in_stratum log y (done_by x)).progress ≡ (in_stratum log y (bump (done_by x) k)).progress
    progress-placed = (λ i. record y.progress { commits = commits_placed i; last = last_placed i; request = h.request i })
