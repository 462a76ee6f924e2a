-- What a log's verdict makes of a replay, and of its sphere's state.
use Rattle.std.specs.Prelude.{ℕ, ◌+◌, Option, Some, None, option_map, if◌then◌else◌}
use Rattle.dl_entry.specs.declared.Why.{Why}
use Rattle.spec_play.specs.Progress.{Progress, with_dma, with_dma_used}
use Rattle.spec_play.specs.Verdicts.{LogVerdict, Goes, Fails}
use Rattle.spec_play.specs.Transfers.{DmaVerdict, DmaGoes, DmaFails}
use Rattle.spec_play.specs.Plays.{with_threads}
use Rattle.spec_strata.specs.Standing.{Standing, after_thread, after_dma, is_last}
use Rattle.spec_sphere.specs.sphere.Commits.{with_commit}
use Rattle.dl_kernel.specs.States.{PlayState as State}
use Rattle.dl_replay.specs.declared.verdict.Verdict.{Verdict}
use Rattle.dl_replay.specs.Following.{Following, followed, diverged}

-- the answer, the replay, and the state of its sphere, whose memory stays as it is
pub record Judged : Type 0 where
  pub verdict : Verdict
  pub replay : Following
  pub state : State

-- only the end is noted
abbrev pub failed : Following → State → Why → Judged
failed r s why = record { verdict = Verdict.Diverged why; replay = diverged why s.commits r; state = s }

-- the thread of the last commit, after one of thread k: in strata the last one of canonical order
abbrev pub last_by : Option Standing → (thread : ℕ) → (last : Option ℕ) → Option ℕ
last_by None k last = Some k
last_by (Some x) k last = if is_last k x then Some k else last

-- a commit of thread k, after this progress
abbrev pub judged : Following → State → Progress → (thread : ℕ) → LogVerdict → Judged
judged r s p k (Fails why) = failed r s why
judged r s p k (Goes e u) =
    let threads = with_threads k e s.threads in
    record {
      verdict = Verdict.Went;
      replay = followed r.log r.interval (option_map (after_thread k) r.strata) (with_commit r.strata k e p) u threads;
      state = record s {
        threads = threads;
        request = e.request;
        last = last_by r.strata k s.last;
        commits = s.commits + 1;
        used = u;
      };
    }

-- a DMA, which leaves the turn where it is
abbrev pub dma_judged : Following → State → Progress → DmaVerdict → Judged
dma_judged r s p (DmaFails why) = failed r s why
dma_judged r s p (DmaGoes words) =
    let used = with_dma_used s.used in
    record {
      verdict = Verdict.Went;
      replay = followed r.log r.interval (option_map after_dma r.strata) (with_dma p) used s.threads;
      state = record s { request = None; commits = s.commits + 1; used = used };
    }
