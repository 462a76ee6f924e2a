-- A stratum within the play of a log.
use Rattle.std.specs.Prelude.{◌≡◌, ℕ, suc, Bool, true, false, nat_eq, List, [], ◌∷◌, length, Option, Some, None, ◌+◌, ◌++◌, map, slice_get, if◌then◌else◌}
use Rattle.spec_isa.specs.declared.thread.Parts.{Parts}
use Rattle.spec_isa.specs.Runs.{run, Run}
use Rattle.spec_kernel.specs.Needs.{next_kind}
use Rattle.std.specs.Option.{option_or, option_map_or}
use Rattle.dl_entry.specs.declared.Commit.{Commit}
use Rattle.spec_log.specs.declared.LogParts.{LogParts}
use Rattle.spec_kernel.specs.Interrupts.{interrupted}
use Rattle.spec_play.specs.Effects.{Effect, counted, chunk_commit}
use Rattle.spec_play.specs.Progress.{Progress, thread_of, last_thread}
use Rattle.spec_play.specs.declared.used.Used.{Used}
use Rattle.spec_play.specs.Turns.{Turn, now_at}
use Rattle.spec_play.specs.Verdicts.{Goes, interrupt_at, chunk_verdict}
use Rattle.spec_play.specs.Plays.{Played, size_or_standard, play_turn}
use Rattle.spec_strata.specs.Shares.{Share, stratum_start, StratumState, Rule, state_at}
use Rattle.spec_strata.specs.Parallel.{AreClear}

-- ---- what a log says of a thread's commits

-- a thread that takes the interrupt, if one is logged
abbrev pub after_interrupt : Option ℕ → Parts → Parts
after_interrupt None t = t
after_interrupt (Some value) t = interrupted value t

-- how many it takes
abbrev pub number_of : Option ℕ → ℕ
number_of None = 0
number_of (Some value) = 1

-- the log gives a size to each chunk, and an interrupt after some
abbrev pub rule_of : LogParts → (thread : ℕ) → Rule
rule_of log k =
    record {
      size = λ t. size_or_standard log k t.commits;
      settle = λ t. after_interrupt (interrupt_at log.interrupts k (counted t).commits) (counted t);
      raises = λ t. number_of (interrupt_at log.interrupts k (counted t).commits);
    }

-- ---- chunks, whoever has the turn

-- the next commit of thread k is a chunk and goes as logged
pub record ChunkGoes (log : LogParts) (y : Played) (k : ℕ) : Type 0 where
  pub thread : Parts
  pub there : slice_get y.threads k ≡ Some thread
  pub chunk : next_kind thread y.memory ≡ None
  pub effect : Effect
  pub used : Used
  pub goes : let r = run y.memory thread (size_or_standard log k thread.commits) in
      chunk_verdict log y.progress y.used k r ≡ Goes effect used

-- the play with the next commits of these threads, one after the other
abbrev pub plays_of : LogParts → Played → List ℕ → Played
plays_of log y [] = y
plays_of log y (k ∷ ks) = plays_of log (play_turn log y (Turn k)) ks

-- each of them is a chunk and goes as logged
abbrev pub ChunksGo : LogParts → Played → List ℕ → Type 0
ChunksGo log y [] = Unit {0}
ChunksGo log y (k ∷ ks) = ChunkGoes log y k × ChunksGo log (play_turn log y (Turn k)) ks

-- ---- the play that a stratum's state gives

-- the interrupts that were taken
abbrev pub raised_of : List Share → ℕ
raised_of [] = 0
raised_of (p ∷ ps) = p.raised + raised_of ps

-- the commits of all shares, threads rising
abbrev pub commits_of : (ℕ → Run → Commit) → List Share → List Commit
commits_of f [] = []
commits_of f (p ∷ ps) = map (f 0) p.runs ++ commits_of (λ k. f (suc k)) ps

-- the play, which was y before the stratum, when the stratum's state is x
abbrev pub with_state : LogParts → Played → StratumState → Played
with_state log y x =
    let threads : List Parts = map (λ p. p.thread) x.shares in
    let new : List Commit = commits_of chunk_commit x.shares in
    let last : Option ℕ = option_or (last_thread new) y.progress.last in
    let progress : Progress = record y.progress { commits = y.progress.commits ++ new; last = last } in
    let used : Used = record y.used { interrupts = y.used.interrupts + raised_of x.shares } in
    record { memory = x.memory; threads = threads; progress = progress; used = used; now = now_at log progress used threads }

-- the play after so many commits of each thread in the stratum
abbrev pub in_stratum : LogParts → Played → (done : ℕ → ℕ) → Played
in_stratum log y done = with_state log y (state_at (rule_of log) y.memory y.threads done)

-- ---- plays that are alike

-- whether a commit is of that thread, or of no thread
abbrev pub is_by : Option ℕ → Commit → Bool
is_by a c =
    elim a [
      | None ↦ option_map_or (λ k. false) (thread_of c.actor) true
      | Some j ↦ option_map_or (λ k. nat_eq j k) (thread_of c.actor) false
    ]

-- a thread's commits, in its order; or those of no thread
abbrev pub commits_by : Option ℕ → List Commit → List Commit
commits_by a [] = []
commits_by a (c ∷ cs) = if is_by a c then c ∷ commits_by a cs else commits_by a cs

-- two plays have the same memory, threads, request, use of the log, and commits of each thread, with loads and outputs: all
-- but the order of commits of different threads, and what depends on that alone
pub record IsLike (y z : Played) : Type 0 where
  pub memory : z.memory ≡ y.memory
  pub threads : z.threads ≡ y.threads
  pub request : z.progress.request ≡ y.progress.request
  pub used : z.used ≡ y.used
  pub first : z.progress.first ≡ y.progress.first
  pub count : length z.progress.commits ≡ length y.progress.commits
  pub each : (by : Option ℕ) → commits_by by z.progress.commits ≡ commits_by by y.progress.commits

-- whose turn it is is as the log says
abbrev pub IsLooked : LogParts → Played → Type 0
IsLooked log y = y.now ≡ now_at log y.progress y.used y.threads

-- ---- a stratum

-- in this order the commits are chunks that go as logged, and none conflicts with an earlier one of another thread
pub record IsStratum (log : LogParts) (y : Played) (ks : List ℕ) : Type 0 where
  pub go : ChunksGo log y ks
  pub clear : AreClear (rule_of log) (stratum_start y.memory y.threads) ks
