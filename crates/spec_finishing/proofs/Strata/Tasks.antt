-- What the next commit of a stratum does, of a thread or a DMA, and what the strata have left before and after it.
use Rattle.std.proofs.Common.{◌≡◌, ℕ, suc, ◌+◌, ◌-◌, ◌<◌, ◌≤◌, inl, inr, Bool, true, false, cond, List, [], ◌∷◌, length, Some, refl, sym, ap, ◌∙◌, subst, arith}
use Rattle.std.specs.Prelude.{nat_lt, slice_get}
use Rattle.std.specs.List.{sum}
use Rattle.std.proofs.lemmas.List.{append_cancel_left}
use Rattle.std.proofs.lemmas.List.Sums.{sum_by-cons}
use Rattle.dl_entry.specs.declared.Commit.{Commit}
use Rattle.spec_isa.specs.declared.thread.Parts.{Parts}
use Rattle.spec_log.specs.declared.LogParts.{LogParts}
use Rattle.spec_play.specs.Effects.{chunk_commit}
use Rattle.spec_play.specs.Turns.{Turn}
use Rattle.spec_play.specs.Transfers.{dma_verdict}
use Rattle.spec_play.specs.Plays.{Played, plays}
use Rattle.spec_play.proofs.Going.{Lives, turn-lives}
use Rattle.spec_strata.specs.declared.stratum.Stratum.{Stratum}
use Rattle.spec_strata.specs.declared.stratum.Stratum.TheVariants.{Chunks, Serial, Dma}
use Rattle.spec_strata.specs.declared.strata.StrataParts.{StrataParts}
use Rattle.spec_strata.specs.Strata.{commits_in, commits_in_all}
use Rattle.spec_strata.specs.Canonical.{rising, canonical}
use Rattle.spec_strata.specs.Shares.{bump, state_at}
use Rattle.spec_strata.specs.InPlay.{rule_of, IsLike}
use Rattle.spec_strata.specs.Orders.{StepsOn}
use Rattle.spec_strata.specs.Costs.{stratum_cost}
use Rattle.spec_strata.specs.Standing.{Standing, stratum_begun, with_one_done, after_thread, after_dma}
use Rattle.spec_strata.proofs.Plays.Strata.{strata_step}
use Rattle.spec_strata.proofs.Plays.Pieces.{costs_grow, costs_step}
use Rattle.spec_sphere.specs.sphere.Spheres.{Cursor, Sphere}
use Rattle.spec_sphere.specs.sphere.Setups.{SphereSetup}
use Rattle.spec_replay.specs.InStrata.{stratum_from, stratum_at}
use Rattle.spec_strata.proofs.Standing.Counts.{count_at, counts-rising, done-more, within}
use Rattle.spec_replay.proofs.Strata.Coming.{Comes, opened_by, none-in, few-bumped}
use Rattle.spec_replay.proofs.Strata.Chunks.{thread-lives}
use Rattle.spec_replay.proofs.Strata.Going.{WhoGoes}
use Rattle.spec_replay.proofs.Strata.Moved.{at_standing}
use Rattle.spec_replay.proofs.Strata.Stopping.{count-is}
use Rattle.spec_finishing.specs.Work.{dma_stored, turn_work, next_work, commit_work, commits_work}
use Rattle.spec_finishing.specs.Rank.{strata_left}
use Rattle.spec_finishing.proofs.Paying.Plays.{work-split, left-behind}
use Rattle.spec_finishing.proofs.Strata.Costing.{run_of, chunk-work, chunk-appended, stratum-cost, nothing-costs}

-- what all strata have left
abbrev pub all_left : StrataParts → SphereSetup → Standing → (total : ℕ) → ℕ
all_left v image x total = strata_left (canonical v) (opened_by v image) (canonical v).count x total

-- the next commit, by which the standing x becomes the other one: its work, and how much there is later
pub record Task (v : StrataParts) (image : SphereSetup) (x after : Standing) : Type 0 where
  pub work : ℕ
  pub later : ℕ
  pub left : (total : ℕ) → all_left v image x total ≡ (work + later) - total
  pub whole : all_left v image after 0 ≤ later

-- thread k's next commit
pub record ThreadTask (v : StrataParts) (image : SphereSetup) (x : Standing) (k : ℕ) : Type 0 where
  pub task : Task v image x (after_thread k x)
  pub lives : Lives (stratum_at v image x).threads k
  pub works : (t : Parts) → slice_get (stratum_at v image x).threads k ≡ Some t → task.work ≡ turn_work (canonical v) (stratum_at v image x) k (Some t)

-- the DMA that is the present stratum
pub record DmaTask (v : StrataParts) (image : SphereSetup) (x : Standing) : Type 0 where
  pub task : Task v image x (after_dma x)
  pub works : let at = stratum_at v image x in task.work ≡ suc (dma_stored (dma_verdict (canonical v) at.progress at.used))

-- ---- a chunk

like_itself : (y : Played) → IsLike y y
like_itself y = record { memory = refl; threads = refl; request = refl; used = refl; first = refl; count = refl; each = λ by. refl }

-- thread k has chunks left in the present stratum
module _ (v : StrataParts) (image : SphereSetup) (counts : List ℕ) (rest : List Stratum) (done : List ℕ) (before : ℕ) (standard : 0 < v.s) (c : Comes v image (at_standing (Chunks counts ∷ rest) done before)) (k : ℕ) (left : count_at done k < count_at counts k) where
  abbrev x : Standing
  x = at_standing (Chunks counts ∷ rest) done before

  abbrev first : Played
  first = opened_by v image

  abbrev log : LogParts
  log = canonical v

  -- where the stratum begins, and where the play is in it
  abbrev y : Played
  y = stratum_from v image x

  abbrev at : Played
  at = stratum_at v image x

  abbrev cost : (ℕ → ℕ) → ℕ
  cost some = stratum_cost log y some

  -- with the chunk too, and of the whole stratum
  abbrev one_more : ℕ
  one_more = cost (bump (count_at done) k)

  abbrev all : ℕ
  all = cost (count_at counts)

  -- of the strata after it
  abbrev behind : ℕ
  behind = commits_work log first (sum counts + before) (commits_in_all rest)

  few : (j : ℕ) → bump (count_at done) k j ≤ count_at counts j
  few j = let l = few-bumped v image counts rest done before standard c k left j in let e = counts-rising counts j in omega (arith, l, e)

  -- the chunk goes as logged
  steps : StepsOn log y at (state_at (rule_of log) y.memory y.threads (count_at done)) (state_at (rule_of log) y.memory y.threads (bump (count_at done) k)) k
  steps =
      strata_step log y at (rising 0 counts) (count_at done) k standard c.goes.1.0
      (few-bumped v image counts rest done before standard c k left) (like_itself at)

  -- what the stratum has cost is then more by it and its instructions, and no more than the whole stratum costs
  size : steps.commit.size ≡ (run_of log at k steps.goes).n
  size =
      let d = chunk_commit k (run_of log at k steps.goes) in
      let same : (steps.commit ∷ []) ≡ (d ∷ []) = append_cancel_left at.progress.commits (steps.commit ∷ []) (d ∷ []) (sym steps.appended ∙ chunk-appended log at k steps.goes) in
      let one : steps.commit ≡ d = cc in
      ap (λ (e : Commit). e.size) one

  costs : one_more ≡ suc (run_of log at k steps.goes).n + cost (count_at done)
  costs = let a = costs_step log y at (count_at done) k steps in let b = size in omega (arith, a, b)

  grows : one_more ≤ all
  grows = costs_grow log y (bump (count_at done) k) (count_at counts) few

  counted : before + (sum counts + commits_in_all rest) ≡ log.count
  counted = let a = count-is v image x c in let b = sum_by-cons commits_in (Chunks counts) rest in omega (arith, a, b)

  -- the stratum and those after it
  whole_cost : commits_work log first before (log.count - before) ≡ all + behind
  whole_cost =
      let many : log.count - before ≡ sum counts + commits_in_all rest = (let h = counted in omega (arith, h)) in
      let a = ap (commits_work log first before) many in
      let b = work-split log first before (sum counts) (commits_in_all rest) in
      let d = stratum-cost log first before counts standard c.goes.1.0 c.looked c.goes.1.1 in
      omega (arith, a, b, d)

  has_left : (total : ℕ) → all_left v image x total ≡ (suc (run_of log at k steps.goes).n + ((all + behind) - one_more)) - total
  has_left total =
      let a = left-behind log first log.count before (cost (count_at done) + total) in
      let b = whole_cost in
      let d = costs in
      let e = grows in
      omega (arith, a, b, d, e)

  -- ---- after it

  there : k < length done
  there = let a = c.open_.0 in let b = within counts k (omega (arith, left)) in omega (arith, a, b)

  -- the stratum goes on
  goes_on : all_left v image (at_standing (Chunks counts ∷ rest) (with_one_done k done) before) 0 ≤ (all + behind) - one_more
  goes_on =
      let same : cost (count_at (with_one_done k done)) ≡ one_more = ap cost (λ i j. done-more done k j there i) in
      let a = left-behind log first log.count before (cost (count_at (with_one_done k done)) + 0) in
      let b = whole_cost in
      omega (arith, same, a, b)

  -- or the next one begins
  next_begins : all_left v image (stratum_begun rest (before + sum counts)) 0 ≤ (all + behind) - one_more
  next_begins =
      let begun = stratum_begun rest (before + sum counts) in
      let some = stratum_cost log (plays log first begun.before) (count_at begun.done) in
      let a = left-behind log first log.count begun.before (some + 0) in
      let many : log.count - begun.before ≡ commits_in_all rest = (let h = counted in omega (arith, h)) in
      let order : before + sum counts ≡ sum counts + before = omega arith in
      let b = ap (commits_work log first begun.before) many in
      let d = ap (λ (i : ℕ). commits_work log first i (commits_in_all rest)) order in
      let e = grows in
      omega (arith, a, b, d, e)

  after_by : (less : Bool) → all_left v image (cond less (at_standing (Chunks counts ∷ rest) (with_one_done k done) before) (stratum_begun rest (before + sum counts))) 0 ≤ (all + behind) - one_more
  after_by true = goes_on
  after_by false = next_begins

  chunk_task : ThreadTask v image x k
  chunk_task =
      record {
        task = record {
          work = suc (run_of log at k steps.goes).n;
          later = (all + behind) - one_more;
          left = has_left;
          whole = after_by (nat_lt (sum (with_one_done k done)) (sum counts));
        };
        lives = thread-lives v image counts rest done before standard c k left;
        works = λ t is.
            let same : Some steps.goes.thread ≡ Some t = sym steps.goes.there ∙ is in
            sym (chunk-work log at k steps.goes) ∙ ap (turn_work log at k) same;
      }

-- ---- a stratum that is one commit

-- it is a serial step or a DMA, of which nothing is done
module _ (v : StrataParts) (image : SphereSetup) (s : Stratum) (rest : List Stratum) (done : List ℕ) (before : ℕ) (standard : 0 < v.s) (c : Comes v image (at_standing (s ∷ rest) done before)) (one : commits_in s ≡ 1) (none : done ≡ []) where
  no_count : (j : ℕ) → count_at done j ≡ 0
  no_count j = ap (λ (ds : List ℕ). count_at ds j) none

  abbrev start : Played
  start = stratum_from v image (at_standing (s ∷ rest) done before)

  -- the play is at its start
  at_start : stratum_at v image (at_standing (s ∷ rest) done before) ≡ start
  at_start = none-in (canonical v) start done c.looked no_count

  many : (canonical v).count - before ≡ suc (commits_in_all rest)
  many = let a = count-is v image (at_standing (s ∷ rest) done before) c in let b = sum_by-cons commits_in s rest in omega (arith, a, b, one)

  one_task : Task v image (at_standing (s ∷ rest) done before) (stratum_begun rest (suc before))
  one_task =
      let log : LogParts = canonical v in
      let first : Played = opened_by v image in
      let n : ℕ = log.count in
      let cost : stratum_cost log start (count_at done) ≡ 0 = ap (stratum_cost log start) (λ i j. no_count j i) ∙ nothing-costs log first before standard c.looked in
      let later : ℕ = commits_work log first (suc before) (commits_in_all rest) in
      record {
        work = commit_work log start;
        later = later;
        left = λ total. (
            let a = left-behind log first n before (stratum_cost log start (count_at done) + total) in
            let d = ap (commits_work log first before) many in
            omega (arith, a, d, cost)
            );
        whole = (
            let begun = stratum_begun rest (suc before) in
            let some = stratum_cost log (plays log first (suc before)) (count_at begun.done) in
            let a = left-behind log first n (suc before) (some + 0) in
            let m = many in
            let less : n - suc before ≡ commits_in_all rest = omega (arith, m) in
            let d = ap (commits_work log first (suc before)) less in
            omega (arith, a, d)
            );
      }

-- thread k's serial step
serial_task : (v : StrataParts) (image : SphereSetup) (rest : List Stratum) (done : List ℕ) (before : ℕ) (k : ℕ) → 0 < v.s → Comes v image (at_standing (Serial k ∷ rest) done before) → ThreadTask v image (at_standing (Serial k ∷ rest) done before) k
unfolding commit_work one_task
serial_task v image rest done before k standard c =
    let log : LogParts = canonical v in
    let y : Played = stratum_from v image (at_standing (Serial k ∷ rest) done before) in
    let turn : y.now ≡ Turn k = c.goes.1.turn in
    let same = at_start v image (Serial k) rest done before standard c refl c.open_ in
    record {
      task = one_task v image (Serial k) rest done before standard c refl c.open_;
      lives = subst (λ (z : Played). Lives z.threads k) (sym same) (turn-lives log y.progress y.used y.threads k (sym c.looked ∙ turn));
      works = λ t is.
          ap (next_work log y) turn ∙ ap (λ (z : Played). turn_work log z k (slice_get z.threads k)) (sym same)
          ∙ ap (turn_work log (stratum_at v image (at_standing (Serial k ∷ rest) done before)) k) is;
    }

-- a DMA
dma_task : (v : StrataParts) (image : SphereSetup) (rest : List Stratum) (done : List ℕ) (before : ℕ) → 0 < v.s → Comes v image (at_standing (Dma ∷ rest) done before) → DmaTask v image (at_standing (Dma ∷ rest) done before)
unfolding commit_work one_task
dma_task v image rest done before standard c =
    let log : LogParts = canonical v in
    let y : Played = stratum_from v image (at_standing (Dma ∷ rest) done before) in
    record {
      task = one_task v image Dma rest done before standard c refl c.open_;
      works =
          ap (next_work log y) c.goes.1.0
          ∙ ap (λ (z : Played). suc (dma_stored (dma_verdict log z.progress z.used))) (sym (at_start v image Dma rest done before standard c refl c.open_));
    }

-- ---- any stratum

task_by : (v : StrataParts) (image : SphereSetup) (xs : List Stratum) (done : List ℕ) (before : ℕ) (p : Sphere) (b : Cursor) (k : ℕ) → 0 < v.s → Comes v image (at_standing xs done before)
    → WhoGoes (stratum_at v image (at_standing xs done before)) (at_standing xs done before) p b k → ThreadTask v image (at_standing xs done before) k
task_by v image [] done before p b k standard c (inl left) = absurd (omega (arith, left))
task_by v image [] done before p b k standard c (inr step) = let e = step.strata in absurd (cc)
task_by v image (Chunks counts ∷ rest) done before p b k standard c (inl left) = chunk_task v image counts rest done before standard c k left
task_by v image (Chunks counts ∷ rest) done before p b k standard c (inr step) = let e = step.strata in absurd (cc)
task_by v image (Serial j ∷ rest) done before p b k standard c (inl left) = absurd (omega (arith, left))
task_by v image (Serial j ∷ rest) done before p b k standard c (inr step) =
    let e = step.strata in
    let same : j ≡ k = cc in
    subst (λ (i : ℕ). ThreadTask v image (at_standing (Serial j ∷ rest) done before) i) same (serial_task v image rest done before j standard c)
task_by v image (Dma ∷ rest) done before p b k standard c (inl left) = absurd (omega (arith, left))
task_by v image (Dma ∷ rest) done before p b k standard c (inr step) = let e = step.strata in absurd (cc)

-- the next commit of a thread that may commit
pub thread-task : (v : StrataParts) (image : SphereSetup) (x : Standing) (p : Sphere) (b : Cursor) (k : ℕ) → 0 < v.s → Comes v image x → WhoGoes (stratum_at v image x) x p b k → ThreadTask v image x k
thread-task v image x p b k standard c who = task_by v image x.strata x.done x.before p b k standard c who

dma_by : (v : StrataParts) (image : SphereSetup) (xs rest : List Stratum) (done : List ℕ) (before : ℕ) → 0 < v.s → Comes v image (at_standing xs done before) → xs ≡ Dma ∷ rest → DmaTask v image (at_standing xs done before)
dma_by v image [] rest done before standard c e = absurd (cc)
dma_by v image (Chunks counts ∷ xs) rest done before standard c e = absurd (cc)
dma_by v image (Serial j ∷ xs) rest done before standard c e = absurd (cc)
dma_by v image (Dma ∷ xs) rest done before standard c e = dma_task v image xs done before standard c

-- the DMA whose turn it is
pub dma-task : (v : StrataParts) (image : SphereSetup) (x : Standing) (rest : List Stratum) → 0 < v.s → Comes v image x → x.strata ≡ Dma ∷ rest → DmaTask v image x
dma-task v image x rest standard c e = dma_by v image x.strata rest x.done x.before standard c e
