-- A tail plays on as the log does that it is the last part of.
use Rattle.std.proofs.Common.{◌≡◌, ℕ, ◌+◌, ◌-◌, ◌<◌, ◌≤◌, inl, inr, Bool, true, false, List, [], ◌∷◌, ◌++◌, length, Some, refl, sym, ap, ◌∙◌, subst, arith}
use Rattle.std.specs.Prelude.{slice_get, nat_lt, nat_le, not, drop, filter, map, if◌then◌else◌}
use Rattle.std.proofs.lemmas.Bool.{lt-ltb, le-ltb, le-leb, or_right, cases_lt}
use Rattle.std.proofs.lemmas.List.{length-map}
use Rattle.std.proofs.lemmas.Option.{slice_get_past}
use Rattle.dl_entry.specs.declared.Commit.{Commit}
use Rattle.dl_entry.specs.declared.End.{End}
use Rattle.spec_isa.specs.declared.thread.Parts.{Parts}
use Rattle.spec_log.specs.declared.DmaRecord.{DmaRecord}
use Rattle.spec_log.specs.declared.LogParts.{LogParts}
use Rattle.spec_play.specs.declared.WalkEnd.{WalkEnd}
use Rattle.spec_play.specs.declared.used.Used.{Used}
use Rattle.spec_play.specs.Epochs.{was_raised, log_from}
use Rattle.spec_play.specs.Plays.{Played, opened as log_opened, plays, play as log_play, FitsImage}
use Rattle.spec_play.specs.Progress.{Progress, position, nothing_used}
use Rattle.spec_play.specs.Resuming.{IsResumed}
use Rattle.spec_play.specs.States.{State, state_of as state_at, progress_from, resumed}
use Rattle.spec_play.specs.Turns.{TurnOrEnd, Turn, TurnOfDma, Ended, are_sizes_used, has_left_over, now_at}
use Rattle.spec_play.specs.Verdicts.{interrupt_at}
use Rattle.spec_play.specs.Walks.{is_looked_at, walk_end}
use Rattle.spec_play.proofs.Bounds.{after-bounded}
use Rattle.spec_play.proofs.Going.{plays-first}
use Rattle.spec_play.proofs.Resuming.{plays_resume}
use Rattle.spec_tail.specs.Cutting.{after_interrupts, IsTailAt, IsTailOf}
use Rattle.spec_tail.specs.Playing.{commits_of, begun, interrupt_since, dma_since, log_since, uncounted, Raised, raised, begun_play, opened, played, counted_from, walk_end_from, walked}
use Rattle.spec_tail.specs.Promise.{turn_from, IsAlong, TailsPlayOn}
use Rattle.spec_tail.specs.Tails.{Tail, state_of}
use Rattle.spec_tail.proofs.Along.Fitting.{fitting-after, by-position}
use Rattle.spec_tail.proofs.Along.Lookups.{get-drop, more-drop}
use Rattle.spec_tail.proofs.Along.Raised.{begun-same, coming_to, raised-after, all-taken, recounted-all, all-interrupts}
use Rattle.spec_tail.proofs.Along.Reached.{IsReached, plays-reached}
use Rattle.spec_tail.proofs.Along.Rests.{IsArranged, arranged-of, since, rest-heads, rest-sizes, rest-dma_sizes, rest-interrupts, coming-since, rest-transfers, rest-used}
use Rattle.spec_tail.proofs.Along.Steps.{Covers, after, IsAlike, progress_lifted, lifted, IsFit, now-lifted, dma-below, plays-lifted}
use Rattle.spec_tail.proofs.Along.Tallies.{Each, tally-most, length-filter}

ltb-both : (b i n m : ℕ) → b + n ≡ m → nat_lt (b + i) m ≡ nat_lt i n
ltb-both b i n m sum =
    elim (cases_lt i n) [
      | inl less ↦ lt-ltb (b + i) m (omega (arith, less, sum)) ∙ sym (lt-ltb i n less)
      | inr most ↦ le-ltb (b + i) m (omega (arith, most, sum)) ∙ sym (le-ltb i n most)
    ]

-- ---- at the base

module _ (log : LogParts) (y : Played) (t : Tail) (arranged : IsArranged log) (after_first : Each (λ x. 0 < x.index) log.interrupts) (within : t.base ≤ log.count) (reached : IsReached log y) (by_position : filter (λ d. nat_le t.base d.position) log.dmas ≡ drop y.used.dmas log.dmas) (is : IsTailAt log y t) where
  abbrev base : ℕ
  base = t.base

  abbrev left : LogParts
  left = log_from base y.used.inputs (state_of t) log

  abbrev rest : LogParts
  rest = since base t.threads left

  abbrev before_base : ℕ → ℕ
  before_base = begun t.threads

  -- the interrupts that come at the base
  abbrev coming : ℕ
  coming = coming_to left.interrupts 0 t.threads

  abbrev before : Used
  before = record { inputs = y.used.inputs; interrupts = y.used.interrupts - coming; dmas = y.used.dmas }

  threads-after : y.threads ≡ after_interrupts left.interrupts 0 t.threads
  threads-after = is.threads ∙ ap (λ (l : LogParts). after_interrupts l.interrupts 0 t.threads) is.rest

  same : (k : ℕ) → before_base k ≡ begun y.threads k
  same k = sym (begun-same left.interrupts 0 t.threads k) ∙ ap (λ (ts : List Parts). begun ts k) (sym threads-after)

  -- those taken before the base, and those of the rest, are all; and some of the rest come at the base
  record AreCounted : Type 0 where
    all : y.used.interrupts + length left.interrupts ≡ length log.interrupts + coming
    few : coming ≤ y.used.interrupts

  counted : AreCounted
  counted =
      let taken = reached.interrupts in
      let all = all-interrupts log.interrupts y.threads t.threads arranged.rising after_first same in
      let kept = length-filter (λ x. not (was_raised t.threads x.thread x.index)) log.interrupts in
      let most = tally-most (λ x. not (was_raised t.threads x.thread x.index)) log.interrupts in
      record { all = omega (arith, taken, all); few = omega (arith, taken, all, kept, most) }

  left-over : (u : Used) (ts : List Parts) → Covers before_base ts → has_left_over log (after before u) (counted_from before_base 0 ts) ≡ has_left_over rest u ts
  unfolding has_left_over
  left-over u ts covers =
      let all = counted.all in
      let few = counted.few in
      let mapped = length-map left.interrupts (interrupt_since t.threads) in
      let mapped_dmas = length-map left.dmas (dma_since base left.count) in
      let sizes : are_sizes_used (counted_from before_base 0 ts) log.sizes ≡ are_sizes_used ts rest.sizes = rest-used log y (state_of t) arranged reached is.base same by_position ts covers in
      let interrupts : nat_lt ((y.used.interrupts - coming) + u.interrupts) (length log.interrupts) ≡ nat_lt u.interrupts (length rest.interrupts) =
      ltb-both (y.used.interrupts - coming) u.interrupts (length rest.interrupts) (length log.interrupts) (omega (arith, all, few, mapped)) in
      let inputs : nat_lt (y.used.inputs + u.inputs) (length log.inputs) ≡ nat_lt u.inputs (length rest.inputs) = more-drop log.inputs y.used.inputs u.inputs in
      let dmas : nat_lt (y.used.dmas + u.dmas) (length log.dmas) ≡ nat_lt u.dmas (length rest.dmas) =
      more-drop log.dmas y.used.dmas u.dmas ∙ ap (λ (ds : List DmaRecord). nat_lt u.dmas (length ds)) (sym by_position) ∙ ap (nat_lt u.dmas) (sym mapped_dmas) in
      λ i. if sizes i then if interrupts i then true else if inputs i then true else dmas i else true

  alike : IsAlike log rest base before_base before
  alike =
      record {
        threads = refl;
        s = refl;
        count = omega (arith, within);
        heads = rest-heads log y (state_of t) arranged reached is.base same by_position;
        sizes = rest-sizes log y (state_of t) arranged reached is.base same by_position;
        dma_sizes = rest-dma_sizes log y (state_of t) arranged reached is.base same by_position;
        interrupts = rest-interrupts log y (state_of t) arranged reached is.base same by_position;
        inputs = get-drop log.inputs y.used.inputs;
        transfers = rest-transfers log y (state_of t) arranged reached is.base same by_position;
        left = left-over;
      }

  -- ---- the opening

  abbrev started_at : LogParts → Raised → Played
  started_at l r =
      begun_play l (record (state_of t) { threads = r.threads; commits = 0; used = record nothing_used { interrupts = r.count } }) r.refused

  log-is : log_since t ≡ rest
  log-is = ap (since base t.threads) is.rest

  abbrev first_threads : List Parts
  first_threads = map uncounted y.threads

  abbrev first_used : Used
  first_used = record nothing_used { interrupts = coming }

  abbrev first_progress : Progress
  first_progress = record { first = 0; commits = []; last = t.last; request = t.request }

  abbrev start : Played
  start = started_at rest (record { threads = first_threads; count = coming; refused = false })

  at-base : (j : ℕ) (p : Parts) → slice_get t.threads j ≡ Some p → interrupt_at left.interrupts (0 + j) p.commits ≡ interrupt_at rest.interrupts (0 + j) 0
  at-base j p there =
      let none : 0 + j ≡ j = omega arith in
      let n : p.commits ≡ before_base (0 + j) + 0 = (let c = ap commits_of there in let d = ap before_base none in omega (arith, c, d)) in
      ap (interrupt_at left.interrupts (0 + j)) n ∙ coming-since log y (state_of t) arranged reached is.base same by_position (0 + j) 0

  opened-is : opened t ≡ start
  opened-is =
      ap (λ (l : LogParts). started_at l (raised l.interrupts 0 (map uncounted t.threads))) log-is
      ∙ ap (started_at rest)
      (raised-after left.interrupts rest.interrupts 0 t.threads (all-taken log t.threads y.threads after_first reached.handled threads-after) at-base
      ∙ ap (λ (ts : List Parts). record { threads = map uncounted ts; count = coming; refused = false }) (sym threads-after))

  covers : Covers before_base first_threads
  covers k past =
      let n = length-map y.threads uncounted in
      same k ∙ ap commits_of (slice_get_past y.threads k (omega (arith, past, n)))

  fit : IsFit rest before_base start
  fit = record { covers = covers; turn = dma-below log rest base before_base before alike first_progress first_used first_threads }

  abbrev play_at : List ℕ → List Parts → Progress → Used → Played
  play_at m ts p u = record { memory = m; threads = ts; progress = p; used = u; now = now_at log p u ts }

  -- the log's play, as it goes on from the base, is the tail's among the log's
  resumed-is : resumed log (state_at y) ≡ lifted base before_base before start
  resumed-is =
      let few = counted.few in
      let threads : y.threads ≡ counted_from before_base 0 first_threads =
      sym (recounted-all before_base 0 y.threads (λ j. let none : 0 + j ≡ j = omega arith in ap before_base none ∙ same j)) in
      let here : position y.progress ≡ base + 0 = (let h = is.base in omega (arith, h)) in
      let inputs : y.used.inputs ≡ y.used.inputs + 0 = omega arith in
      let interrupts : y.used.interrupts ≡ (y.used.interrupts - coming) + coming = omega (arith, few) in
      let dmas : y.used.dmas ≡ y.used.dmas + 0 = omega arith in
      let progress : progress_from (state_at y) ≡ progress_lifted base first_progress = (λ i. record { first = here i; commits = []; last = is.last i; request = is.request i }) in
      let used : y.used ≡ after before first_used = (λ i. record { inputs = inputs i; interrupts = interrupts i; dmas = dmas i }) in
      (λ i. play_at (is.memory i) (threads i) (progress i) (used i))
      ∙ ap (λ (now : TurnOrEnd). record { memory = t.memory; threads = counted_from before_base 0 first_threads; progress = progress_lifted base first_progress; used = after before first_used; now = now })
      (now-lifted log rest base before_base before alike first_progress first_used first_threads covers)

  -- ---- the play

  played-is : (i : ℕ) → played t i ≡ plays rest start i
  played-is i = (λ j. plays (log_is j) (opened_is j) i) where
    log_is : log_since t ≡ rest
    log_is = log-is

    opened_is : opened t ≡ start
    opened_is = opened-is

  resumed-plays : (i : ℕ) → plays log (resumed log (state_at y)) i ≡ lifted base before_base before (played t i)
  resumed-plays i =
      ap (λ (w : Played). plays log w i) resumed-is
      ∙ plays-lifted log rest base before_base before alike start i fit
      ∙ ap (lifted base before_base before) (sym (played-is i))

  drop-all : (xs zs : List Commit) → drop (length xs) (xs ++ zs) ≡ zs
  drop-all [] zs = refl
  drop-all (x ∷ xs) zs = drop-all xs zs

  along : (z : Played) (i : ℕ) → y.progress.first ≡ 0 → IsResumed y z (plays log (resumed log (state_at y)) i) → IsAlong t z (played t i)
  along z i first r =
      let w : Played = plays log (resumed log (state_at y)) i in
      let v : Played = played t i in
      let same_play : w ≡ lifted base before_base before v = resumed-plays i in
      let n : t.base ≡ length y.progress.commits = (let b = is.base in omega (arith, b, first)) in
      record {
        memory = sym (ap (λ (s : State). s.memory) r.state) ∙ ap (λ (x : Played). x.memory) same_play;
        threads = sym (ap (λ (s : State). s.threads) r.state) ∙ ap (λ (x : Played). x.threads) same_play;
        commits = ap (drop t.base) r.commits ∙ ap (λ (k : ℕ). drop k (y.progress.commits ++ w.progress.commits)) n
            ∙ drop-all y.progress.commits w.progress.commits
            ∙ ap (λ (x : Played). x.progress.commits) same_play;
        request = sym (ap (λ (s : State). s.request) r.state) ∙ ap (λ (x : Played). x.progress.request) same_play;
        last = sym (ap (λ (s : State). s.last) r.state) ∙ ap (λ (x : Played). x.progress.last) same_play;
        now = sym r.now ∙ ap (λ (x : Played). x.now) same_play;
      }

plays-along : (log : LogParts) (memory : List ℕ) (entry : ℕ) (t : Tail) → IsArranged log → FitsImage log memory entry → IsTailOf log memory entry t
    → (i : ℕ) → IsAlong t (plays log (log_opened log memory entry) (t.base + i)) (played t i)
plays-along log memory entry t arranged fits is i =
    let start = log_opened log memory entry in
    let y : Played = plays log start t.base in
    let here = is.base in
    let bounded = (after-bounded log memory entry t.base).commits in
    let within : t.base ≤ log.count = omega (arith, here, bounded) in
    let dmas : filter (λ d. nat_le t.base d.position) log.dmas ≡ drop y.used.dmas log.dmas =
    subst (λ (n : ℕ). filter (λ d. nat_le n d.position) log.dmas ≡ drop y.used.dmas log.dmas) here (by-position log memory entry t.base arranged fits within) in
    along log y t arranged (fitting-after log memory entry arranged fits) within
    (plays-reached log arranged.rising memory entry t.base) dmas is
    (plays log start (t.base + i)) i (plays-first log start t.base) (plays_resume log memory entry t.base i here)

-- ---- all of it

-- how a play ends that is complete from a base on
record EndsFrom (base n : ℕ) (now : TurnOrEnd) : Type 0 where
  count : ℕ
  is : now ≡ Ended (End.Complete count)
  sum : base + count ≡ n

ends-from : (base n : ℕ) (now : TurnOrEnd) → turn_from base now ≡ Ended (End.Complete n) → EndsFrom base n now
ends-from base n (Turn k) e = cc
ends-from base n TurnOfDma e = cc
ends-from base n (Ended (End.Complete i)) e = record { count = i; is = refl; sum = cc }
ends-from base n (Ended (End.At i)) e = cc
ends-from base n (Ended (End.Diverged i why)) e = cc

looked-at : (log : LogParts) (i : ℕ) → is_looked_at log log.count i ≡ true
looked-at log i = or_right (nat_lt i log.count) (nat_le log.count log.count) (le-leb log.count log.count (omega arith))

-- what the walk of a tail leaves if its log is a part of a log that fits its image
pub plays-whole : (log : LogParts) (memory : List ℕ) (entry : ℕ) (t : Tail) → IsArranged log → FitsImage log memory entry → IsTailOf log memory entry t
    → let y = log_play log memory entry in
    walked t
    ≡ record {
      commits = drop t.base y.progress.commits;
      threads = y.threads;
      memory = y.memory;
      request = y.progress.request;
      end = WalkEnd.Ended (End.Complete log.count);
    }
plays-whole log memory entry t arranged fits is =
    let y : Played = log_play log memory entry in
    let v : Played = played t t.log.count in
    let within = (after-bounded log memory entry t.base).commits in
    let base = is.base in
    let count : t.log.count ≡ log.count - t.base = ap (λ (l : LogParts). l.count) is.rest in
    let all : t.base + t.log.count ≡ log.count = omega (arith, within, base, count) in
    let a : IsAlong t y v =
    subst (λ (n : ℕ). IsAlong t (plays log (log_opened log memory entry) n) v) all
    (plays-along log memory entry t arranged fits is t.log.count) in
    let e : EndsFrom t.base log.count v.now = ends-from t.base log.count v.now (sym a.now ∙ fits) in
    let i = position v.progress in
    let end : walk_end_from t.base (walk_end (log_since t) t.log.count i v.now) ≡ WalkEnd.Ended (End.Complete log.count) =
    ap (λ (now : TurnOrEnd). walk_end_from t.base (walk_end (log_since t) t.log.count i now)) e.is
    ∙ ap (λ (b : Bool). walk_end_from t.base (if b then WalkEnd.Ended (End.Complete e.count) else WalkEnd.Reached i)) (looked-at (log_since t) i)
    ∙ ap (λ (n : ℕ). WalkEnd.Ended (End.Complete n)) e.sum in
    λ j. record { commits = sym a.commits j; threads = sym a.threads j; memory = sym a.memory j; request = sym a.request j; end = end j }

-- a tail of a log that fits plays on as the log's own play does from the base
pub tails-play-on : TailsPlayOn
tails-play-on log memory entry t is_log fits is =
    let arranged = arranged-of log is_log in
    record { each = plays-along log memory entry t arranged fits is; whole = plays-whole log memory entry t arranged fits is }
