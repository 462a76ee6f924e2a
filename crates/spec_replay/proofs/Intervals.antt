-- The play of what is replayed: whose turn it is in an interval, and when that has ended.
use Rattle.std.proofs.Common.{◌≡◌, ℕ, ◌+◌, ◌-◌, ◌<◌, ◌≤◌, ◌⊎◌, inl, inr, Bool, true, false, cond, List, Option, Some, None, refl, sym, ap, ◌∙◌, subst, arith}
use Rattle.std.specs.Prelude.{◌&&◌, nat_le, nat_lt}
use Rattle.std.proofs.lemmas.Bool.{true≢false, cases_lt, lt-ltb, le-leb, lt-leb}
use Rattle.dl_entry.specs.declared.End.{End}
use Rattle.dl_entry.specs.declared.Why.{Why}
use Rattle.spec_log.specs.declared.LogParts.{LogParts}
use Rattle.spec_play.specs.declared.interval.Interval.{Interval}
use Rattle.spec_play.specs.Progress.{position}
use Rattle.spec_play.specs.Turns.{TurnOrEnd, Turn, TurnOfDma, Ended}
use Rattle.spec_play.specs.Plays.{Played, opened, plays}
use Rattle.spec_play.specs.States.{State, state_of, resumed}
use Rattle.spec_play.specs.Resuming.{IsResumed}
use Rattle.spec_play.specs.Intervals.{before, commits_in, begun, at_end_of_log, now_in, now_of}
use Rattle.spec_play.proofs.Going.{plays-stay, GoesOn, EndsOr, Lives, turn-lives, plays-go, over-at}
use Rattle.spec_play.proofs.Resuming.{plays_resume}
use Rattle.spec_sphere.specs.sphere.Spheres.{is_over}
use Rattle.spec_sphere.specs.sphere.Setups.{ReplaySetup, SphereSetup, first_played}
use Rattle.spec_sphere.proofs.Replays.Turns.{interval-now}

-- ---- its turns are the log's

-- something has ended, in some way
pub ended_in : (now : TurnOrEnd) → is_over now ≡ true → (how : End) × (now ≡ Ended how)
ended_in (Turn k) e = absurd (true≢false (sym e))
ended_in TurnOfDma e = absurd (true≢false (sym e))
ended_in (Ended how) e = (how, refl)

-- if there is a turn in an interval, it is the log's
pub turn-in : (i : Option Interval) (count n : ℕ) (now m : TurnOrEnd) → is_over m ≡ false → now_in i count n now ≡ m → now ≡ m
turn-in i count n now m going e =
    elim (interval-now i count n now) [
      | inl over ↦ absurd (true≢false (sym over ∙ ap is_over e ∙ going))
      | inr same ↦ sym same ∙ e
    ]

-- once the log has ended, the interval has
pub end-in : (i : Option Interval) (count n : ℕ) (now : TurnOrEnd) (how : End) → now ≡ Ended how → (h : End) × (now_in i count n now ≡ Ended h)
end-in i count n now how e =
    elim (interval-now i count n now) [
      | inl over ↦ ended_in (now_in i count n now) over
      | inr same ↦ (how, same ∙ e)
    ]

diverged_by : (full : Bool) (n c : ℕ) (why : Why) (now : TurnOrEnd) → is_over (cond full (Ended (End.At n)) (at_end_of_log now)) ≡ false → Ended (End.Diverged c why) ≡ cond full (Ended (End.At n)) (Ended (End.Diverged c why))
diverged_by true n c why now going = absurd (true≢false going)
diverged_by false n c why now going = refl

-- if it goes on and then the log's play diverges, it ends as that does
pub diverged-in : (i : Option Interval) (count n c : ℕ) (why : Why) (now : TurnOrEnd) → is_over (now_in i count n now) ≡ false → Ended (End.Diverged c why) ≡ now_in i count n (Ended (End.Diverged c why))
diverged-in None count n c why now going = refl
diverged-in (Some i) count n c why now going = diverged_by (nat_le i.last n && nat_lt n count) n c why now going

-- ---- where it ends

-- how many commits of the log are done then
abbrev last_in : (count : ℕ) → Option Interval → ℕ
last_in count None = count
last_in count (Some i) = i.last

commits_are : (count : ℕ) (i : Option Interval) → commits_in count i ≡ last_in count i - before i
commits_are count None = omega arith
commits_are count (Some i) = refl

over_same : (now : TurnOrEnd) → is_over (at_end_of_log now) ≡ is_over now
over_same (Turn k) = refl
over_same TurnOfDma = refl
over_same (Ended (End.Complete n)) = refl
over_same (Ended (End.At n)) = refl
over_same (Ended (End.Diverged n why)) = refl

over_at : (below full : Bool) (n : ℕ) (now : TurnOrEnd) → full ≡ true → below ≡ true → is_over (cond (full && below) (Ended (End.At n)) (at_end_of_log now)) ≡ true
over_at true true n now f b = refl
over_at below false n now f b = absurd (true≢false (sym f))
over_at false full n now f b = absurd (true≢false (sym b))

going_at : (below full : Bool) (n : ℕ) (now : TurnOrEnd) → full ≡ false → is_over (cond (full && below) (Ended (End.At n)) (at_end_of_log now)) ≡ is_over now
going_at below true n now f = absurd (true≢false f)
going_at below false n now f = over_same now

-- while it goes on, fewer commits are done than at its end
short_in : (i : Option Interval) (count n : ℕ) (now : TurnOrEnd) → n < count → is_over (now_in i count n now) ≡ false → n < last_in count i
short_in None count n now below going = below
short_in (Some i) count n now below going =
    elim (cases_lt n i.last) [
      | inl l ↦ l
      | inr past ↦ absurd (true≢false (sym (over_at (nat_lt n count) (nat_le i.last n) n now (le-leb i.last n past) (lt-ltb n count below)) ∙ going))
    ]

-- if it has ended and the log hasn't, as many are done as at its end
full_in : (i : Option Interval) (count n : ℕ) (now : TurnOrEnd) → is_over now ≡ false → is_over (now_in i count n now) ≡ true → last_in count i ≤ n
full_in None count n now going over = absurd (true≢false (sym over ∙ going))
full_in (Some i) count n now going over =
    elim (cases_lt n i.last) [
      | inl l ↦ absurd (true≢false (sym over ∙ going_at (nat_lt n count) (nat_le i.last n) n now (lt-leb i.last n l) ∙ going))
      | inr past ↦ past
    ]

-- ---- its play

-- the play goes on after n of the commits
pub record GoesAt (log : LogParts) (i : Option Interval) (y : Played) (n : ℕ) : Type 0 where
  pub done : position y.progress ≡ before i + n
  pub below : position y.progress < log.count
  pub going : is_over y.now ≡ false

-- it has ended, or goes on after n of the commits
abbrev pub IsAfter : LogParts → Option Interval → Played → ℕ → Type 0
IsAfter log i y n = ((how : End) × (y.now ≡ Ended how)) ⊎ GoesAt log i y n

after_by : (log : LogParts) (i : Option Interval) (y : Played) (n : ℕ) (now : TurnOrEnd) → y.now ≡ now → position y.progress ≡ before i + n → position y.progress < log.count → IsAfter log i y n
after_by log i y n (Turn k) is done below = inr (record { done = done; below = below; going = ap is_over is })
after_by log i y n TurnOfDma is done below = inr (record { done = done; below = below; going = ap is_over is })
after_by log i y n (Ended how) is done below = inl (how, is)

after_goes : (log : LogParts) (i : Option Interval) (y : Played) (n : ℕ) → EndsOr log y (before i + n) → IsAfter log i y n
after_goes log i y n (inl e) = inl e
after_goes log i y n (inr g) =
    elim (cases_lt (position y.progress) log.count) [
      | inl below ↦ after_by log i y n y.now refl g.done below
      | inr past ↦ (let o = over-at log y.progress y.used y.threads past in inl (o.0, sym g.now ∙ o.1))
    ]

-- the same of a play in the same state
after_same : (log : LogParts) (i : Option Interval) (w z : Played) (n : ℕ) → position w.progress ≡ position z.progress → w.now ≡ z.now → IsAfter log i z n → IsAfter log i w n
after_same log i w z n at_ now (inl e) = inl (e.0, now ∙ e.1)
after_same log i w z n at_ now (inr g) =
    let done = g.done in
    let below = g.below in
    inr (record { done = omega (arith, at_, done); below = omega (arith, at_, below); going = ap is_over now ∙ g.going })

-- with the commits before it done, what is replayed begins as the play from their state
pub begun_is : (log : LogParts) (memory : List ℕ) (entry : ℕ) (i : Option Interval) → GoesOn log (plays log (opened log memory entry) (before i)) (before i) → begun log memory entry i ≡ resumed log (state_of (plays log (opened log memory entry) (before i)))
begun_is log memory entry i g =
    let y : Played = plays log (opened log memory entry) (before i) in
    let w : Played = resumed log (state_of y) in
    let r = plays_resume log memory entry (before i) 0 g.done in
    let at_ : before i + 0 ≡ before i = omega arith in
    let now : w.now ≡ y.now = r.now ∙ ap (λ (n : ℕ). (plays log (opened log memory entry) n).now) at_ in
    ap (λ (n : TurnOrEnd). record w { now = n }) (sym now)

plays_after : (log : LogParts) (memory : List ℕ) (entry : ℕ) (i : Option Interval) (n : ℕ) → EndsOr log (plays log (opened log memory entry) (before i)) (before i) → IsAfter log i (plays log (begun log memory entry i) n) n
plays_after log memory entry i n (inl e) =
    let start : Played = begun log memory entry i in
    let at_ : n + 0 ≡ n = omega arith in
    inl (e.0, ap (λ (m : ℕ). (plays log start m).now) (sym at_) ∙ ap (λ (y : Played). y.now) (plays-stay log start 0 n e.0 e.1) ∙ e.1)
plays_after log memory entry i n (inr g) =
    let y : Played = plays log (opened log memory entry) (before i) in
    let z : Played = plays log (opened log memory entry) (before i + n) in
    let w : Played = plays log (resumed log (state_of y)) n in
    let r : IsResumed y z w = plays_resume log memory entry (before i) n g.done in
    let at_ : position w.progress ≡ position z.progress = ap (λ (s : State). s.commits) r.state in
    let here : IsAfter log i w n = after_same log i w z n at_ r.now (after_goes log i z n (plays-go log memory entry (before i + n))) in
    subst (λ (x : Played). IsAfter log i (plays log x n) n) (sym (begun_is log memory entry i g)) here

-- where it begins, a thread that has the turn is live
begun_lives : (log : LogParts) (y : Played) (k i : ℕ) → EndsOr log y i → y.now ≡ Turn k → Lives y.threads k
begun_lives log y k i (inl e) turn = (let h : Turn k ≡ Ended e.0 = sym turn ∙ e.1 in cc)
begun_lives log y k i (inr g) turn = turn-lives log y.progress y.used y.threads k (g.now ∙ turn)

-- ---- what a sphere is asked to replay

-- how many commits that is
abbrev pub commits_of : ReplaySetup → ℕ
commits_of asked = commits_in asked.log.count asked.interval

-- whose turn it is there, or how it has ended
abbrev pub now_as : ReplaySetup → Played → TurnOrEnd
now_as asked y = now_of asked.interval asked.log y

-- a play begins where a replay does
pub record IsStart (asked : ReplaySetup) (start : Played) : Type 0 where
  pub after : (n : ℕ) → IsAfter asked.log asked.interval (plays asked.log start n) n
  pub lives : (k : ℕ) → start.now ≡ Turn k → Lives start.threads k

-- so does that of what a sphere is asked to replay
pub is-start : (image : SphereSetup) (asked : ReplaySetup) → IsStart asked (first_played image asked)
is-start image asked =
    let first : ℕ = before asked.interval in
    let goes = plays-go asked.log image.memory image.entry first in
    record {
      after = λ n. plays_after asked.log image.memory image.entry asked.interval n goes;
      lives = λ k turn. begun_lives asked.log (plays asked.log (opened asked.log image.memory image.entry) first) k first goes turn;
    }

module _ (asked : ReplaySetup) (start : Played) (s : IsStart asked start) (n : ℕ) where
  room_after : IsAfter asked.log asked.interval (plays asked.log start n) n → is_over (now_as asked (plays asked.log start n)) ≡ false → n < commits_of asked
  room_after (inl e) going =
      let y : Played = plays asked.log start n in
      let o = end-in asked.interval asked.log.count (position y.progress) y.now e.0 e.1 in
      absurd (true≢false (sym (ap is_over o.1) ∙ going))
  room_after (inr g) going =
      let y : Played = plays asked.log start n in
      let short = short_in asked.interval asked.log.count (position y.progress) y.now g.below going in
      let most = commits_are asked.log.count asked.interval in
      let done = g.done in
      omega (arith, short, most, done)

  -- while it goes on, fewer commits are done than are asked for
  pub room-left : is_over (now_as asked (plays asked.log start n)) ≡ false → n < commits_of asked
  room-left = room_after (s.after n)

  last_after : IsAfter asked.log asked.interval (plays asked.log start n) n → is_over (now_as asked (plays asked.log start n)) ≡ true → n ≤ commits_of asked → plays asked.log start (commits_of asked) ≡ plays asked.log start n
  last_after (inl e) over within =
      let more : commits_of asked ≡ (commits_of asked - n) + n = omega (arith, within) in
      ap (plays asked.log start) more ∙ plays-stay asked.log start n (commits_of asked - n) e.0 e.1
  last_after (inr g) over within =
      let y : Played = plays asked.log start n in
      let full = full_in asked.interval asked.log.count (position y.progress) y.now g.going over in
      let most = commits_are asked.log.count asked.interval in
      let done = g.done in
      let same : commits_of asked ≡ n = omega (arith, within, full, most, done) in
      ap (plays asked.log start) same

  -- if it has ended after no more commits than are asked for, it is where it will be with all of them
  pub last-there : is_over (now_as asked (plays asked.log start n)) ≡ true → n ≤ commits_of asked → plays asked.log start (commits_of asked) ≡ plays asked.log start n
  last-there = last_after (s.after n)

over_or_room : (asked : ReplaySetup) (start : Played) (over : Bool) → IsStart asked start → is_over (now_as asked (plays asked.log start (commits_of asked))) ≡ over → is_over (now_as asked (plays asked.log start (commits_of asked))) ≡ true
over_or_room asked start true s e = e
over_or_room asked start false s e = absurd (let l = room-left asked start s (commits_of asked) e in omega (arith, l))

-- with all that are asked for it has ended
pub asked-over : (asked : ReplaySetup) (start : Played) → IsStart asked start → is_over (now_as asked (plays asked.log start (commits_of asked))) ≡ true
asked-over asked start s = over_or_room asked start (is_over (now_as asked (plays asked.log start (commits_of asked)))) s refl
