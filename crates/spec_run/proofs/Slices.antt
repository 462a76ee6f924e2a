-- The account of a replayed interval is the slice of its log's play.
use Rattle.std.proofs.Common.{None, ◌≡◌, ℕ, ◌+◌, ◌-◌, ◌<◌, ◌≤◌, inl, inr, false, cond, List, [], ◌++◌, length, Some, refl, sym, ap, ◌∙◌, subst, arith}
use Rattle.std.specs.Prelude.{◌&&◌, ◌||◌, drop, nat_le, nat_lt, codes}
use Rattle.std.proofs.lemmas.Bool.{true≢false, cases_lt, lt-ltb, le-ltb, le-leb, lt-leb}
use Rattle.std.proofs.lemmas.List.{drop_all}
use Rattle.dl_account.specs.Account.{end_fields, final_lines}
use Rattle.dl_account.specs.Commits.{commit_lines}
use Rattle.dl_account.specs.Lines.{line, numbered}
use Rattle.dl_entry.specs.declared.End.{End}
use Rattle.spec_log.specs.declared.LogParts.{LogParts}
use Rattle.spec_play.specs.declared.interval.Interval.{Interval}
use Rattle.spec_play.specs.declared.walk_end.WalkEnd.{WalkEnd}
use Rattle.spec_play.specs.Progress.{position}
use Rattle.spec_play.specs.Turns.{TurnOrEnd, Turn, TurnOfDma, Ended}
use Rattle.spec_play.specs.Plays.{Played, opened, plays}
use Rattle.spec_play.specs.Walks.{walk_end}
use Rattle.spec_play.specs.States.{state_of, resumed}
use Rattle.spec_play.specs.Resuming.{IsResumed}
use Rattle.spec_play.specs.Intervals.{IsWithin, begun, at_end_of_log, now_in}
use Rattle.spec_play.proofs.Going.{GoesOn, EndsOr, plays-stay, plays-first, plays-most, plays-go, over-at}
use Rattle.spec_play.proofs.Resuming.{plays_resume}
use Rattle.spec_interval.specs.Slices.{slice_end}
use Rattle.spec_interval.proofs.Slicing.{drop_over}
use Rattle.spec_sphere.specs.sphere.Spheres.{is_over}
use Rattle.spec_replay.proofs.Intervals.{begun_is}
use Rattle.spec_run.specs.Runs.{played, end_of}
use Rattle.spec_run.specs.Promise.{IntervalsAreSlices}

-- ---- ends

-- with all its commits done, an interval has ended there if the log has more
stops_at : (i : Interval) (count n : ℕ) (now : TurnOrEnd) → i.last ≤ n → n < count → now_in (Some i) count n now ≡ Ended (End.At n)
stops_at i count n now past more =
    let full = le-leb i.last n past in
    let below = lt-ltb n count more in
    (λ k. cond (full k && below k) (Ended (End.At n)) (at_end_of_log now))

-- before that it ends as its log does
ends_before : (i : Interval) (count n : ℕ) (now : TurnOrEnd) → n < i.last → now_in (Some i) count n now ≡ at_end_of_log now
ends_before i count n now short =
    let full = lt-leb i.last n short in
    (λ k. cond (full k && nat_lt n count) (Ended (End.At n)) (at_end_of_log now))

-- so it does once the log has no more
ends_with : (i : Interval) (count n : ℕ) (now : TurnOrEnd) → i.last ≤ n → count ≤ n → now_in (Some i) count n now ≡ at_end_of_log now
ends_with i count n now past over =
    let full = le-leb i.last n past in
    let below = le-ltb n count over in
    (λ k. cond (full k && below k) (Ended (End.At n)) (at_end_of_log now))

-- a walk of up to so many commits looks at the end before them
looks_before : (log : LogParts) (to n : ℕ) (how : End) → n < to → walk_end log to n (Ended how) ≡ WalkEnd.Ended how
looks_before log to n how short =
    let below = lt-ltb n to short in
    (λ k. cond (below k || nat_le log.count to) (WalkEnd.Ended how) (WalkEnd.Reached n))

-- with them done it looks at it if the log has no more, and else it doesn't
looks_with : (log : LogParts) (to n : ℕ) (how : End) → to ≤ n → log.count ≤ to → walk_end log to n (Ended how) ≡ WalkEnd.Ended how
looks_with log to n how past over =
    let below = le-ltb n to past in
    let all = le-leb log.count to over in
    (λ k. cond (below k || all k) (WalkEnd.Ended how) (WalkEnd.Reached n))

looks_away : (log : LogParts) (to n : ℕ) (how : End) → to ≤ n → to < log.count → walk_end log to n (Ended how) ≡ WalkEnd.Reached n
looks_away log to n how past more =
    let below = le-ltb n to past in
    let all = lt-leb log.count to more in
    (λ k. cond (below k || all k) (WalkEnd.Ended how) (WalkEnd.Reached n))

same_end : (how : End) → end_of (at_end_of_log (Ended how)) ≡ slice_end (WalkEnd.Ended how)
same_end (End.Complete n) = refl
same_end (End.At n) = refl
same_end (End.Diverged n why) = refl

-- a slice ends as the interval does, after no more commits than up to its last, and if it goes on with them done
ends_alike : (log : LogParts) (i : Interval) (n : ℕ) (now : TurnOrEnd) → n ≤ i.last → (is_over now ≡ false → (i.last ≤ n) × (n < log.count)) → end_of (now_in (Some i) log.count n now) ≡ slice_end (walk_end log i.last n now)
ends_alike log i n (Turn k) within going = let g = going refl in ap end_of (stops_at i log.count n (Turn k) g.0 g.1)
ends_alike log i n TurnOfDma within going = let g = going refl in ap end_of (stops_at i log.count n TurnOfDma g.0 g.1)
ends_alike log i n (Ended how) within going =
    elim (cases_lt n i.last) [
      | inl short ↦ ap end_of (ends_before i log.count n (Ended how) short) ∙ same_end how ∙ ap slice_end (sym (looks_before log i.last n how short))
      | inr past ↦
          elim (cases_lt n log.count) [
            | inl more ↦ ap end_of (stops_at i log.count n (Ended how) past more) ∙ ap slice_end (sym (looks_away log i.last n how past (omega (arith, within, past, more))))
            | inr over ↦ ap end_of (ends_with i log.count n (Ended how) past over) ∙ same_end how ∙ ap slice_end (sym (looks_with log i.last n how past (omega (arith, within, over))))
          ]
    ]

-- ---- where the play of an interval is

-- the play of an interval, at y, is at the state of the log's, at z, and has its commits from that number on
record IsPart (first : ℕ) (y z : Played) : Type 0 where
  lines : numbered commit_lines y.progress.first y.progress.commits ≡ numbered commit_lines first (drop first z.progress.commits)
  state : state_of y ≡ state_of z
  now : y.now ≡ z.now

-- it goes on from the commits before it
part_going : (log : LogParts) (memory : List ℕ) (entry : ℕ) (i : Interval) → IsWithin log.count i → GoesOn log (plays log (opened log memory entry) i.first) i.first
    → IsPart i.first (plays log (begun log memory entry (Some i)) (i.last - i.first)) (plays log (opened log memory entry) i.last)
part_going log memory entry i within g =
    let start : Played = opened log memory entry in
    let n : ℕ = i.last - i.first in
    let x : Played = plays log start i.first in
    let w : Played = plays log (resumed log (state_of x)) n in
    let order = within.order in
    let to : i.first + n ≡ i.last = omega (arith, order) in
    let r : IsResumed x (plays log start i.last) w = subst (λ (m : ℕ). IsResumed x (plays log start m) w) to (plays_resume log memory entry i.first n g.done) in
    let zero_ : x.progress.first ≡ 0 = plays-first log start i.first in
    let done = g.done in
    let size : length x.progress.commits ≡ i.first = omega (arith, zero_, done) in
    let from : w.progress.first ≡ i.first = plays-first log (resumed log (state_of x)) n ∙ g.done in
    let none : i.first - length x.progress.commits ≡ 0 = omega (arith, size) in
    let rest : w.progress.commits ≡ drop i.first (plays log start i.last).progress.commits =
    sym (ap (drop i.first) r.commits ∙ drop_over x.progress.commits w.progress.commits i.first (omega (arith, size)) ∙ ap (λ (m : ℕ). drop m w.progress.commits) none)
    in
    let part : IsPart i.first w (plays log start i.last) = record { lines = (λ k. numbered commit_lines (from k) (rest k)); state = r.state; now = r.now } in
    subst (λ (y : Played). IsPart i.first (plays log y n) (plays log start i.last)) (sym (begun_is log memory entry (Some i) g)) part

-- the play had ended before it
part_ended : (log : LogParts) (memory : List ℕ) (entry : ℕ) (i : Interval) (how : End) → IsWithin log.count i → (plays log (opened log memory entry) i.first).now ≡ Ended how
    → IsPart i.first (plays log (begun log memory entry (Some i)) (i.last - i.first)) (plays log (opened log memory entry) i.last)
part_ended log memory entry i how within over =
    let start : Played = opened log memory entry in
    let n : ℕ = i.last - i.first in
    let x : Played = plays log start i.first in
    let y : Played = begun log memory entry (Some i) in
    let order = within.order in
    let to : n + i.first ≡ i.last = omega (arith, order) in
    let here : n + 0 ≡ n = omega arith in
    let stays : plays log y n ≡ y = ap (plays log y) (sym here) ∙ plays-stay log y 0 n how over in
    let last : plays log start i.last ≡ x = ap (plays log start) (sym to) ∙ plays-stay log start i.first n how over in
    let most = plays-most log memory entry i.first in
    let few : length x.progress.commits ≤ i.first = omega (arith, most) in
    let none : drop i.first x.progress.commits ≡ [] = drop_all i.first x.progress.commits few in
    let at_ : position y.progress ≡ position x.progress = omega arith in
    let part : IsPart i.first y x = record {
      lines = ap (numbered commit_lines i.first) (sym none);
      state = ap (λ (c : ℕ). record (state_of x) { commits = c }) at_;
      now = refl;
    }
    in
    subst (λ (a : Played). IsPart i.first a (plays log start i.last)) (sym stays)
    (subst (IsPart i.first y) (sym last) part)

part_is : (log : LogParts) (memory : List ℕ) (entry : ℕ) (i : Interval) → IsWithin log.count i → EndsOr log (plays log (opened log memory entry) i.first) i.first
    → IsPart i.first (plays log (begun log memory entry (Some i)) (i.last - i.first)) (plays log (opened log memory entry) i.last)
part_is log memory entry i within (inl e) = part_ended log memory entry i e.0 within e.1
part_is log memory entry i within (inr g) = part_going log memory entry i within g

-- ---- the end of the slice

goes_by : (log : LogParts) (z : Played) (to : ℕ) → EndsOr log z to → is_over z.now ≡ false → (to ≤ position z.progress) × (position z.progress < log.count)
goes_by log z to (inl e) going = absurd (true≢false (sym (ap is_over e.1) ∙ going))
goes_by log z to (inr g) going =
    elim (cases_lt (position z.progress) log.count) [
      | inl more ↦ (let done = g.done in omega (arith, done), more)
      | inr over ↦ (let o = over-at log z.progress z.used z.threads over in absurd (true≢false (sym (ap is_over o.1) ∙ ap is_over g.now ∙ going)))
    ]

-- ---- the promise

-- the account of a replayed interval is the slice of its log's play
pub intervals_sliced : IntervalsAreSlices
intervals_sliced image log i within =
    let y : Played = played (record { log = log; interval = Some i; strata = None }) image in
    let z : Played = plays log (opened log image.memory image.entry) i.last in
    let part : IsPart i.first y z = part_is log image.memory image.entry i within (plays-go log image.memory image.entry i.first) in
    let lines = part.lines in
    let state = part.state in
    let now = part.now in
    let ends : end_of (now_in (Some i) log.count (position y.progress) y.now) ≡ slice_end (walk_end log i.last (position z.progress) z.now) =
    (λ k. end_of (now_in (Some i) log.count (state k).commits (now k)))
    ∙ ends_alike log i (position z.progress) z.now (plays-most log image.memory image.entry i.last)
    (goes_by log z i.last (plays-go log image.memory image.entry i.last))
    in
    (λ k. lines k ++ final_lines (state k).threads (state k).request (state k).memory (ends k) ++ line (codes "end") (end_fields (ends k)))
