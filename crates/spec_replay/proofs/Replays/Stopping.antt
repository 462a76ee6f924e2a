-- A replay that has stopped has done the whole play of what it was asked for.
use Rattle.std.proofs.Common.{◌≡◌, ℕ, suc, ◌+◌, ◌-◌, ◌<◌, ◌≤◌, inl, inr, Bool, true, false, List, None, refl, sym, ap, ◌∙◌, subst, arith}
use Rattle.std.specs.Prelude.{◌⊎◌}
use Rattle.std.proofs.lemmas.Bool.{true≢false}
use Rattle.dl_entry.specs.declared.End.{End}
use Rattle.spec_play.specs.Progress.{position}
use Rattle.spec_play.specs.Turns.{TurnOrEnd, Ended}
use Rattle.spec_play.specs.Plays.{Played, plays}
use Rattle.spec_play.proofs.Going.{plays-stay}
use Rattle.spec_sphere.specs.sphere.Spheres.{Cursor, Replay, Sphere, is_over}
use Rattle.spec_sphere.specs.sphere.Setups.{ReplaySetup, SphereSetup, last_played, first_played}
use Rattle.spec_protocol.specs.machine.Machine.{Setup}
use Rattle.spec_protocol.specs.declared.event.Event.{Event}
use Rattle.spec_replay.specs.Following.{IsWhole, StandsAt, EndsWithin, Follows}
use Rattle.spec_replay.specs.Promises.{IsReplay, IsPlayed, ends_between}
use Rattle.spec_replay.proofs.Intervals.{commits_of, now_as, end-in, diverged-in, ended_in, IsStart, is-start, room-left, last-there}
use Rattle.spec_replay.proofs.Commits.Done.{done_in, Reaches}
use Rattle.spec_replay.proofs.Replays.Ending.{ends-between}
use Rattle.spec_replay.proofs.Replays.All.{replays_reach}

-- ---- a replay that is in the play, by its cursor

-- the sphere is where the play is, or ends within its next commit
pub record IsAt (asked : ReplaySetup) (y : Played) (p : Sphere) (b : Cursor) : Type 0 where
  pub progress : p.progress ≡ y.progress
  pub now : (b.now ≡ now_as asked y) ⊎ EndsWithin asked.log y b
  pub ended : (how : End) → now_as asked y ≡ Ended how → b.now ≡ Ended how
  pub state : StandsAt asked.log y (now_as asked y) p b

-- a replayed sphere that follows its log's play is at the play's place
is_at : (asked : ReplaySetup) (y : Played) (p : Sphere) (b : Cursor) → p.role ≡ Replay b → Follows asked y p → IsAt asked y p b
is_at asked y p b role f =
    let e : f.cursor ≡ b = (let h : Replay f.cursor ≡ Replay b = sym f.role ∙ role in cc) in
    subst (IsAt asked y p) e (record { progress = f.progress; now = f.now; ended = f.ended; state = f.state })

-- the sphere is at its log's play after its own number of commits, of which it has done no more than are asked for
pub record Reached (asked : ReplaySetup) (start : Played) (p : Sphere) (b : Cursor) : Type 0 where
  pub from : IsStart asked start
  pub here : IsAt asked (plays asked.log start (done_in p)) p b
  pub within : done_in p ≤ commits_of asked

-- a replay that reaches its log's play is at the play after its own number of commits
pub reached : (asked : ReplaySetup) (start : Played) (p : Sphere) (b : Cursor) → IsStart asked start → p.role ≡ Replay b → Reaches asked start p → Reached asked start p b
reached asked start p b from role r =
    record { from = from; here = is_at asked (plays asked.log start (done_in p)) p b role r.follows; within = r.within }

-- ---- the last state of a play, told by a replay that has stopped

-- the play of all that is asked for
abbrev pub last_of : ReplaySetup → Played → Played
last_of asked start = plays asked.log start (commits_of asked)

-- the replay has the play's commits, and its end
pub record IsLast (asked : ReplaySetup) (last : Played) (p : Sphere) (b : Cursor) : Type 0 where
  pub progress : p.progress ≡ last.progress
  pub now : b.now ≡ now_as asked last

module _ (asked : ReplaySetup) (start : Played) (p : Sphere) (b : Cursor) (r : Reached asked start p b) where
  -- the play has ended where the sphere is
  last_here : is_over (now_as asked (plays asked.log start (done_in p))) ≡ true → IsLast asked (last_of asked start) p b
  last_here over =
      let y : Played = plays asked.log start (done_in p) in
      let e = ended_in (now_as asked y) over in
      let same : last_of asked start ≡ y = last-there asked start r.from (done_in p) over r.within in
      record {
        progress = r.here.progress ∙ ap (λ (z : Played). z.progress) (sym same);
        now = r.here.ended e.0 e.1 ∙ sym e.1 ∙ ap (now_as asked) (sym same);
      }

  -- the sphere has ended within the play's next commit
  last_within : EndsWithin asked.log (plays asked.log start (done_in p)) b → is_over (now_as asked (plays asked.log start (done_in p))) ≡ false → IsLast asked (last_of asked start) p b
  last_within w going =
      let n : ℕ = done_in p in
      let y : Played = plays asked.log start n in
      let how : End = End.Diverged (position y.progress) w.why in
      let z : Played = record y { now = Ended how } in
      let room : n < commits_of asked = room-left asked start r.from n going in
      let more : commits_of asked ≡ (commits_of asked - suc n) + suc n = omega (arith, room) in
      let one : plays asked.log start (suc n) ≡ z = w.diverges in
      let same : last_of asked start ≡ z =
      ap (plays asked.log start) more ∙ plays-stay asked.log start (suc n) (commits_of asked - suc n) how (ap (λ (x : Played). x.now) one) ∙ one
      in
      record {
        progress = r.here.progress ∙ ap (λ (x : Played). x.progress) (sym same);
        now = w.over ∙ diverged-in asked.interval asked.log.count (position y.progress) (position y.progress) w.why y.now going ∙ ap (now_as asked) (sym same);
      }

  -- by whether the play has ended there
  last_by : (over : Bool) → is_over (now_as asked (plays asked.log start (done_in p))) ≡ over → (b.now ≡ now_as asked (plays asked.log start (done_in p))) ⊎ EndsWithin asked.log (plays asked.log start (done_in p)) b → is_over b.now ≡ true → IsLast asked (last_of asked start) p b
  last_by true over o stopped = last_here over
  last_by false going (inl e) stopped = absurd (true≢false (sym stopped ∙ ap is_over e ∙ going))
  last_by false going (inr w) stopped = last_within w going

  -- a replay that has stopped is at the last state of its play
  pub is_last : is_over b.now ≡ true → IsLast asked (last_of asked start) p b
  is_last stopped = last_by (is_over (now_as asked (plays asked.log start (done_in p)))) refl r.here.now stopped

-- ---- memory and threads

same_end : (a b : End) → Ended a ≡ Ended b → a ≡ b
same_end a b e = cc

-- a replay that has ended between two commits is where the play has ended
pub end_between : (asked : ReplaySetup) (y : Played) (b : Cursor) (how : End) (o : (b.now ≡ now_as asked y) ⊎ EndsWithin asked.log y b) → ((h : End) → now_as asked y ≡ Ended h → b.now ≡ Ended h) → b.now ≡ Ended how → ends_between how ≡ true → now_as asked y ≡ Ended how
end_between asked y b how (inl e) ended is between = sym e ∙ is
end_between asked y b how (inr w) ended is between =
    let h : End.Diverged (position y.progress) w.why ≡ how = same_end _ how (sym w.over ∙ is) in
    let over = ends-between asked.log y w.why w.diverges (ap ends_between h ∙ between) in
    let o = end-in asked.interval asked.log.count (position y.progress) y.now (End.Diverged (position y.progress) w.why) over in
    o.1 ∙ sym (ended o.0 o.1) ∙ is

-- if the play is over, the replay has done whole commits
pub whole_now : (asked : ReplaySetup) (y : Played) (p : Sphere) (b : Cursor) (how : End) → now_as asked y ≡ Ended how → StandsAt asked.log y (now_as asked y) p b → IsWhole y p b
whole_now asked y p b how e s = subst (λ (now : TurnOrEnd). StandsAt asked.log y now p b) e s

-- where the play is then, and that no piece is done
record IsWholeAt (y last : Played) (p : Sphere) (b : Cursor) : Type 0 where
  same : last ≡ y
  whole : IsWhole y p b

whole_at : (asked : ReplaySetup) (start : Played) (p : Sphere) (b : Cursor) (how : End) → Reached asked start p b → b.now ≡ Ended how → ends_between how ≡ true → IsWholeAt (plays asked.log start (done_in p)) (last_of asked start) p b
whole_at asked start p b how r is between =
    let y : Played = plays asked.log start (done_in p) in
    let over : now_as asked y ≡ Ended how = end_between asked y b how r.here.now r.here.ended is between in
    record {
      same = last-there asked start r.from (done_in p) (ap is_over over) r.within;
      whole = whole_now asked y p b how over r.here.state;
    }

-- ---- the promise

-- a replay that has stopped, and isn't in strata, has done the whole play
pub stopped_in_order : (image : SphereSetup) (asked : ReplaySetup) (s : Setup) (es : List Event) (i : ℕ) (p : Sphere) (b : Cursor) → IsReplay image asked s es i p → asked.strata ≡ None → p.role ≡ Replay b → is_over b.now ≡ true → IsPlayed asked (last_played image asked) p b
stopped_in_order image asked s es i p b x none role stopped =
    let start : Played = first_played image asked in
    let r : Reached asked start p b = reached asked start p b (is-start image asked) role (replays_reach image asked s es i p x none) in
    let l : IsLast asked (last_played image asked) p b = is_last asked start p b r stopped in
    record {
      progress = l.progress;
      now = l.now;
      memory = λ how is between. let w = whole_at asked start p b how r is between in w.whole.memory ∙ ap (λ (z : Played). z.memory) (sym w.same);
      threads = λ how is between. let w = whole_at asked start p b how r is between in w.whole.threads ∙ ap (λ (z : Played). z.threads) (sym w.same);
    }
