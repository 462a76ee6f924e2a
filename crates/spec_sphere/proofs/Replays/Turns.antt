-- Whose turn it is in a sound replay: a live thread's, which the log names next. An interval gives no other turn.
use Rattle.std.proofs.Common.{◌≡◌, ℕ, ◌<◌, ◌≤◌, ◌⊎◌, inl, inr, Bool, true, false, List, length, Option, Some, None, refl, sym, ap, ◌∙◌, subst, arith}
use Rattle.std.specs.Prelude.{slice_get, nat_lt, nat_le, ◌&&◌}
use Rattle.std.proofs.lemmas.Bool.{true≢false, ltb-true}
use Rattle.std.proofs.lemmas.Option.{none-some}
use Rattle.dl_entry.specs.declared.Actor.{Actor}
use Rattle.dl_entry.specs.declared.End.{End}
use Rattle.dl_entry.specs.declared.Why.{Why}
use Rattle.spec_isa.specs.declared.thread.Parts.{Parts}
use Rattle.spec_log.specs.declared.LogParts.{LogParts}
use Rattle.spec_log.specs.Log.{IsLog}
use Rattle.spec_kernel.specs.Interrupts.{is_live}
use Rattle.spec_play.specs.Progress.{Progress, position}
use Rattle.spec_play.specs.declared.used.Used.{Used}
use Rattle.spec_play.specs.Turns.{TurnOrEnd, Turn, TurnOfDma, Ended, has_left_over, at_end, turn_of_thread, turn_of, next_actor, now_at}
use Rattle.spec_play.specs.declared.interval.Interval.{Interval}
use Rattle.spec_play.specs.Intervals.{at_end_of_log, now_in}
use Rattle.spec_strata.specs.Standing.{Standing, head_standing}
use Rattle.spec_sphere.specs.sphere.Spheres.{is_over, actor_of, Cursor, Replay, Sphere, replays}
use Rattle.spec_sphere.specs.sphere.Commits.{between, now_by, turned}
use Rattle.spec_sphere.specs.sphere.Moves.{FitsRaise}
use Rattle.spec_sphere.specs.promises.Sound.{IsDoneInOrder, due, IsSoundCursor}
use Rattle.spec_play.proofs.Threads.{branch}
use Rattle.spec_sphere.proofs.Sound.Limits.{whole-positive}
use Rattle.spec_sphere.proofs.Replays.Order.{now-named}

-- ---- a turn

-- where a replay is over it is no thread's turn
pub over-turn : (how : End) (k : ℕ) → Ended how ≡ Turn k → ⊥
over-turn how k e = cc

dma-turn : (k : ℕ) → TurnOfDma ≡ Turn k → ⊥
dma-turn k e = cc

-- a turn is a live thread's
record IsTurn (threads : List Parts) (k : ℕ) : Type 0 where
  thread : Parts
  there : slice_get threads k ≡ Some thread
  live : is_live thread ≡ true

thread-turn : (i j k : ℕ) (threads : List Parts) (o : Option Parts) → slice_get threads j ≡ o → turn_of_thread i j o ≡ Turn k → IsTurn threads k
thread-turn i j k threads None is e = absurd (over-turn (End.Diverged i Why.NoThread) k e)
thread-turn i j k threads (Some t) is e =
    branch (λ (now : TurnOrEnd). now ≡ Turn k → IsTurn threads k) (is_live t) (Turn j) (Ended (End.Diverged i Why.NoThread))
    (λ live h. subst (IsTurn threads) (let q : j ≡ k = cc in q) (record { thread = t; there = is; live = live }))
    (λ _ h. absurd (over-turn (End.Diverged i Why.NoThread) k h)) e

actor-turn : (i k : ℕ) (threads : List Parts) (o : Option Actor) → turn_of i threads o ≡ Turn k → IsTurn threads k
actor-turn i k threads None e = absurd (over-turn (End.Diverged i Why.NoThread) k e)
actor-turn i k threads (Some Actor.Dma) e = absurd (dma-turn k e)
actor-turn i k threads (Some (Actor.Thread j)) e = thread-turn i j k threads (slice_get threads j) refl e

end-over : (i : ℕ) (left : Bool) → is_over (at_end i left) ≡ true
end-over i true = refl
end-over i false = refl

end-turn : (i k : ℕ) (left : Bool) → at_end i left ≡ Turn k → ⊥
end-turn i k true e = over-turn (End.Diverged i Why.LeftOver) k e
end-turn i k false e = over-turn (End.Complete i) k e

now-turn : (log : LogParts) (p : Progress) (u : Used) (threads : List Parts) (k : ℕ) → now_at log p u threads ≡ Turn k → IsTurn threads k
unfolding now_at
now-turn log p u threads k e =
    branch (λ (now : TurnOrEnd). now ≡ Turn k → IsTurn threads k) (nat_lt (position p) log.count) (turn_of (position p) threads (next_actor log p threads)) (at_end (position p) (has_left_over log u threads))
    (λ _ h. actor-turn (position p) k threads (next_actor log p threads) h)
    (λ _ h. absurd (end-turn (position p) k (has_left_over log u threads) h)) e

now-going : (log : LogParts) (p : Progress) (u : Used) (threads : List Parts) → is_over (now_at log p u threads) ≡ false → position p < log.count
unfolding now_at
now-going log p u threads e =
    branch (λ (now : TurnOrEnd). is_over now ≡ false → position p < log.count) (nat_lt (position p) log.count) (turn_of (position p) threads (next_actor log p threads)) (at_end (position p) (has_left_over log u threads))
    (λ l _. ltb-true (position p) log.count l)
    (λ _ h. absurd (true≢false (sym (end-over (position p) (has_left_over log u threads)) ∙ h))) e

-- ---- an interval

-- an interval leaves a turn as it is, or ends the replay
pub interval-now : (i : Option Interval) (count n : ℕ) (now : TurnOrEnd) → (is_over (now_in i count n now) ≡ true) ⊎ (now_in i count n now ≡ now)
interval-now None count n now = inr refl
interval-now (Some i) count n now =
    branch (λ (x : TurnOrEnd). (is_over x ≡ true) ⊎ (x ≡ now)) (nat_le i.last n && nat_lt n count) (Ended (End.At n)) (at_end_of_log now) (λ _. inl refl) (λ _. at-end now)
  where
    at-end : (now : TurnOrEnd) → (is_over (at_end_of_log now) ≡ true) ⊎ (at_end_of_log now ≡ now)
    at-end (Turn k) = inr refl
    at-end TurnOfDma = inr refl
    at-end (Ended (End.Complete n)) = inl refl
    at-end (Ended (End.At n)) = inl refl
    at-end (Ended (End.Diverged n why)) = inl refl

over-named : (now : TurnOrEnd) (actor : Actor) → is_over now ≡ true → actor_of now ≡ Some actor → ⊥
over-named (Turn k) actor over e = true≢false (sym over)
over-named TurnOfDma actor over e = true≢false (sym over)
over-named (Ended how) actor over e = none-some actor e

over-of : (now : TurnOrEnd) (k : ℕ) → is_over now ≡ true → now ≡ Turn k → ⊥
over-of now k over e = true≢false (sym over ∙ ap is_over e)

-- what is sound of the replay of a whole log is so of that of an interval
pub between-sound : (log : LogParts) (i : Option Interval) (o : Option Standing) (n : ℕ) (u : Used) (threads : List Parts) (now : TurnOrEnd) → IsSoundCursor n threads (between log None o n u now) → IsSoundCursor n threads (between log i o n u now)
between-sound log i o n u threads now s =
    let alike = interval-now i log.count n now in
    record {
      log = s.log;
      within = s.within;
      going = λ e. elim alike [ inl over ↦ absurd (true≢false (sym over ∙ e)) | inr same ↦ s.going (ap is_over (sym same) ∙ e) ];
      done = s.done;
      named = λ actor none e. elim alike [
        | inl over ↦ absurd (over-named (now_in i log.count n now) actor over e)
        | inr same ↦ s.named actor none (ap actor_of (sym same) ∙ e)
      ];
      inputs = s.inputs;
      dmas = s.dmas;
      interrupts = s.interrupts;
      loads = s.loads;
      turn = λ k e. elim alike [
        | inl over ↦ absurd (over-of (now_in i log.count n now) k over e)
        | inr same ↦ (let t = s.turn k (sym same ∙ e) in record { thread = t.thread; there = t.there; live = t.live; room = t.room })
      ];
    }

-- and so is a replay that begins in strata
pub strata-sound : (log : LogParts) (i : Option Interval) (o : Option Standing) (n : ℕ) (u : Used) (threads : List Parts) (now : TurnOrEnd) → IsSoundCursor n threads (between log i None n u now) → IsSoundCursor n threads (between log i o n u now)
strata-sound log i o n u threads now s =
    record {
      log = s.log;
      within = s.within;
      going = s.going;
      done = λ none. s.done refl;
      named = λ actor none e. s.named actor refl e;
      inputs = s.inputs;
      dmas = s.dmas;
      interrupts = s.interrupts;
      loads = s.loads;
      turn = λ k e. (let t = s.turn k e in record { thread = t.thread; there = t.there; live = t.live; room = t.room });
    }

-- ---- the next commit

now_by-turn : (o : Option Standing) (log : LogParts) (p : Progress) (u : Used) (threads : List Parts) (k : ℕ) → now_by o log p u threads ≡ Turn k → IsTurn threads k
now_by-turn None log p u threads k e = now-turn log p u threads k e
now_by-turn (Some x) log p u threads k e =
    branch (λ (now : TurnOrEnd). now ≡ Turn k → IsTurn threads k) (nat_lt (position p) log.count) (turn_of (position p) threads (head_standing x)) (at_end (position p) (has_left_over log u threads))
    (λ _ h. actor-turn (position p) k threads (head_standing x) h)
    (λ _ h. absurd (end-turn (position p) k (has_left_over log u threads) h)) e

now_by-going : (o : Option Standing) (log : LogParts) (p : Progress) (u : Used) (threads : List Parts) → is_over (now_by o log p u threads) ≡ false → position p < log.count
now_by-going None log p u threads e = now-going log p u threads e
now_by-going (Some x) log p u threads e =
    branch (λ (now : TurnOrEnd). is_over now ≡ false → position p < log.count) (nat_lt (position p) log.count) (turn_of (position p) threads (head_standing x)) (at_end (position p) (has_left_over log u threads))
    (λ l _. ltb-true (position p) log.count l)
    (λ _ h. absurd (true≢false (sym (end-over (position p) (has_left_over log u threads)) ∙ h))) e

whole-sound : (log : LogParts) (o : Option Standing) (p : Progress) (u : Used) (threads : List Parts) → IsLog log → position p ≤ log.count → (o ≡ None → IsDoneInOrder log.mode log.order (position p) threads) → u.inputs ≤ length log.inputs → u.dmas ≤ length log.dmas → u.interrupts ≡ due threads log.interrupts → IsSoundCursor (position p) threads (turned log None o p u threads)
whole-sound log o p u threads is within done inputs dmas interrupts =
    record {
      log = is;
      within = within;
      going = now_by-going o log p u threads;
      done = done;
      named = λ actor none e.
          now-named log p u threads actor (ap (λ (x : Option Standing). actor_of (now_by x log p u threads)) (sym none) ∙ e);
      inputs = inputs;
      dmas = dmas;
      interrupts = interrupts;
      loads = omega arith;
      turn = λ k e. let t = now_by-turn o log p u threads k e in record { thread = t.thread; there = t.there; live = t.live; room = whole-positive log k t.thread.commits is };
    }

-- a cursor that was turned to its next commit is sound, if it was used soundly
pub turned-sound : (log : LogParts) (i : Option Interval) (o : Option Standing) (p : Progress) (u : Used) (threads : List Parts) → IsLog log → position p ≤ log.count → (o ≡ None → IsDoneInOrder log.mode log.order (position p) threads) → u.inputs ≤ length log.inputs → u.dmas ≤ length log.dmas → u.interrupts ≡ due threads log.interrupts
    → IsSoundCursor (position p) threads (turned log i o p u threads)
turned-sound log i o p u threads is within done inputs dmas interrupts =
    between-sound log i o (position p) u threads (now_by o log p u threads) (whole-sound log o p u threads is within done inputs dmas interrupts)

-- ---- interrupts

-- no interrupt can be raised in a replay
pub no_raise : (p : Sphere) (b : Cursor) (o : Option Parts) → p.role ≡ Replay b → FitsRaise p o → ⊥
no_raise p b None role fits = fits
no_raise p b (Some t) role fits = true≢false (sym (ap replays role) ∙ fits.live)
