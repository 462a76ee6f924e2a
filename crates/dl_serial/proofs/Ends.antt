-- The commits that a play does: one at a time, and none after its end, which says how many they are.
use Rattle.std.proofs.Common.{◌≡◌, ℕ, zero, suc, ◌+◌, ◌≤◌, Bool, true, false, cond, List, [], ◌∷◌, ◌++◌, length, Option, Some, None, refl, sym, ap, ◌∙◌, arith}
use Rattle.std.specs.Prelude.{nat_lt, slice_get}
use Rattle.dl_entry.specs.declared.Actor.{Actor}
use Rattle.dl_entry.specs.declared.End.{End}
use Rattle.dl_entry.specs.declared.Why.{Why}
use Rattle.spec_isa.specs.declared.thread.Parts.{Parts}
use Rattle.spec_kernel.specs.Interrupts.{is_live}
use Rattle.spec_kernel.specs.Needs.{next_kind}
use Rattle.spec_log.specs.declared.LogParts.{LogParts}
use Rattle.spec_play.specs.declared.used.Used.{Used}
use Rattle.spec_play.specs.declared.WalkEnd.{WalkEnd}
use Rattle.spec_play.specs.Effects.{dma_commit}
use Rattle.spec_play.specs.Plays.{Played, settled, thread_verdict, play_thread, dma_settled, play_turn, play_one, plays}
use Rattle.spec_play.specs.Progress.{Progress, position, with_effect, with_dma, with_dma_used}
use Rattle.spec_play.specs.States.{State, resumed, progress_from}
use Rattle.spec_play.specs.Transfers.{DmaVerdict, DmaGoes, DmaFails, dma_verdict}
use Rattle.spec_play.specs.Turns.{TurnOrEnd, Turn, TurnOfDma, Ended, has_left_over, at_end, turn_of_thread, turn_of, next_actor, now_at}
use Rattle.spec_play.specs.Verdicts.{LogVerdict, Goes, Fails}
use Rattle.spec_play.specs.Walks.{walk_end, is_looked_at}
use Rattle.spec_play.proofs.Positions.{position-more}
use Rattle.spec_tail.specs.Playing.{begun_play}
use Rattle.dl_serial.specs.Tails.{commits_at, end_commits}

-- ---- one commit at a time

settled_most : (log : LogParts) (y : Played) (k : ℕ) (v : LogVerdict) → position (settled log y k v).progress ≤ suc (position y.progress)
settled_most log y k (Fails why) = omega arith
settled_most log y k (Goes e u) = let n = position-more y.progress e.commit in omega (arith, n)

thread_most : (log : LogParts) (y : Played) (k : ℕ) (o : Option Parts) → position (play_thread log y k o).progress ≤ suc (position y.progress)
thread_most log y k None = omega arith
thread_most log y k (Some t) = settled_most log y k (thread_verdict log y k t (next_kind t y.memory))

dma_most : (log : LogParts) (y : Played) (v : DmaVerdict) → position (dma_settled log y v).progress ≤ suc (position y.progress)
dma_most log y (DmaFails why) = omega arith
dma_most log y (DmaGoes words) = let n = position-more y.progress dma_commit in omega (arith, n)

now_most : (log : LogParts) (y : Played) (now : TurnOrEnd) → position (play_turn log y now).progress ≤ suc (position y.progress)
now_most log y (Ended how) = omega arith
now_most log y (Turn k) = thread_most log y k (slice_get y.threads k)
now_most log y TurnOfDma = dma_most log y (dma_verdict log y.progress y.used)

one_most : (log : LogParts) (y : Played) → position (play_one log y).progress ≤ suc (position y.progress)
unfolding play_one
one_most log y = now_most log y y.now

-- so many commits more are the most that it does
pub plays-most : (log : LogParts) (y : Played) (i : ℕ) → position (plays log y i).progress ≤ position y.progress + i
plays-most log y zero = omega arith
plays-most log y (suc i) = let l = plays-most log y i in let m = one_most log (plays log y i) in omega (arith, l, m)

-- ---- the end

abbrev EndsAt : (commits : ℕ) → TurnOrEnd → Type 0
EndsAt n (Ended how) = end_commits how ≡ n
EndsAt n (Turn k) = Unit {0}
EndsAt n TurnOfDma = Unit {0}

live_ends : (i k : ℕ) (b : Bool) → EndsAt i (cond b (Turn k) (Ended (End.Diverged i Why.NoThread)))
live_ends i k true = tt
live_ends i k false = refl

thread_ends : (i k : ℕ) (o : Option Parts) → EndsAt i (turn_of_thread i k o)
thread_ends i k None = refl
thread_ends i k (Some t) = live_ends i k (is_live t)

turn_ends : (i : ℕ) (ts : List Parts) (o : Option Actor) → EndsAt i (turn_of i ts o)
turn_ends i ts None = refl
turn_ends i ts (Some Actor.Dma) = tt
turn_ends i ts (Some (Actor.Thread k)) = thread_ends i k (slice_get ts k)

over_ends : (i : ℕ) (b : Bool) → EndsAt i (at_end i b)
over_ends i true = refl
over_ends i false = refl

either_ends : (i : ℕ) (b : Bool) (x y : TurnOrEnd) → EndsAt i x → EndsAt i y → EndsAt i (cond b x y)
either_ends i true x y p q = p
either_ends i false x y p q = q

now_ends : (log : LogParts) (p : Progress) (u : Used) (ts : List Parts) → EndsAt (position p) (now_at log p u ts)
unfolding now_at
now_ends log p u ts =
    let i = position p in
    either_ends i (nat_lt i log.count) (turn_of i ts (next_actor log p ts)) (at_end i (has_left_over log u ts)) (turn_ends i ts (next_actor log p ts)) (over_ends i (has_left_over log u ts))

settled_ends : (log : LogParts) (y : Played) (k : ℕ) (v : LogVerdict) → EndsAt (position (settled log y k v).progress) (settled log y k v).now
settled_ends log y k (Fails why) = refl
settled_ends log y k (Goes e u) = now_ends log (with_effect k e y.progress) u (settled log y k (Goes e u)).threads

thread_play_ends : (log : LogParts) (y : Played) (k : ℕ) (o : Option Parts) → EndsAt (position y.progress) y.now → EndsAt (position (play_thread log y k o).progress) (play_thread log y k o).now
thread_play_ends log y k None ends = ends
thread_play_ends log y k (Some t) ends = settled_ends log y k (thread_verdict log y k t (next_kind t y.memory))

dma_ends : (log : LogParts) (y : Played) (v : DmaVerdict) → EndsAt (position (dma_settled log y v).progress) (dma_settled log y v).now
dma_ends log y (DmaFails why) = refl
dma_ends log y (DmaGoes words) = now_ends log (with_dma y.progress) (with_dma_used y.used) y.threads

play_ends : (log : LogParts) (y : Played) (now : TurnOrEnd) → EndsAt (position y.progress) y.now → EndsAt (position (play_turn log y now).progress) (play_turn log y now).now
play_ends log y (Ended how) ends = ends
play_ends log y (Turn k) ends = thread_play_ends log y k (slice_get y.threads k) ends
play_ends log y TurnOfDma ends = dma_ends log y (dma_verdict log y.progress y.used)

one_ends : (log : LogParts) (y : Played) → EndsAt (position y.progress) y.now → EndsAt (position (play_one log y).progress) (play_one log y).now
unfolding play_one
one_ends log y ends = play_ends log y y.now ends

plays_end : (log : LogParts) (y : Played) (i : ℕ) → EndsAt (position y.progress) y.now → EndsAt (position (plays log y i).progress) (plays log y i).now
plays_end log y zero ends = ends
plays_end log y (suc i) ends = one_ends log (plays log y i) (plays_end log y i ends)

begun_ends : (log : LogParts) (s : State) (refused : Bool) → s.commits ≡ 0 → EndsAt (position (begun_play log s refused).progress) (begun_play log s refused).now
begun_ends log s true first = omega (arith, first)
begun_ends log s false first = now_ends log (progress_from s) s.used s.threads

looked_at : (n i : ℕ) (how : End) (b : Bool) → end_commits how ≡ i → i ≤ n → commits_at (cond b (WalkEnd.Ended how) (WalkEnd.Reached i)) ≤ n
looked_at n i how true same few = omega (arith, same, few)
looked_at n i how false same few = few

end_few : (log : LogParts) (to n i : ℕ) (now : TurnOrEnd) → EndsAt i now → i ≤ n → commits_at (walk_end log to i now) ≤ n
end_few log to n i (Ended how) ends few = looked_at n i how (is_looked_at log to i) ends few
end_few log to n i (Turn k) ends few = few
end_few log to n i TurnOfDma ends few = few

-- a walk from before the first commit ends within the commits of its log
pub walk-ends : (log : LogParts) (s : State) (refused : Bool) → s.commits ≡ 0
    → let y = plays log (begun_play log s refused) log.count in commits_at (walk_end log log.count (position y.progress) y.now) ≤ log.count
walk-ends log s refused first =
    let z = begun_play log s refused in
    let y = plays log z log.count in
    let most = plays-most log z log.count in
    let none = none_done log s refused first in
    end_few log log.count log.count (position y.progress) y.now (plays_end log z log.count (begun_ends log s refused first)) (omega (arith, most, none)) where
      none_done : (log : LogParts) (s : State) (refused : Bool) → s.commits ≡ 0 → position (begun_play log s refused).progress ≡ 0
      none_done log s true first = omega (arith, first)
      none_done log s false first = omega (arith, first)
