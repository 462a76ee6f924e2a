-- All replays of the same log on the same image agree, because each is the log's play.
use Rattle.std.proofs.Common.{◌≡◌, ℕ, true, Some, sym, ap, ◌∙◌, subst, arith, set}
use Rattle.dl_entry.specs.declared.End.{End}
use Rattle.spec_isa.specs.declared.thread.Parts.{Parts}
use Rattle.spec_isa.specs.Words.{lays}
use Rattle.spec_isa.specs.Runs.{run}
use Rattle.spec_log.specs.declared.LogParts.{LogParts}
use Rattle.spec_play.specs.Progress.{Progress, position}
use Rattle.spec_play.specs.Turns.{TurnOrEnd, Turn, TurnOfDma, Ended}
use Rattle.spec_play.specs.Plays.{Played, plays}
use Rattle.spec_play.proofs.Going.{plays-first}
use Rattle.spec_sphere.specs.sphere.Spheres.{Cursor, Sphere, is_over}
use Rattle.spec_replay.specs.Following.{IsWhole, IsMovedOn, StandsAt}
use Rattle.spec_replay.specs.Promises.{SameState, ends_between, Agree, ReplaysAgree}
use Rattle.spec_replay.proofs.Intervals.{now_as, is-start}
use Rattle.spec_replay.proofs.Commits.Done.{done_in}
use Rattle.spec_replay.proofs.Replays.Stopping.{IsAt, Reached, reached, is_last, end_between, whole_now}
use Rattle.spec_replay.proofs.Replays.All.{replays_reach}
use Rattle.spec_sphere.specs.sphere.Setups.{ReplaySetup, first_played}

-- ---- states

-- if no piece is done, or the same number of instructions in pieces, what is moved on is the same
moved_same : (log : LogParts) (y : Played) (k : ℕ) (t u : Parts) (p q : Sphere) (b c : Cursor) → IsMovedOn log y k t p b → IsMovedOn log y k u q c → b.total ≡ c.total → SameState p q
moved_same log y k t u p q b c m n total =
    let same : t ≡ u = (let h : Some t ≡ Some u = sym m.is ∙ n.is in cc) in
    record {
      memory = m.memory ∙ (λ i. lays y.memory (run y.memory (same i) (total i)).words) ∙ sym n.memory;
      threads = m.threads ∙ (λ i. set y.threads k (run y.memory (same i) (total i)).thread) ∙ sym n.threads;
    }

whole_same : (y : Played) (p q : Sphere) (b c : Cursor) → IsWhole y p b → IsWhole y q c → SameState p q
whole_same y p q b c m n = record { memory = m.memory ∙ sym n.memory; threads = m.threads ∙ sym n.threads }

state_same : (log : LogParts) (y : Played) (now : TurnOrEnd) (p q : Sphere) (b c : Cursor) → StandsAt log y now p b → StandsAt log y now q c → b.total ≡ c.total → SameState p q
state_same log y (Turn k) p q b c m n total = moved_same log y k m.0 n.0 p q b c m.1 n.1 total
state_same log y TurnOfDma p q b c m n total = whole_same y p q b c m n
state_same log y (Ended how) p q b c m n total = whole_same y p q b c m n

-- ---- the promise

-- the other one is here too, if it is as far in whole commits
same_place : (asked : ReplaySetup) (start : Played) (p q : Sphere) (c : Cursor) → Reached asked start q c → position p.progress ≡ position q.progress → p.progress.first ≡ q.progress.first → IsAt asked (plays asked.log start (done_in p)) q c
same_place asked start p q c l e first =
    let same : done_in p ≡ done_in q = omega (arith, e, first) in
    subst (λ (n : ℕ). IsAt asked (plays asked.log start n) q c) (sym same) l.here

-- both begin with the same commit
same_first : (asked : ReplaySetup) (start : Played) (p q : Sphere) (b c : Cursor) → Reached asked start p b → Reached asked start q c → p.progress.first ≡ q.progress.first
same_first asked start p q b c k l =
    ap (λ (g : Progress). g.first) k.here.progress
    ∙ plays-first asked.log start (done_in p)
    ∙ sym (plays-first asked.log start (done_in q))
    ∙ ap (λ (g : Progress). g.first) (sym l.here.progress)

both_stopped : (asked : ReplaySetup) (start : Played) (p q : Sphere) (b c : Cursor) → Reached asked start p b → Reached asked start q c → is_over b.now ≡ true → is_over c.now ≡ true → (p.progress ≡ q.progress) × (b.now ≡ c.now)
both_stopped asked start p q b c k l e h =
    let m = is_last asked start p b k e in
    let n = is_last asked start q c l h in (m.progress ∙ sym n.progress, m.now ∙ sym n.now)

final_same : (asked : ReplaySetup) (start : Played) (p q : Sphere) (b c : Cursor) (how : End) → Reached asked start p b → Reached asked start q c → b.now ≡ Ended how → ends_between how ≡ true → is_over c.now ≡ true → SameState p q
final_same asked start p q b c how k l is between stopped =
    let y : Played = plays asked.log start (done_in p) in
    let both = both_stopped asked start p q b c k l (ap is_over is) stopped in
    let g : IsAt asked y q c = same_place asked start p q c l (ap position both.0) (ap (λ (x : Progress). x.first) both.0) in
    let over : now_as asked y ≡ Ended how = end_between asked y b how k.here.now k.here.ended is between in
    whole_same y p q b c (whole_now asked y p b how over k.here.state) (whole_now asked y q c how over g.state)

two_agree : (asked : ReplaySetup) (start : Played) (p q : Sphere) (b c : Cursor) → Reached asked start p b → Reached asked start q c → Agree p q b c
two_agree asked start p q b c k l =
    let y : Played = plays asked.log start (done_in p) in
    let first = same_first asked start p q b c k l in
    record {
      progress = λ e. k.here.progress ∙ sym (same_place asked start p q c l e first).progress;
      state = λ e total. state_same asked.log y (now_as asked y) p q b c k.here.state (same_place asked start p q c l e first).state total;
      commits = λ e h. (both_stopped asked start p q b c k l e h).0;
      ends = λ e h. (both_stopped asked start p q b c k l e h).1;
      final = λ how is between stopped. final_same asked start p q b c how k l is between stopped;
    }

-- two replays of the same log on the same image agree
pub replays_alike : ReplaysAgree
replays_alike image asked s z es fs i j p q b c x w none role other =
    let start : Played = first_played image asked in
    two_agree asked start p q b c
    (reached asked start p b (is-start image asked) role (replays_reach image asked s es i p x none))
    (reached asked start q c (is-start image asked) other (replays_reach image asked z fs j q w none))
