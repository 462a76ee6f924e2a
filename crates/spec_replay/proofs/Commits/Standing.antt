-- If a replayed sphere has no piece of its next commit, it is where the play is.
use Rattle.std.proofs.Common.{◌≡◌, ℕ, zero, suc, ◌<◌, inl, inr, List, [], ◌∷◌, Option, Some, refl, sym, ap, ◌∙◌, subst, set}
use Rattle.std.specs.Prelude.{slice_get}
use Rattle.spec_log.specs.declared.LogParts.{LogParts}
use Rattle.spec_play.specs.declared.interval.Interval.{Interval}
use Rattle.spec_play.specs.Progress.{position}
use Rattle.spec_play.specs.Turns.{TurnOrEnd, Turn, TurnOfDma, Ended}
use Rattle.spec_play.specs.Plays.{Played}
use Rattle.spec_play.specs.Intervals.{now_in}
use Rattle.spec_play.proofs.Going.{Lives}
use Rattle.spec_sphere.specs.sphere.Spheres.{Cursor, Sphere}
use Rattle.spec_sphere.specs.sphere.Setups.{ReplaySetup}
use Rattle.spec_sphere.proofs.Replays.Turns.{interval-now}
use Rattle.spec_sphere.proofs.PlayingBack.Sizes.{limit-some}
use Rattle.spec_replay.specs.Following.{IsWhole, StandsAt}
use Rattle.spec_replay.proofs.Intervals.{ended_in, now_as}

-- ---- threads

-- putting something where it already is changes nothing
pub set_here : {A : Type 0} (xs : List A) (k : ℕ) (x : A) → slice_get xs k ≡ Some x → set xs k x ≡ xs
set_here [] k x e = refl
set_here (y ∷ ys) zero x e = let h : x ≡ y = cc in ap (λ (z : _). z ∷ ys) h
set_here (y ∷ ys) (suc k) x e = ap (λ (zs : List _). y ∷ zs) (set_here ys k x e)

-- of two changes at the same place the second counts
pub set_twice : {A : Type 0} (xs : List A) (k : ℕ) (x y : A) → set (set xs k x) k y ≡ set xs k y
set_twice [] k x y = refl
set_twice (z ∷ zs) zero x y = refl
set_twice (z ∷ zs) (suc k) x y = ap (λ (us : List _). z ∷ us) (set_twice zs k x y)

-- ---- without pieces

-- if no piece is done, what is moved on is the play's state itself
pub moved_whole : (log : LogParts) (y : Played) (k : ℕ) (p : Sphere) (b : Cursor) → 0 < log.s → Lives y.threads k → IsWhole y p b → StandsAt log y (Turn k) p b
moved_whole log y k p b s l w = (
  l.thread,
  rw w.total
      record {
        is = l.is;
        live = l.live;
        ran = refl;
        memory = w.memory;
        threads = w.threads ∙ sym (set_here y.threads k l.thread l.is);
        loads = w.loads;
        within = limit-some log k l.thread.commits s;
      },
)

stands_now : (log : LogParts) (y : Played) (now : TurnOrEnd) (p : Sphere) (b : Cursor) → 0 < log.s → ((k : ℕ) → now ≡ Turn k → Lives y.threads k) → IsWhole y p b → StandsAt log y now p b
stands_now log y (Turn k) p b s lives w = moved_whole log y k p b s (lives k refl) w
stands_now log y TurnOfDma p b s lives w = w
stands_now log y (Ended how) p b s lives w = w

-- in an interval that has ended there, no piece is done either
stands_in : (i : Option Interval) (log : LogParts) (y : Played) (n : ℕ) (now : TurnOrEnd) (p : Sphere) (b : Cursor) → StandsAt log y now p b → IsWhole y p b → StandsAt log y (now_in i log.count n now) p b
stands_in i log y n now p b s w =
    elim (interval-now i log.count n now) [
      | inl over ↦ (let e = ended_in (now_in i log.count n now) over in subst (λ (m : TurnOrEnd). StandsAt log y m p b) (sym e.1) w)
      | inr same ↦ subst (λ (m : TurnOrEnd). StandsAt log y m p b) (sym same) s
    ]

-- a replay without a piece of its next commit is where its play is
pub whole-stands : (asked : ReplaySetup) (y : Played) (p : Sphere) (b : Cursor) → 0 < asked.log.s → ((k : ℕ) → y.now ≡ Turn k → Lives y.threads k) → IsWhole y p b → StandsAt asked.log y (now_as asked y) p b
whole-stands asked y p b s lives w =
    stands_in asked.interval asked.log y (position y.progress) y.now p b (stands_now asked.log y y.now p b s lives w) w
