-- A slice from a state is the slice.
use Rattle.std.proofs.Common.{◌≡◌, ℕ, zero, suc, ◌+◌, ◌-◌, ◌≤◌, List, [], ◌∷◌, ◌++◌, length, sym, ap, ◌∙◌, subst, arith}
use Rattle.std.specs.Prelude.{drop}
use Rattle.dl_entry.specs.declared.Commit.{Commit}
use Rattle.spec_log.specs.declared.LogParts.{LogParts}
use Rattle.spec_play.specs.Progress.{position}
use Rattle.spec_play.specs.Turns.{TurnOrEnd}
use Rattle.spec_play.specs.Plays.{Played, opened, plays}
use Rattle.spec_play.specs.Walks.{walk_end, walked_at}
use Rattle.spec_play.proofs.Going.{plays-first}
use Rattle.spec_play.specs.States.{State, state_of, resumed}
use Rattle.spec_play.specs.Resuming.{IsResumed}
use Rattle.spec_interval.specs.Slices.{Slice, slice_of}
use Rattle.spec_interval.specs.Promise.{SlicesResume}
use Rattle.spec_play.proofs.Resuming.{plays_resume}

-- past the first list, of two, the rest is the second's
pub drop_over : (xs ys : List Commit) (i : ℕ) → length xs ≤ i → drop i (xs ++ ys) ≡ drop (i - length xs) ys
drop_over [] ys i over = let h : i ≡ i - 0 = omega arith in ap (λ (n : ℕ). drop n ys) h
drop_over (x ∷ xs) ys zero over = absurd (omega (arith, over))
drop_over (x ∷ xs) ys (suc i) over =
    let h : i - length xs ≡ suc i - length (x ∷ xs) = omega arith in
    drop_over xs ys i (omega (arith, over)) ∙ ap (λ (n : ℕ). drop n ys) h

-- of a state and a turn or end, after a walk of up to j commits
abbrev slice_at : LogParts → (i j : ℕ) → List Commit → State → TurnOrEnd → Slice
slice_at log i j cs s now =
    slice_of i cs (record { commits = []; threads = s.threads; memory = s.memory; request = s.request; end = walk_end log j s.commits now })

alike : (log : LogParts) (i j : ℕ) (cs ds : List Commit) (w z : Played) → cs ≡ ds → state_of w ≡ state_of z → w.now ≡ z.now → slice_of i cs (walked_at log j w) ≡ slice_of i ds (walked_at log j z)
alike log i j cs ds w z commits state now =
    ap (λ (xs : List Commit). slice_at log i j xs (state_of w) w.now) commits
    ∙ ap (λ (s : State). slice_at log i j ds s w.now) state
    ∙ ap (λ (n : TurnOrEnd). slice_at log i j ds (state_of z) n) now

-- it doesn't depend on the state from which it is played
pub slices_resume : SlicesResume
slices_resume log memory entry done i j has below order =
    let start : Played = opened log memory entry in
    let y : Played = plays log start done in
    let p : ℕ = position y.progress in
    let w : Played = plays log (resumed log (state_of y)) (j - p) in
    let to : done + (j - p) ≡ j = omega (arith, has, below, order) in
    let r : IsResumed y (plays log start j) w =
    subst (λ (n : ℕ). IsResumed y (plays log start n) w) to (plays_resume log memory entry done (j - p) has)
    in
    let first : y.progress.first ≡ 0 = plays-first log start done in
    let count : length y.progress.commits ≡ p = omega (arith, first) in
    let rest : drop (i - p) w.progress.commits ≡ drop i (plays log start j).progress.commits =
    ap (λ (n : ℕ). drop (i - n) w.progress.commits) (sym count)
    ∙ sym (drop_over y.progress.commits w.progress.commits i (omega (arith, count, has, below)))
    ∙ ap (drop i) (sym r.commits)
    in
    alike log i j (drop (i - p) w.progress.commits) (drop i (plays log start j).progress.commits) w (plays log start j) rest r.state r.now
