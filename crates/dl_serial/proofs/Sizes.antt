-- A chunk of as many instructions as the log allows gets the verdict of the play's.
use Rattle.std.proofs.Common.{◌≡◌, ℕ, zero, suc, ◌-◌, ◌<◌, Bool, true, false, cond, eqb, List, Option, Some, None, refl, sym, ap, ◌∙◌, arith}
use Rattle.std.specs.Prelude.{max}
use Rattle.dl_entry.specs.declared.Actor.{Actor}
use Rattle.spec_isa.specs.declared.thread.Parts.{Parts}
use Rattle.spec_isa.specs.Runs.{run}
use Rattle.spec_log.specs.declared.LogParts.{LogParts}
use Rattle.spec_log.specs.Size.{size_in}
use Rattle.spec_kernel.specs.Needs.{next_kind}
use Rattle.spec_play.specs.Progress.{Progress}
use Rattle.spec_play.specs.declared.used.Used.{Used}
use Rattle.spec_play.specs.Turns.{TurnOrEnd, Turn, TurnOfDma, Ended}
use Rattle.spec_play.specs.Verdicts.{chunk_verdict}
use Rattle.spec_play.specs.Plays.{Played, size_or_standard, thread_verdict}
use Rattle.spec_sphere.specs.sphere.Spheres.{Cursor, Replay, whole_limit, pieces_of, limit_of}
use Rattle.spec_sphere.proofs.Moves.Threads.{run-keeps}
use Rattle.spec_sphere.proofs.PlayingBack.Verdicts.{run-first}
use Rattle.spec_sphere.proofs.PlayingBack.Sizes.{size_by, size-is, limit_by, limit-is, not-serial}

-- ---- the limit

if_zero : (b : Bool) → let none : ℕ = 0 in cond b none none ≡ none
if_zero true = refl
if_zero false = refl

no_pieces : (now : TurnOrEnd) (k : ℕ) → pieces_of now k 0 ≡ 0
no_pieces (Turn j) k = if_zero (eqb j k)
no_pieces TurnOfDma k = refl
no_pieces (Ended how) k = refl

max_of : (w : ℕ) → 0 < w → max 1 (w - 0) ≡ w
max_of w l = omega arith

-- where no piece stands, the limit is that of the whole commit
pub whole-is : (s : ℕ) (b : Cursor) (k : ℕ) (t : Parts) → b.total ≡ 0 → 0 < whole_limit b.log k t.commits → limit_of s (Replay b) k t ≡ whole_limit b.log k t.commits
unfolding limit_of
whole-is s b k t none some =
    ap (λ (n : ℕ). max 1 (whole_limit b.log k t.commits - n)) (ap (pieces_of b.now k) none ∙ no_pieces b.now k) ∙ max_of (whole_limit b.log k t.commits) some

-- ---- sizes

by_size : (log : LogParts) (p : Progress) (u : Used) (k : ℕ) (m : List ℕ) (t : Parts) (o : Option ℕ) → size_in log (Actor.Thread k) t.commits ≡ o
    → chunk_verdict log p u k (run m t (size_by o log.s)) ≡ chunk_verdict log p u k (run m t (limit_by o log.s))
by_size log p u k m t None is = refl
by_size log p u k m t (Some zero) is =
    not-serial log p u k t.commits (run m t 0) refl is ∙ sym (not-serial log p u k t.commits (run m t (max 1 0)) (run-keeps m t (max 1 0)) is)
by_size log p u k m t (Some (suc z)) is =
    let e : suc z ≡ max 1 (suc z) = omega arith in ap (λ (n : ℕ). chunk_verdict log p u k (run m t n)) e

sized : (log : LogParts) (p : Progress) (u : Used) (k : ℕ) (m : List ℕ) (t : Parts)
    → chunk_verdict log p u k (run m t (size_or_standard log k t.commits)) ≡ chunk_verdict log p u k (run m t (whole_limit log k t.commits))
sized log p u k m t =
    ap (λ (n : ℕ). chunk_verdict log p u k (run m t n)) (size-is log k t.commits)
    ∙ by_size log p u k m t (size_in log (Actor.Thread k) t.commits) refl
    ∙ ap (λ (n : ℕ). chunk_verdict log p u k (run m t n)) (sym (limit-is log k t.commits))

-- ---- verdicts

-- a thread with instructions before its next serial one gets the verdict on a chunk of them
pub chunk-turn : (log : LogParts) (y : Played) (k : ℕ) (t : Parts) (n : ℕ) → 0 < n → run y.memory t (whole_limit log k t.commits) ≡ run y.memory t n → (run y.memory t n).n ≡ n
    → thread_verdict log y k t (next_kind t y.memory) ≡ chunk_verdict log y.progress y.used k (run y.memory t (whole_limit log k t.commits))
chunk-turn log y k t n some same ran = ap (thread_verdict log y k t) (run-first y.memory t n some ran) ∙ sized log y.progress y.used k y.memory t
