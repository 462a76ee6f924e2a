-- How a play ends: complete with all commits of its log, or diverged at the number of those that are done.
use Rattle.std.proofs.Common.{◌≡◌, ℕ, zero, suc, ◌≤◌, inl, inr, ◌⊎◌, Bool, true, false, cond, List, length, Option, Some, None, if◌then◌else◌, refl, sym, ap, ◌∙◌, subst, arith}
use Rattle.std.specs.Prelude.{slice_get}
use Rattle.std.proofs.lemmas.Bool.{cases_lt, le-ltb}
use Rattle.dl_entry.specs.declared.Actor.{Actor}
use Rattle.dl_entry.specs.declared.End.{End}
use Rattle.dl_entry.specs.declared.Why.{Why}
use Rattle.spec_isa.specs.declared.thread.Parts.{Parts}
use Rattle.spec_log.specs.declared.LogParts.{LogParts}
use Rattle.spec_kernel.specs.Needs.{next_kind}
use Rattle.spec_kernel.specs.Interrupts.{is_live}
use Rattle.spec_play.specs.declared.walk_end.WalkEnd.{WalkEnd}
use Rattle.spec_play.specs.declared.used.Used.{Used}
use Rattle.spec_play.specs.Progress.{Progress, position}
use Rattle.spec_play.specs.Turns.{TurnOrEnd, Turn, TurnOfDma, Ended, has_left_over, at_end, turn_of_thread, turn_of, next_actor, now_at}
use Rattle.spec_play.specs.Verdicts.{LogVerdict, Goes, Fails}
use Rattle.spec_play.specs.Transfers.{DmaVerdict, DmaGoes, DmaFails, dma_verdict}
use Rattle.spec_play.specs.Plays.{Played, FitsImage, opened, settled, thread_verdict, play_thread, dma_settled, play_turn, play_one, plays, play}
use Rattle.spec_play.specs.Walks.{walked}
use Rattle.spec_play.proofs.Going.{plays-most, plays-first}
use Rattle.spec_play.proofs.Walking.{walks_are_plays}
use Rattle.spec_strata.specs.InPlay.{IsLooked}
use Rattle.spec_strata.proofs.Images.Following.{below-is}

-- ---- at each commit

-- the turn is looked at, or the play has diverged here
abbrev Stands : LogParts → Played → Type 0
Stands log y = IsLooked log y ⊎ ((why : Why) × (y.now ≡ Ended (End.Diverged (position y.progress) why)))

settled-stands : (log : LogParts) (y : Played) (k : ℕ) (v : LogVerdict) → Stands log (settled log y k v)
settled-stands log y k (Goes e u) = inl refl
settled-stands log y k (Fails why) = inr (why, refl)

dma-stands : (log : LogParts) (y : Played) (v : DmaVerdict) → Stands log (dma_settled log y v)
dma-stands log y (DmaGoes words) = inl refl
dma-stands log y (DmaFails why) = inr (why, refl)

thread-stands : (log : LogParts) (y : Played) (k : ℕ) (o : Option Parts) → Stands log y → Stands log (play_thread log y k o)
thread-stands log y k None s = s
thread-stands log y k (Some t) s = settled-stands log y k (thread_verdict log y k t (next_kind t y.memory))

now-stands : (log : LogParts) (y : Played) (now : TurnOrEnd) → Stands log y → Stands log (play_turn log y now)
now-stands log y (Ended how) s = s
now-stands log y TurnOfDma s = dma-stands log y (dma_verdict log y.progress y.used)
now-stands log y (Turn k) s = thread-stands log y k (slice_get y.threads k) s

one-stands : (log : LogParts) (y : Played) → Stands log y → Stands log (play_one log y)
unfolding play_one
one-stands log y s = now-stands log y y.now s

stands : (log : LogParts) (memory : List ℕ) (entry n : ℕ) → Stands log (plays log (opened log memory entry) n)
stands log memory entry zero = inl refl
stands log memory entry (suc n) = one-stands log (plays log (opened log memory entry) n) (stands log memory entry n)

-- ---- at its end

abbrev pub EndsAs : (count commits : ℕ) → End → Type 0
EndsAs count i (End.Complete n) = (n ≡ i) × (count ≤ i)
EndsAs count i (End.Diverged n why) = n ≡ i
EndsAs count i (End.At n) = ⊥

same-end : (a b : End) → Ended a ≡ Ended b → a ≡ b
same-end a b e = cc

by-thread : (count i k : ℕ) (how : End) (o : Option Parts) → turn_of_thread i k o ≡ Ended how → EndsAs count i how
by-thread count i k how None e = subst (EndsAs count i) (same-end (End.Diverged i Why.NoThread) how e) refl
by-thread count i k how (Some t) e = by-life (is_live t) e
  where
    by-life : (b : Bool) → (if b then Turn k else Ended (End.Diverged i Why.NoThread)) ≡ Ended how → EndsAs count i how
    by-life true h = cc
    by-life false h = subst (EndsAs count i) (same-end (End.Diverged i Why.NoThread) how h) refl

by-turn : (count i : ℕ) (ts : List Parts) (how : End) (o : Option Actor) → turn_of i ts o ≡ Ended how → EndsAs count i how
by-turn count i ts how None e = subst (EndsAs count i) (same-end (End.Diverged i Why.NoThread) how e) refl
by-turn count i ts how (Some Actor.Dma) e = cc
by-turn count i ts how (Some (Actor.Thread k)) e = by-thread count i k how (slice_get ts k) e

by-end : (count i : ℕ) (how : End) (left : Bool) → count ≤ i → at_end i left ≡ Ended how → EndsAs count i how
by-end count i how true l e = subst (EndsAs count i) (same-end (End.Diverged i Why.LeftOver) how e) refl
by-end count i how false l e = subst (EndsAs count i) (same-end (End.Complete i) how e) (refl, l)

over-is : (log : LogParts) (p : Progress) (u : Used) (ts : List Parts) → log.count ≤ position p → now_at log p u ts ≡ at_end (position p) (has_left_over log u ts)
unfolding now_at
over-is log p u ts l =
    ap (λ (b : Bool). cond b (turn_of (position p) ts (next_actor log p ts)) (at_end (position p) (has_left_over log u ts))) (le-ltb (position p) log.count l)

by-look : (log : LogParts) (y : Played) (how : End) → IsLooked log y → y.now ≡ Ended how → EndsAs log.count (position y.progress) how
by-look log y how looked e =
    let p : Progress = y.progress in
    elim (cases_lt (position p) log.count) [
      | inl l ↦ by-turn log.count (position p) y.threads how (next_actor log p y.threads) (sym (below-is log p y.used y.threads l) ∙ sym looked ∙ e)
      | inr l ↦ by-end log.count (position p) how (has_left_over log y.used y.threads) l (sym (over-is log p y.used y.threads l) ∙ sym looked ∙ e)
    ]

by-stand : (log : LogParts) (y : Played) (how : End) → Stands log y → y.now ≡ Ended how → EndsAs log.count (position y.progress) how
by-stand log y how (inl looked) e = by-look log y how looked e
by-stand log y how (inr d) e = subst (EndsAs log.count (position y.progress)) (same-end _ how (sym d.1 ∙ e)) refl

-- ---- the whole play

commits-are : (log : LogParts) (memory : List ℕ) (entry : ℕ) → position (play log memory entry).progress ≡ length (play log memory entry).progress.commits
commits-are log memory entry = let h = plays-first log (opened log memory entry) log.count in omega (arith, h)

-- a play ends at the number of its commits, and is complete only if the log has no more
pub ends-as : (log : LogParts) (memory : List ℕ) (entry : ℕ) (how : End) → (play log memory entry).now ≡ Ended how → EndsAs log.count (length (play log memory entry).progress.commits) how
ends-as log memory entry how e =
    subst (λ (i : ℕ). EndsAs log.count i how) (commits-are log memory entry) (by-stand log (play log memory entry) how (stands log memory entry log.count) e)

-- a play that is complete fits
pub fits-complete : (log : LogParts) (memory : List ℕ) (entry n : ℕ) → (play log memory entry).now ≡ Ended (End.Complete n) → FitsImage log memory entry
fits-complete log memory entry n e =
    let h = ends-as log memory entry (End.Complete n) e in
    let most = plays-most log memory entry log.count in
    let same = commits-are log memory entry in
    let a = h.0 in
    let b = h.1 in
    let all : n ≡ log.count = omega (arith, a, b, most, same) in
    e ∙ ap (λ (i : ℕ). Ended (End.Complete i)) all

-- it has no more commits than its log
pub few-commits : (log : LogParts) (memory : List ℕ) (entry : ℕ) → length (play log memory entry).progress.commits ≤ log.count
few-commits log memory entry =
    let most = plays-most log memory entry log.count in
    let same = commits-are log memory entry in
    omega (arith, most, same)

-- ---- a walk to the end

-- if a walk of a log ends, the log's play ends in the same way
pub walk-ended : (log : LogParts) (memory : List ℕ) (entry to : ℕ) (how : End) → (walked log memory entry to).end ≡ WalkEnd.Ended how → (play log memory entry).now ≡ Ended how
walk-ended log memory entry to how e = ((walks_are_plays log memory entry to).ended how e).now

-- a walk asked for all commits of its log never stops before the play's end is looked at
pub never-reached : (log : LogParts) (memory : List ℕ) (entry to i : ℕ) → log.count ≤ to → (walked log memory entry to).end ≡ WalkEnd.Reached i → ⊥
never-reached log memory entry to i most e = let l = ((walks_are_plays log memory entry to).reached i e).more in omega (arith, l, most)
