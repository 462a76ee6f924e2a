-- A log that fits its image has nothing left: each of its interrupts comes after a commit of its thread, and its DMAs are used
-- in their places.
use Rattle.std.proofs.Common.{◌≡◌, ℕ, zero, suc, ◌+◌, ◌-◌, ◌<◌, ◌≤◌, inl, inr, Bool, true, false, cond, List, [], ◌∷◌, length, Option, Some, None, refl, sym, ap, ◌∙◌, subst, arith}
use Rattle.std.specs.Prelude.{slice_get, nat_lt, nat_le, filter, drop}
use Rattle.std.proofs.lemmas.Bool.{true≢false, and_parts, ltb-true, ltb-false, le-leb, leb-true, cases_lt, false_from_ne_true}
use Rattle.std.proofs.lemmas.Option.{slice_get_within}
use Rattle.dl_entry.specs.declared.Actor.{Actor}
use Rattle.dl_entry.specs.declared.End.{End}
use Rattle.dl_entry.specs.declared.Why.{Why}
use Rattle.spec_isa.specs.declared.thread.Parts.{Parts}
use Rattle.spec_log.specs.declared.DmaRecord.{DmaRecord}
use Rattle.spec_log.specs.declared.LogParts.{LogParts}
use Rattle.spec_kernel.specs.Interrupts.{is_live}
use Rattle.spec_kernel.specs.Needs.{next_kind}
use Rattle.spec_play.specs.Effects.{dma_commit}
use Rattle.spec_play.specs.Plays.{Played, opened, settled, thread_verdict, play_thread, dma_settled, play_turn, play_one, plays, play, FitsImage}
use Rattle.spec_play.specs.Progress.{Progress, position}
use Rattle.spec_play.specs.Transfers.{DmaVerdict, DmaGoes, DmaFails, dma_verdict}
use Rattle.spec_play.specs.Turns.{TurnOrEnd, Turn, TurnOfDma, Ended, are_sizes_used, has_left_over, at_end, turn_of_thread, turn_of, next_actor, now_at}
use Rattle.spec_play.specs.Verdicts.{LogVerdict, Goes, Fails}
use Rattle.spec_play.specs.declared.used.Used.{Used}
use Rattle.spec_play.proofs.Positions.{position-more}
use Rattle.spec_play.proofs.Resuming.{plays_go_on}
use Rattle.spec_tail.specs.Playing.{begun}
use Rattle.spec_tail.proofs.Along.Reached.{IfGoes, verdict_goes, verdict-for, is_reached, plays-reached}
use Rattle.spec_tail.proofs.Along.Tallies.{Each, each-map, tally-each}
use Rattle.spec_tail.proofs.Along.Rests.{IsArranged}

-- ---- nothing is left

-- if a play is complete, its log says so
abbrev IsTold : LogParts → Played → Type 0
IsTold log y = (n : ℕ) → y.now ≡ Ended (End.Complete n) → now_at log y.progress y.used y.threads ≡ Ended (End.Complete n)

told-settled : (log : LogParts) (y : Played) (k : ℕ) (v : LogVerdict) → IsTold log (settled log y k v)
told-settled log y k (Goes e u) n is = is
told-settled log y k (Fails why) n is = cc

told-thread : (log : LogParts) (y : Played) (k : ℕ) (o : Option Parts) → IsTold log y → IsTold log (play_thread log y k o)
told-thread log y k None told = told
told-thread log y k (Some t) told = told-settled log y k (thread_verdict log y k t (next_kind t y.memory))

told-dma : (log : LogParts) (y : Played) (v : DmaVerdict) → IsTold log (dma_settled log y v)
told-dma log y (DmaGoes words) n is = is
told-dma log y (DmaFails why) n is = cc

told-now : (log : LogParts) (y : Played) (now : TurnOrEnd) → IsTold log y → IsTold log (play_turn log y now)
told-now log y (Ended how) told = told
told-now log y TurnOfDma told = told-dma log y (dma_verdict log y.progress y.used)
told-now log y (Turn k) told = told-thread log y k (slice_get y.threads k) told

told-one : (log : LogParts) (y : Played) → IsTold log y → IsTold log (play_one log y)
unfolding play_one
told-one log y told = told-now log y y.now told

told-plays : (log : LogParts) (memory : List ℕ) (entry i : ℕ) → IsTold log (plays log (opened log memory entry) i)
told-plays log memory entry zero = λ n is. is
told-plays log memory entry (suc i) = told-one log (plays log (opened log memory entry) i) (told-plays log memory entry i)

no-thread : (i n k : ℕ) (o : Option Parts) → turn_of_thread i k o ≡ Ended (End.Complete n) → {A : Type 0} → A
no-thread i n k None e = cc
no-thread i n k (Some t) e = either (is_live t) e where
  either : (b : Bool) → cond b (Turn k) (Ended (End.Diverged i Why.NoThread)) ≡ Ended (End.Complete n) → {A : Type 0} → A
  either true e = cc
  either false e = cc

no-end : (i n : ℕ) (ts : List Parts) (o : Option Actor) → turn_of i ts o ≡ Ended (End.Complete n) → {A : Type 0} → A
no-end i n ts None e = cc
no-end i n ts (Some Actor.Dma) e = cc
no-end i n ts (Some (Actor.Thread k)) e = no-thread i n k (slice_get ts k) e

none-left : (i n : ℕ) (ts : List Parts) (o : Option Actor) (below left : Bool) → cond below (turn_of i ts o) (at_end i left) ≡ Ended (End.Complete n) → left ≡ false
none-left i n ts o true left e = no-end i n ts o e
none-left i n ts o false true e = cc
none-left i n ts o false false e = refl

nothing-left : (log : LogParts) (p : Progress) (u : Used) (ts : List Parts) (n : ℕ) → now_at log p u ts ≡ Ended (End.Complete n) → has_left_over log u ts ≡ false
unfolding now_at
nothing-left log p u ts n e = none-left (position p) n ts (next_actor log p ts) (nat_lt (position p) log.count) (has_left_over log u ts) e

-- of interrupts and of DMAs
none-more : (sizes interrupts inputs dmas : Bool) → cond sizes (cond interrupts true (cond inputs true dmas)) true ≡ false → (interrupts ≡ false) × (dmas ≡ false)
none-more true true inputs dmas e = absurd (true≢false e)
none-more true false true dmas e = absurd (true≢false e)
none-more true false false dmas e = (refl, e)
none-more false interrupts inputs dmas e = absurd (true≢false e)

all-taken : (log : LogParts) (u : Used) (ts : List Parts) → has_left_over log u ts ≡ false → (length log.interrupts ≤ u.interrupts) × (length log.dmas ≤ u.dmas)
unfolding has_left_over
all-taken log u ts e =
    let n = none-more (are_sizes_used ts log.sizes) (nat_lt u.interrupts (length log.interrupts)) (nat_lt u.inputs (length log.inputs)) (nat_lt u.dmas (length log.dmas)) e in
    (ltb-false u.interrupts (length log.interrupts) n.0, ltb-false u.dmas (length log.dmas) n.1)

fitting-taken : (log : LogParts) (memory : List ℕ) (entry : ℕ) → FitsImage log memory entry → (length log.interrupts ≤ (play log memory entry).used.interrupts) × (length log.dmas ≤ (play log memory entry).used.dmas)
fitting-taken log memory entry fits =
    let z : Played = play log memory entry in
    all-taken log z.used z.threads (nothing-left log z.progress z.used z.threads log.count (told-plays log memory entry log.count log.count fits))

-- each of its interrupts comes after some commit of its thread
pub fitting-after : (log : LogParts) (memory : List ℕ) (entry : ℕ) → IsArranged log → FitsImage log memory entry → Each (λ x. 0 < x.index) log.interrupts
fitting-after log memory entry arranged fits =
    let z : Played = play log memory entry in
    let taken = (fitting-taken log memory entry fits).0 in
    let reached = (plays-reached log arranged.rising memory entry log.count).interrupts in
    each-map (λ x. is_reached z.threads x ≡ true) (λ x. 0 < x.index) log.interrupts
    (λ x is. ltb-true 0 x.index (and_parts (nat_lt 0 x.index) (nat_le x.index (begun z.threads x.thread)) is).0)
    (tally-each (is_reached z.threads) log.interrupts (omega (arith, taken, reached)))

-- ---- the DMAs from a base on

-- a play that goes on from a base, where so many DMAs were used, uses those of commits from there on
record IsUsedSince (log : LogParts) (base before : ℕ) (z : Played) : Type 0 where
  within : base ≤ position z.progress
  dmas : (j : ℕ) (d : DmaRecord) → before ≤ j → j < z.used.dmas → slice_get log.dmas j ≡ Some d → base ≤ d.position

over-since : (log : LogParts) (base before : ℕ) (z : Played) (how : End) → IsUsedSince log base before z → IsUsedSince log base before (record z { now = Ended how })
over-since log base before z how u = record { within = u.within; dmas = u.dmas }

settled-since : (log : LogParts) (base before : ℕ) (z : Played) (k : ℕ) (t : Parts) (v : LogVerdict) → IfGoes log k t z.used v → IsUsedSince log base before z → IsUsedSince log base before (settled log z k v)
settled-since log base before z k t (Fails why) goes u = over-since log base before z (End.Diverged (position z.progress) why) u
settled-since log base before z k t (Goes e used) goes u =
    let n = position-more z.progress e.commit in
    let within = u.within in
    let same = goes.dmas in
    record { within = omega (arith, n, within); dmas = λ j d from l at. u.dmas j d from (omega (arith, l, same)) at }

thread-since : (log : LogParts) (base before : ℕ) (z : Played) (k : ℕ) (o : Option Parts) → IsUsedSince log base before z → IsUsedSince log base before (play_thread log z k o)
thread-since log base before z k None u = u
thread-since log base before z k (Some t) u =
    let kind = next_kind t z.memory in settled-since log base before z k t (thread_verdict log z k t kind) (verdict_goes log z k t kind) u

dma-since : (log : LogParts) (base before : ℕ) (z : Played) (v : DmaVerdict) → dma_verdict log z.progress z.used ≡ v → IsUsedSince log base before z → IsUsedSince log base before (dma_settled log z v)
dma-since log base before z (DmaFails why) is u = over-since log base before z (End.Diverged (position z.progress) why) u
dma-since log base before z (DmaGoes words) is u =
    let n = position-more z.progress dma_commit in
    let within = u.within in
    record {
      within = omega (arith, n, within);
      dmas = λ j d from l at. elim (cases_lt j z.used.dmas) [
        | inl less ↦ u.dmas j d from less at
        | inr most ↦ (
            let same : j ≡ z.used.dmas = omega (arith, l, most) in
            let there : slice_get log.dmas z.used.dmas ≡ Some d = ap (slice_get log.dmas) (sym same) ∙ at in
            let h = verdict-for log z.progress z.used d words there is in omega (arith, h, within)
            )
      ];
    }

now-since : (log : LogParts) (base before : ℕ) (z : Played) (now : TurnOrEnd) → IsUsedSince log base before z → IsUsedSince log base before (play_turn log z now)
now-since log base before z (Ended how) u = u
now-since log base before z TurnOfDma u = dma-since log base before z (dma_verdict log z.progress z.used) refl u
now-since log base before z (Turn k) u = thread-since log base before z k (slice_get z.threads k) u

one-since : (log : LogParts) (base before : ℕ) (z : Played) → IsUsedSince log base before z → IsUsedSince log base before (play_one log z)
unfolding play_one
one-since log base before z u = now-since log base before z z.now u

plays-since : (log : LogParts) (y : Played) (i : ℕ) → IsUsedSince log (position y.progress) y.used.dmas (plays log y i)
plays-since log y zero = record { within = omega arith; dmas = λ j d from l at. absurd (omega (arith, from, l)) }
plays-since log y (suc i) = one-since log (position y.progress) y.used.dmas (plays log y i) (plays-since log y i)

-- a test that fails for the first entries and passes for all others
filter-drop : {X : Type 0} (p : X → Bool) (u : ℕ) (xs : List X) → ((j : ℕ) (x : X) → j < u → slice_get xs j ≡ Some x → p x ≡ false) → ((j : ℕ) (x : X) → u ≤ j → slice_get xs j ≡ Some x → p x ≡ true) → filter p xs ≡ drop u xs
filter-drop p zero [] before from = refl
filter-drop p zero (x ∷ xs) before from =
    ap (λ (b : Bool). cond b (x ∷ filter p xs) (filter p xs)) (from 0 x (omega arith) refl)
    ∙ ap (λ ys. x ∷ ys) (filter-drop p 0 xs (λ j y l is. absurd (omega (arith, l))) (λ j y l is. from (suc j) y (omega arith) is))
filter-drop p (suc u) [] before from = refl
filter-drop p (suc u) (x ∷ xs) before from =
    ap (λ (b : Bool). cond b (x ∷ filter p xs) (filter p xs)) (before 0 x (omega arith) refl)
    ∙ filter-drop p u xs (λ j y l is. before (suc j) y (omega (arith, l)) is) (λ j y l is. from (suc j) y (omega (arith, l)) is)

-- those that are used after some commits are those of the commits from there on
pub by-position : (log : LogParts) (memory : List ℕ) (entry i : ℕ) → IsArranged log → FitsImage log memory entry
    → let y = plays log (opened log memory entry) i in
    i ≤ log.count → filter (λ d. nat_le (position y.progress) d.position) log.dmas ≡ drop y.used.dmas log.dmas
by-position log memory entry i arranged fits within =
    let start : Played = opened log memory entry in
    let y : Played = plays log start i in
    let base : ℕ = position y.progress in
    let reached = plays-reached log arranged.rising memory entry i in
    let n : i + (log.count - i) ≡ log.count = omega (arith, within) in
    let end : plays log y (log.count - i) ≡ play log memory entry = plays_go_on log start i (log.count - i) ∙ ap (plays log start) n in
    let since : IsUsedSince log base y.used.dmas (play log memory entry) = subst (IsUsedSince log base y.used.dmas) end (plays-since log y (log.count - i)) in
    let taken = (fitting-taken log memory entry fits).1 in
    filter-drop (λ (d : DmaRecord). nat_le base d.position) y.used.dmas log.dmas
    (λ j d l at. false_from_ne_true (nat_le base d.position) (λ h. let m = leb-true base d.position h in let r = reached.dmas j d l at in omega (arith, m, r)))
    (λ j d from at. le-leb base d.position (since.dmas j d from (let l = slice_get_within log.dmas j d at in omega (arith, l, taken)) at))
