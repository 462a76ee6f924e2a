-- A play of a tail that has ended at its base; and the state in which any other begins.
use Rattle.std.proofs.Common.{◌≡◌, ℕ, zero, suc, ◌+◌, ◌-◌, ◌<◌, ◌≤◌, ◌^◌, Bool, true, false, ◌||◌, cond, List, [], ◌∷◌, length, map, Option, Some, None, refl, sym, ap, ◌∙◌, subst, arith}
use Rattle.std.specs.Prelude.{nat_le, nat_lt, slice_get}
use Rattle.std.proofs.lemmas.Bool.{le-leb}
use Rattle.std.proofs.lemmas.List.{length-map}
use Rattle.dl_entry.specs.declared.End.{End}
use Rattle.dl_entry.specs.declared.Request.{Request}
use Rattle.dl_entry.specs.declared.Why.{Why}
use Rattle.spec_isa.specs.declared.thread.Parts.{Parts}
use Rattle.spec_kernel.specs.Interrupts.{takes_interrupt, interrupted}
use Rattle.spec_log.specs.declared.Interrupt.{Interrupt}
use Rattle.spec_log.specs.declared.LogParts.{LogParts}
use Rattle.spec_log.proofs.Threads.{threads-few}
use Rattle.spec_play.specs.declared.used.Used.{Used}
use Rattle.spec_play.specs.declared.WalkEnd.{WalkEnd}
use Rattle.spec_play.specs.Plays.{Played, play_one, plays}
use Rattle.spec_play.specs.Resuming.{IsBounded}
use Rattle.spec_play.specs.States.{State, state_of}
use Rattle.spec_play.specs.Turns.{Ended}
use Rattle.spec_play.specs.Verdicts.{interrupt_at}
use Rattle.spec_play.specs.Walks.{Walked, walked_at, is_looked_at}
use Rattle.spec_play.proofs.Going.{over-stays}
use Rattle.spec_sphere.specs.promises.Sound.{IsSoundIf}
use Rattle.spec_tail.specs.Later.{dmas_passed, has_more_left, log_later, play_later, raised_at, walked_left}
use Rattle.spec_tail.specs.Playing.{Raised, led_by, raised_first, raised, uncounted, begun_play, log_since, play, walked, walked_since}
use Rattle.spec_tail.specs.Promise.{told}
use Rattle.spec_tail.specs.Tails.{Tail, IsTail, IsRequest}
use Rattle.spec_tail.proofs.Later.{tails-play-later, state-later, passed-later}
use Rattle.dl_serial.specs.Starts.{CanGoOn}
use Rattle.dl_serial.specs.Tails.{commits_at, played_from, state_after, state_from_base, state_since, used_in_tail}
use Rattle.dl_serial.proofs.Ends.{walk-ends}

-- ---- a play that has ended

stays : (log : LogParts) (y : Played) (how : End) (n : ℕ) → y.now ≡ Ended how → plays log y n ≡ y
stays log y how zero over = refl
stays log y how (suc n) over = ap (play_one log) (stays log y how n over) ∙ over-stays log y how over

or_true : (b : Bool) → (b || true) ≡ true
or_true true = refl
or_true false = refl

always_looked : (log : LogParts) (i : ℕ) → is_looked_at log log.count i ≡ true
always_looked log i =
    let all : nat_le log.count log.count ≡ true = le-leb log.count log.count (omega arith) in
    ap (λ (b : Bool). nat_lt i log.count || b) all ∙ or_true (nat_lt i log.count)

abbrev stopped_at : State → Walked
stopped_at s = record { commits = []; threads = s.threads; memory = s.memory; request = s.request; end = WalkEnd.Ended (End.Diverged 0 Why.Interrupt) }

-- if an interrupt is refused at the base, the walk has no commits and diverges at once
pub stopped-walk : (log : LogParts) (s : State) → walked_at log log.count (played_from log s true) ≡ stopped_at s
stopped-walk log s =
    ap (walked_at log log.count) (stays log (begun_play log s true) (End.Diverged 0 Why.Interrupt) log.count refl)
    ∙ ap (λ (b : Bool). record (stopped_at s) { end = cond b (WalkEnd.Ended (End.Diverged 0 Why.Interrupt)) (WalkEnd.Reached (s.commits + 0)) }) (always_looked log (s.commits + 0))

-- if an interrupt is refused at the base, the play stays in the state it began in
pub stopped-state : (log : LogParts) (s : State) → state_of (played_from log s true) ≡ s
stopped-state log s =
    let none : s.commits + 0 ≡ s.commits = omega arith in
    ap state_of (stays log (begun_play log s true) (End.Diverged 0 Why.Interrupt) log.count refl)
    ∙ ap (λ (n : ℕ). record s { commits = n }) none

-- ---- the state at the base

abbrev AreNone : List Parts → Type 0
AreNone ts = (k : ℕ) (t : Parts) → slice_get ts k ≡ Some t → t.commits ≡ 0

none_first : (p : Parts) (ps : List Parts) → p.commits ≡ 0 → AreNone ps → AreNone (p ∷ ps)
none_first p ps none others zero t is = (let h : p ≡ t = cc in sym (ap (λ (x : Parts). x.commits) h) ∙ none)
none_first p ps none others (suc k) t is = others k t is

none_uncounted : (ps : List Parts) → AreNone (map uncounted ps)
none_uncounted [] k t is = absurd cc
none_uncounted (p ∷ ps) k t is = none_first (uncounted p) (map uncounted ps) refl (none_uncounted ps) k t is

none_taken : (value : ℕ) (p : Parts) (ps : List Parts) (rest : Raised) (b : Bool) → p.commits ≡ 0 → AreNone ps → AreNone rest.threads
    → AreNone (cond b (led_by (interrupted value p) 1 rest) (record { threads = p ∷ ps; count = 0; refused = true })).threads
none_taken value p ps rest true none before after = none_first (interrupted value p) rest.threads none after
none_taken value p ps rest false none before after = none_first p ps none before

none_led : (o : Option ℕ) (p : Parts) (ps : List Parts) (rest : Raised) → p.commits ≡ 0 → AreNone ps → AreNone rest.threads → AreNone (raised_first o p ps rest).threads
none_led None p ps rest none before after = none_first p rest.threads none after
none_led (Some value) p ps rest none before after = none_taken value p ps rest (takes_interrupt p) none before after

none_raised : (xs : List Interrupt) (k : ℕ) (ps : List Parts) → AreNone (raised xs k (map uncounted ps)).threads
none_raised xs k [] = λ i t is. absurd cc
none_raised xs k (p ∷ ps) =
    none_led (interrupt_at xs k 0) (uncounted p) (map uncounted ps) (raised xs (suc k) (map uncounted ps)) refl (none_uncounted ps) (none_raised xs (suc k) ps)

sound_request : (size : ℕ) (o : Option Request) → IsRequest size o → IsSoundIf size o
sound_request size None is = tt
sound_request size (Some request) is = record { aligned = is.aligned; inside = is.inside; few = is.few }

-- the log for later can be played on from there
pub base-goes-on : (t : Tail) (dmas : ℕ) → IsTail t → CanGoOn (log_later t) (state_from_base t (raised_at t) dmas)
base-goes-on t dmas is =
    record {
      bounded = record {
        commits = omega arith;
        threads = λ k p at. (let none = none_raised (log_since t).interrupts 0 t.threads k p at in omega (arith, none));
        interrupts = omega arith;
      };
      request = sound_request (length t.memory) t.request is.request;
    }

-- no more are taken there than there are threads
few_led : (o : Option ℕ) (p : Parts) (ps : List Parts) (rest : Raised) (n : ℕ) → rest.count ≤ n → (raised_first o p ps rest).count ≤ suc n
few_led None p ps rest n few = omega (arith, few)
few_led (Some value) p ps rest n few = few_taken (takes_interrupt p) where
  few_taken : (b : Bool) → (cond b (led_by (interrupted value p) 1 rest) (record { threads = p ∷ ps; count = 0; refused = true })).count ≤ suc n
  few_taken true = omega (arith, few)
  few_taken false = omega arith

few_raised : (xs : List Interrupt) (k : ℕ) (ps : List Parts) → (raised xs k ps).count ≤ length ps
few_raised xs k [] = omega arith
few_raised xs k (p ∷ ps) = few_led (interrupt_at xs k p.commits) p ps (raised xs (suc k) ps) (length ps) (few_raised xs (suc k) ps)

-- ---- a state, counted from the recording's start

since_told : (t : Tail) (y : Played) → state_since t (state_of y) ≡ state_of (told t y)
since_told t y =
    let all : t.base + (y.progress.first + length y.progress.commits) ≡ t.base + y.progress.first + length y.progress.commits = omega arith in
    ap (λ (n : ℕ). record (state_of (told t y)) { commits = n }) all

-- ---- what a walk of the log for later is of the tail

module _ (t : Tail) (log : LogParts) (r : Raised) (dmas : ℕ) (s : State) (tail : IsTail t) (same_log : log ≡ log_later t) (same : r ≡ raised_at t) (passed : dmas ≡ dmas_passed t) (is : s ≡ state_from_base t r dmas) where
  at_base : s ≡ state_from_base t (raised_at t) (dmas_passed t)
  at_base = is ∙ ap (λ (x : Raised). state_from_base t x dmas) same ∙ ap (state_from_base t (raised_at t)) passed

  pub goes-on : CanGoOn log s
  goes-on =
      subst (λ (x : LogParts). CanGoOn x s) (sym same_log) (subst (CanGoOn (log_later t)) (sym at_base) (base-goes-on t (dmas_passed t) tail))

  played_later : played_from log s r.refused ≡ play_later t
  played_later =
      ap (λ (x : LogParts). played_from x s r.refused) same_log
      ∙ ap (λ (x : State). played_from (log_later t) x r.refused) at_base
      ∙ ap (λ (x : Raised). played_from (log_later t) (state_from_base t (raised_at t) (dmas_passed t)) x.refused) same

  pub later-walk : (v : Walked) (u : Used) (left : Bool) → v ≡ walked_at log log.count (played_from log s r.refused) → u ≡ (played_from log s r.refused).used → left ≡ has_more_left t u
      → walked_since t (walked_left left v) ≡ walked t
  later-walk v u left walk used more =
      ap (λ (b : Bool). walked_since t (walked_left b v)) (more ∙ ap (has_more_left t) (used ∙ ap (λ (y : Played). y.used) played_later))
      ∙ ap (λ (x : Walked). walked_since t (walked_left (has_more_left t (play_later t).used) x)) (walk ∙ ap (λ (x : LogParts). walked_at x x.count (played_from log s r.refused)) same_log ∙ ap (walked_at (log_later t) t.log.count) played_later)
      ∙ sym (tails-play-later t tail)

  pub later-ends : (end : WalkEnd) → end ≡ (walked_at log log.count (played_from log s r.refused)).end → commits_at end ≤ t.log.count
  later-ends end e =
      let first : s.commits ≡ 0 = ap (λ (x : State). x.commits) is in
      let count : log.count ≡ t.log.count = ap (λ (x : LogParts). x.count) same_log in
      let within = walk-ends log s r.refused first in
      let same = ap commits_at e in
      omega (arith, within, same, count)

  -- the state that it leaves is that of the tail's play, once all is counted as the tail does
  pub later-state : (after : State) → after ≡ state_of (played_from log s r.refused) → state_since t (record after { used = used_in_tail r.count dmas after.used }) ≡ state_after t
  later-state after left =
      ap (λ (x : State). state_since t (record x { used = used_in_tail r.count dmas x.used })) (left ∙ ap state_of played_later)
      ∙ ap (λ (x : Raised). state_since t (record (state_of (play_later t)) { used = used_in_tail x.count dmas (play_later t).used })) same
      ∙ ap (λ (n : ℕ). state_since t (record (state_of (play_later t)) { used = used_in_tail (raised_at t).count n (play_later t).used })) passed
      ∙ sym (ap (state_since t) (state-later t tail))
      ∙ since_told t (play t)

  pub later-passed : (after : State) → after ≡ state_of (played_from log s r.refused) → dmas ≤ after.used.dmas
  later-passed after left =
      let used : after.used.dmas ≡ (play_later t).used.dmas = ap (λ (x : State). x.used.dmas) (left ∙ ap state_of played_later) in
      let some = passed-later t tail in
      omega (arith, used, some, passed)

  pub later-few : (after : State) → IsBounded log after → r.count + after.used.interrupts < 2 ^ 32
  later-few after is_bounded =
      let first : r.count ≡ (raised_at t).count = ap (λ (x : Raised). x.count) same in
      let few = few_raised (log_since t).interrupts 0 (map uncounted t.threads) in
      let threads = length-map t.threads uncounted in
      let top = threads-few t.log.version t.log.threads tail.log.version in
      let most = tail.most in
      let count : log.count ≡ t.log.count = ap (λ (x : LogParts). x.count) same_log in
      let all = tail.commits in
      let interrupts = is_bounded.interrupts in
      let commits = is_bounded.commits in
      omega (arith, first, few, threads, top, most, count, all, interrupts, commits)
