-- After any number of commits of a play no bound is passed: the log's count, and of each thread's commits and of the
-- interrupts the number of commits that are done.
use Rattle.std.proofs.Common.{◌≡◌, ℕ, zero, suc, ◌+◌, ◌<◌, ◌≤◌, inl, inr, Bool, true, false, cond, List, [], ◌∷◌, ◌++◌, Option, Some, None, refl, sym, ap, ◌∙◌, subst, arith}
use Rattle.std.specs.Prelude.{slice_get, slice_set}
use Rattle.std.proofs.lemmas.Bool.{cases_lt}
use Rattle.std.proofs.lemmas.Option.{none-some}
use Rattle.dl_entry.specs.declared.Actor.{Actor}
use Rattle.dl_entry.specs.declared.End.{End}
use Rattle.dl_entry.specs.declared.Input.{Input}
use Rattle.dl_entry.specs.declared.Why.{Why}
use Rattle.spec_isa.specs.declared.thread.Parts.{Parts}
use Rattle.spec_isa.specs.declared.thread.Kind.{Kind}
use Rattle.spec_isa.specs.Runs.{Run, run}
use Rattle.spec_isa.specs.Threads.{started}
use Rattle.spec_log.specs.declared.LogParts.{LogParts}
use Rattle.spec_log.specs.Size.{size_in}
use Rattle.spec_kernel.specs.Needs.{Need, next_kind, need}
use Rattle.spec_kernel.specs.Records.{fits}
use Rattle.spec_kernel.specs.Interrupts.{takes_interrupt, interrupted}
use Rattle.spec_kernel.specs.Serving.{serve}
use Rattle.spec_play.specs.Effects.{Effect, chunk_effect, serial_effect, dma_commit}
use Rattle.spec_play.specs.Progress.{Progress, position, with_interrupt, with_input}
use Rattle.spec_play.specs.Spawned.{AreNew}
use Rattle.spec_play.specs.States.{state_after}
use Rattle.spec_play.specs.Resuming.{IsBounded, StatesAreBounded}
use Rattle.spec_play.specs.declared.used.Used.{Used}
use Rattle.spec_play.specs.Turns.{TurnOrEnd, Turn, TurnOfDma, Ended, now_at}
use Rattle.spec_play.specs.Verdicts.{LogVerdict, Goes, Fails, unless, interrupt_at, with_interrupted, ended, chunk_why, chunk_verdict, TakenRecord, given, serial_why, served_verdict, serial_verdict}
use Rattle.spec_play.specs.Transfers.{DmaVerdict, DmaGoes, DmaFails, dma_verdict}
use Rattle.spec_play.specs.Plays.{Played, opened, with_threads, settled, size_or_standard, thread_verdict, play_thread, dma_settled, play_turn, play_one, plays}
use Rattle.spec_play.proofs.Positions.{position-more}
use Rattle.spec_play.proofs.Going.{EndsOr, over-stays, plays-go, over-at}
use Rattle.spec_play.proofs.Threads.{run-keeps, serve-keeps}

-- ---- a commit that goes

-- it counts one commit more of its thread, which was t; what it spawns is new; and it takes at most one interrupt
record GoesOn (t : Parts) (u : Used) (e : Effect) (v : Used) : Type 0 where
  commits : e.thread.commits ≡ t.commits + 1
  fresh : AreNew e.spawned
  interrupts : v.interrupts ≤ suc u.interrupts

abbrev IfGoes : Parts → Used → LogVerdict → Type 0
IfGoes t u (Goes e v) = GoesOn t u e v
IfGoes t u (Fails why) = Unit {0}

unless_goes : (t : Parts) (u : Used) (o : Option Why) (v : LogVerdict) → IfGoes t u v → IfGoes t u (unless o v)
unless_goes t u None v goes = goes
unless_goes t u (Some why) v goes = tt

taken_goes : (t : Parts) (u v : Used) (e : Effect) (value : ℕ) (b : Bool) → v.interrupts ≡ u.interrupts → e.thread.commits ≡ t.commits + 1 → AreNew e.spawned
    → IfGoes t u (cond b (Goes (record e { thread = interrupted value e.thread }) (with_interrupt v)) (Fails Why.Interrupt))
taken_goes t u v e value true same commits fresh = record { commits = commits; fresh = fresh; interrupts = omega (arith, same) }
taken_goes t u v e value false same commits fresh = tt

interrupted_goes : (t : Parts) (u v : Used) (e : Effect) (o : Option ℕ) → v.interrupts ≡ u.interrupts → e.thread.commits ≡ t.commits + 1 → AreNew e.spawned → IfGoes t u (with_interrupted o e v)
interrupted_goes t u v e None same commits fresh = record { commits = commits; fresh = fresh; interrupts = omega (arith, same) }
interrupted_goes t u v e (Some value) same commits fresh = taken_goes t u v e value (takes_interrupt e.thread) same commits fresh

-- of a chunk
chunk_goes : (log : LogParts) (p : Progress) (u : Used) (k : ℕ) (t : Parts) (r : Run) → r.thread.commits ≡ t.commits → IfGoes t u (chunk_verdict log p u k r)
unfolding chunk_verdict
chunk_goes log p u k t r same =
    let e : Effect = chunk_effect k p.request r in
    unless_goes t u (chunk_why (size_in log (Actor.Thread k) r.thread.commits) r.n) (ended log k e u)
    (interrupted_goes t u u e (interrupt_at log.interrupts k e.thread.commits) refl (ap (λ (n : ℕ). n + 1) same) tt)

-- a record that is taken is no interrupt
abbrev SameInterrupts : Used → Option TakenRecord → Type 0
SameInterrupts u None = Unit {0}
SameInterrupts u (Some g) = g.used.interrupts ≡ u.interrupts

fitting_same : (u : Used) (r : Input) (b : Bool) → SameInterrupts u (cond b (Some (record { input = Some r; used = with_input u })) None)
fitting_same u r true = refl
fitting_same u r false = tt

given_same : (o : Option Need) (next : Option Input) (u : Used) → SameInterrupts u (given o next u)
given_same None next u = refl
given_same (Some need) None u = tt
given_same (Some need) (Some r) u = fitting_same u r (fits need r)

served_goes : (log : LogParts) (p : Progress) (u : Used) (k : ℕ) (ts : List Parts) (t : Parts) (m : List ℕ) (o : Option TakenRecord) → SameInterrupts u o → IfGoes t u (served_verdict log p k ts t m o)
served_goes log p u k ts t m None same = tt
served_goes log p u k ts t m (Some g) same =
    let e : Effect = serial_effect k (serve log.threads k ts p.request t m g.input) in
    let keeps = serve-keeps log.threads k ts p.request t m g.input in
    interrupted_goes t u g.used e (interrupt_at log.interrupts k e.thread.commits) same (ap (λ (n : ℕ). n + 1) keeps.commits) keeps.fresh

-- of a serial step
serial_goes : (log : LogParts) (p : Progress) (u : Used) (k : ℕ) (ts : List Parts) (t : Parts) (m : List ℕ) → IfGoes t u (serial_verdict log p u k ts t m)
unfolding serial_verdict
serial_goes log p u k ts t m =
    let next : Option Input = slice_get log.inputs u.inputs in
    unless_goes t u (serial_why (size_in log (Actor.Thread k) t.commits)) (served_verdict log p k ts t m (given (need t m) next u))
    (served_goes log p u k ts t m (given (need t m) next u) (given_same (need t m) next u))

verdict_goes : (log : LogParts) (y : Played) (k : ℕ) (t : Parts) (o : Option Kind) → IfGoes t y.used (thread_verdict log y k t o)
verdict_goes log y k t None =
    let n = size_or_standard log k t.commits in
    chunk_goes log y.progress y.used k t (run y.memory t n) (run-keeps y.memory t n)
verdict_goes log y k t (Some kind) = serial_goes log y.progress y.used k y.threads t y.memory

-- ---- its threads

abbrev AreBelow : (n : ℕ) → List Parts → Type 0
AreBelow n ts = (k : ℕ) (t : Parts) → slice_get ts k ≡ Some t → t.commits ≤ n

new_below : (n : ℕ) (ts : List Parts) → AreNew ts → AreBelow n ts
new_below n [] new k t is = absurd (none-some t is)
new_below n (x ∷ ts) new zero t is = let same : x ≡ t = cc in let none = new.0.commits in let e = ap (λ (y : Parts). y.commits) same in omega (arith, none, e)
new_below n (x ∷ ts) new (suc k) t is = new_below n ts new.1 k t is

then_new : (n : ℕ) (ts spawned : List Parts) → AreNew spawned → AreBelow n ts → AreBelow (suc n) (ts ++ spawned)
then_new n [] spawned new below k t is = new_below (suc n) spawned new k t is
then_new n (x ∷ ts) spawned new below zero t is = let l = below 0 t is in omega (arith, l)
then_new n (x ∷ ts) spawned new below (suc k) t is = then_new n ts spawned new (λ j u e. below (suc j) u e) k t is

with_below : (n : ℕ) (ts spawned : List Parts) (k : ℕ) (t : Parts) → t.commits ≤ suc n → AreNew spawned → AreBelow n ts → AreBelow (suc n) (slice_set ts k t ++ spawned)
with_below n [] spawned k t few new below j x is = new_below (suc n) spawned new j x is
with_below n (y ∷ ts) spawned zero t few new below zero x is = let same : t ≡ x = cc in let e = ap (λ (z : Parts). z.commits) same in omega (arith, few, e)
with_below n (y ∷ ts) spawned zero t few new below (suc j) x is = then_new n ts spawned new (λ i u e. below (suc i) u e) j x is
with_below n (y ∷ ts) spawned (suc k) t few new below zero x is = let l = below 0 x is in omega (arith, l)
with_below n (y ∷ ts) spawned (suc k) t few new below (suc j) x is = with_below n ts spawned k t few new (λ i u e. below (suc i) u e) j x is

-- ---- one commit more

record IsPlayBounded (log : LogParts) (y : Played) : Type 0 where
  commits : position y.progress ≤ log.count
  threads : AreBelow (position y.progress) y.threads
  interrupts : y.used.interrupts ≤ position y.progress

over_bounded : (log : LogParts) (y : Played) (how : End) → IsPlayBounded log y → IsPlayBounded log (record y { now = Ended how })
over_bounded log y how b = record { commits = b.commits; threads = b.threads; interrupts = b.interrupts }

settled_bounded : (log : LogParts) (y : Played) (k : ℕ) (t : Parts) (v : LogVerdict) → slice_get y.threads k ≡ Some t → position y.progress < log.count → IfGoes t y.used v → IsPlayBounded log y → IsPlayBounded log (settled log y k v)
settled_bounded log y k t (Fails why) is left goes b = over_bounded log y (End.Diverged (position y.progress) why) b
settled_bounded log y k t (Goes e u) is left goes b =
    let n = position-more y.progress e.commit in
    let own = b.threads k t is in
    let one = goes.commits in
    record {
      commits = omega (arith, n, left);
      threads = subst (λ (i : ℕ). AreBelow i (with_threads k e y.threads)) (sym n)
          (with_below (position y.progress) y.threads e.spawned k e.thread (omega (arith, own, one)) goes.fresh b.threads);
      interrupts = let before = b.interrupts in let more = goes.interrupts in omega (arith, n, before, more);
    }

dma_bounded : (log : LogParts) (y : Played) (v : DmaVerdict) → position y.progress < log.count → IsPlayBounded log y → IsPlayBounded log (dma_settled log y v)
dma_bounded log y (DmaFails why) left b = over_bounded log y (End.Diverged (position y.progress) why) b
dma_bounded log y (DmaGoes words) left b =
    let n = position-more y.progress dma_commit in
    record {
      commits = omega (arith, n, left);
      threads = λ k t is. (let l = b.threads k t is in omega (arith, n, l));
      interrupts = let before = b.interrupts in omega (arith, n, before);
    }

thread_bounded : (log : LogParts) (y : Played) (k : ℕ) (o : Option Parts) → slice_get y.threads k ≡ o → position y.progress < log.count → IsPlayBounded log y → IsPlayBounded log (play_thread log y k o)
thread_bounded log y k None is left b = b
thread_bounded log y k (Some t) is left b =
    let kind = next_kind t y.memory in
    settled_bounded log y k t (thread_verdict log y k t kind) is left (verdict_goes log y k t kind) b

-- a turn is given only to a commit of the log
left_over : (log : LogParts) (p : Progress) (u : Used) (ts : List Parts) (now : TurnOrEnd) → now_at log p u ts ≡ now → ((how : End) → now ≡ Ended how → ⊥) → position p < log.count
unfolding now_at
left_over log p u ts now is going =
    elim (cases_lt (position p) log.count) [
      | inl left ↦ left
      | inr done ↦ let o = over-at log p u ts done in absurd (going o.0 (sym is ∙ o.1))
    ]

now_bounded : (log : LogParts) (y : Played) (now : TurnOrEnd) → now_at log y.progress y.used y.threads ≡ now → IsPlayBounded log y → IsPlayBounded log (play_turn log y now)
now_bounded log y (Ended how) is b = b
now_bounded log y TurnOfDma is b =
    dma_bounded log y (dma_verdict log y.progress y.used) (left_over log y.progress y.used y.threads TurnOfDma is (λ how e. cc)) b
now_bounded log y (Turn k) is b =
    thread_bounded log y k (slice_get y.threads k) refl (left_over log y.progress y.used y.threads (Turn k) is (λ how e. cc)) b

one_bounded : (log : LogParts) (y : Played) (i : ℕ) → EndsOr log y i → IsPlayBounded log y → IsPlayBounded log (play_one log y)
unfolding play_one
one_bounded log y i (inl over) b = subst (IsPlayBounded log) (sym (over-stays log y over.0 over.1)) b
one_bounded log y i (inr goes) b = now_bounded log y y.now goes.now b

opened_below : (memory : List ℕ) (entry : ℕ) (log : LogParts) → AreBelow 0 (opened log memory entry).threads
opened_below memory entry log zero t is = let same : started entry ≡ t = cc in let e = ap (λ (x : Parts). x.commits) same in omega (arith, e)
opened_below memory entry log (suc k) t is = absurd (none-some t is)

plays_bounded : (log : LogParts) (memory : List ℕ) (entry i : ℕ) → IsPlayBounded log (plays log (opened log memory entry) i)
plays_bounded log memory entry zero = record { commits = omega arith; threads = opened_below memory entry log; interrupts = omega arith }
plays_bounded log memory entry (suc i) = one_bounded log (plays log (opened log memory entry) i) i (plays-go log memory entry i) (plays_bounded log memory entry i)

-- where a play is after any number of commits, or where it has ended before, it passes none of its bounds
pub after-bounded : (log : LogParts) (memory : List ℕ) (entry i : ℕ) → IsBounded log (state_after log memory entry i)
after-bounded log memory entry i =
    let b = plays_bounded log memory entry i in record { commits = b.commits; threads = b.threads; interrupts = b.interrupts }

-- a state of a play passes none of its bounds
pub states_are_bounded : StatesAreBounded
states_are_bounded log s is = subst (IsBounded log) (sym is.state) (after-bounded log is.memory is.entry is.commits)
