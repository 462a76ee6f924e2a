-- Each thread counts its commits, so the size that a log gives for a commit is looked up by the commits of its thread before it.
use Rattle.std.proofs.Common.{◌≡◌, ◌≢◌, ℕ, zero, suc, ◌+◌, ◌≤◌, inl, inr, Bool, true, false, cond, List, [], ◌∷◌, ◌++◌, length, Option, Some, None, refl, sym, ap, ◌∙◌, subst, arith}
use Rattle.std.specs.Prelude.{slice_get, slice_set, nat_lt, nat_eq, ◌%◌, ◌&&◌, if◌then◌else◌}
use Rattle.std.proofs.lemmas.Bool.{cases_eq, eq-eqb, ne_eqb, and_parts, ltb-true}
use Rattle.dl_entry.specs.declared.Actor.{Actor}
use Rattle.dl_entry.specs.declared.Commit.{Commit}
use Rattle.dl_entry.specs.declared.Input.{Input}
use Rattle.dl_entry.specs.declared.Request.{Request}
use Rattle.dl_entry.specs.declared.Why.{Why}
use Rattle.spec_isa.specs.declared.thread.Parts.{Parts}
use Rattle.spec_isa.specs.declared.thread.Kind.{Kind}
use Rattle.spec_isa.specs.declared.operation.Operation.{Operation}
use Rattle.spec_isa.specs.Runs.{Run, run}
use Rattle.spec_log.specs.declared.LogParts.{LogParts}
use Rattle.spec_log.specs.Size.{is_thread, size_in}
use Rattle.spec_kernel.specs.Interrupts.{takes_interrupt, interrupted}
use Rattle.spec_kernel.specs.Needs.{Need, need, next_kind, next_operation, number_of, a0, a1, a2, cut}
use Rattle.spec_kernel.specs.Numbers.{call_exit, call_spawn, call_handler, call_iret, call_dma, call_self, call_yield, call_ended}
use Rattle.spec_kernel.specs.Answers.{unknown_call, bad_buffer, refused}
use Rattle.spec_kernel.specs.Calls.{Called, called, gives, with_result, exit, spawned, spawn, set_handler, returned, iret, request_dma, is_dma_buffer, has_ended}
use Rattle.spec_kernel.specs.Serving.{StepResult, outside_called, inside_called, is_outside, device_loaded, device_stored, serve_kind, serve}
use Rattle.spec_play.specs.Effects.{Effect, chunk_effect, serial_effect}
use Rattle.spec_play.specs.Progress.{Progress, with_interrupt}
use Rattle.spec_play.specs.declared.used.Used.{Used}
use Rattle.spec_play.specs.Turns.{TurnOrEnd, Turn, TurnOfDma, Ended}
use Rattle.spec_play.specs.Verdicts.{LogVerdict, Goes, Fails, unless, interrupt_at, with_interrupted, ended, chunk_why, chunk_verdict, serial_why, TakenRecord, given, served_verdict, serial_verdict}
use Rattle.spec_play.specs.Transfers.{DmaGoes}
use Rattle.spec_play.specs.Plays.{Played, settled, size_or_standard, thread_verdict, play_thread, dma_settled, play_turn, play_one, plays}
use Rattle.spec_strata.proofs.Shares.Steps.{get-set_same, get-set_other}
use Rattle.spec_strata.proofs.Plays.Canonical.{plays-shift}
use Rattle.spec_strata.proofs.Plays.Verdicts.{run-commits}
use Rattle.spec_strata.proofs.Images.Following.{ThreadDoes, Does, Step, Follows}
use Rattle.spec_strata.proofs.Images.Going.{actor_in}

-- ---- what a step leaves of a thread's number

-- new threads have no commits
abbrev pub AreFresh : List Parts → Type 0
AreFresh [] = Unit {0}
AreFresh (t ∷ ts) = (t.commits ≡ 0) × AreFresh ts

-- with the new threads there are no more than there may be, if there were no more before
abbrev pub StayFew : (most : ℕ) → List Parts → (new : List Parts) → Type 0
StayFew most ts new = length ts ≤ most → length ts + length new ≤ most

-- the thread keeps its number, and new threads begin at 0 and are not too many
record CallKept (most : ℕ) (ts : List Parts) (t : Parts) (c : Called) : Type 0 where
  same : c.thread.commits ≡ t.commits
  fresh : AreFresh c.spawned
  few : StayFew most ts c.spawned

record StepKept (most : ℕ) (ts : List Parts) (t : Parts) (v : StepResult) : Type 0 where
  same : v.thread.commits ≡ t.commits
  fresh : AreFresh v.spawned
  few : StayFew most ts v.spawned

either : {A : Type 0} (P : A → Type 0) (b : Bool) (x y : A) → P x → P y → P (if b then x else y)
either P true x y p q = p
either P false x y p q = q

either-if : {A : Type 0} (P : A → Type 0) (b : Bool) (x y : A) → (b ≡ true → P x) → P y → P (if b then x else y)
either-if P true x y p q = p refl
either-if P false x y p q = q

-- an answer changes nothing else
answered : (most : ℕ) (ts : List Parts) (request : Option Request) (t : Parts) (answer : ℕ) → CallKept most ts t (gives request t answer)
answered most ts request t answer = record { same = refl; fresh = tt; few = λ l. omega (arith, l) }

dma-kept : (most : ℕ) (ts : List Parts) (size : ℕ) (request : Option Request) (t : Parts) → CallKept most ts t (request_dma size request t)
dma-kept most ts size None t =
    either (CallKept most ts t) (is_dma_buffer size (a0 t) (cut (a1 t))) (gives (Some (record { buf = a0 t; len = cut (a1 t) })) t 0) (gives None t bad_buffer)
    (answered most ts (Some (record { buf = a0 t; len = cut (a1 t) })) t 0) (answered most ts None t bad_buffer)
dma-kept most ts size (Some request) t = answered most ts (Some request) t (if is_dma_buffer size (a0 t) (cut (a1 t)) then refused else bad_buffer)

fresh-one : (t : Parts) → t.commits ≡ 0 → AreFresh (t ∷ [])
fresh-one t e = (e, tt)

spawn-kept : (most : ℕ) (ts : List Parts) (request : Option Request) (t : Parts) → CallKept most ts t (spawn most ts request t)
spawn-kept most ts request t =
    let new : Called = record { thread = with_result (length ts) t; spawned = spawned (a0 t) (a1 t) (a2 t) ∷ []; request = request } in
    either-if (CallKept most ts t) (nat_lt (length ts) most && nat_eq (a0 t % 4) 0) new (gives request t refused)
    (λ e. record {
      same = refl;
      fresh = fresh-one (spawned (a0 t) (a1 t) (a2 t)) refl;
      few = λ l. let room = ltb-true (length ts) most (and_parts (nat_lt (length ts) most) (nat_eq (a0 t % 4) 0) e).0 in omega (arith, room);
    })
    (answered most ts request t refused)

handler-kept : (most : ℕ) (ts : List Parts) (request : Option Request) (t : Parts) → CallKept most ts t (set_handler request t)
handler-kept most ts request t =
    let new : Called = record { thread = with_result 0 (record t { handler = a0 t }); spawned = []; request = request } in
    either (CallKept most ts t) (nat_eq (a0 t % 4) 0) new (gives request t refused) (record { same = refl; fresh = tt; few = λ l. omega (arith, l) }) (answered most ts request t refused)

iret-kept : (most : ℕ) (ts : List Parts) (request : Option Request) (t : Parts) → CallKept most ts t (iret request t)
iret-kept most ts request t =
    let new : Called = record { thread = returned t; spawned = []; request = request } in
    either (CallKept most ts t) t.mask new (gives request t refused) (record { same = refl; fresh = tt; few = λ l. omega (arith, l) }) (answered most ts request t refused)

called-kept : (most size number : ℕ) (ts : List Parts) (request : Option Request) (t : Parts) → CallKept most ts t (called most size number ts request t)
unfolding called
called-kept most size number ts request t =
    let P : Called → Type 0 = CallKept most ts t in
    let is : ℕ → Bool = (λ n. nat_eq (number_of t) n) in
    let ended : Called = gives request t (has_ended (slice_get ts (a0 t))) in
    let c8 : Called = if is call_ended then ended else gives request t unknown_call in
    let c7 : Called = if is call_yield then gives request t 0 else c8 in
    let c6 : Called = if is call_self then gives request t number else c7 in
    let c5 : Called = if is call_dma then request_dma size request t else c6 in
    let c4 : Called = if is call_iret then iret request t else c5 in
    let c3 : Called = if is call_handler then set_handler request t else c4 in
    let c2 : Called = if is call_spawn then spawn most ts request t else c3 in
    let k8 : CallKept most ts t c8 = either P (is call_ended) ended (gives request t unknown_call) (answered most ts request t (has_ended (slice_get ts (a0 t)))) (answered most ts request t unknown_call) in
    let k7 : CallKept most ts t c7 = either P (is call_yield) (gives request t 0) c8 (answered most ts request t 0) k8 in
    let k6 : CallKept most ts t c6 = either P (is call_self) (gives request t number) c7 (answered most ts request t number) k7 in
    let k5 : CallKept most ts t c5 = either P (is call_dma) (request_dma size request t) c6 (dma-kept most ts size request t) k6 in
    let k4 : CallKept most ts t c4 = either P (is call_iret) (iret request t) c5 (iret-kept most ts request t) k5 in
    let k3 : CallKept most ts t c3 = either P (is call_handler) (set_handler request t) c4 (handler-kept most ts request t) k4 in
    let k2 : CallKept most ts t c2 = either P (is call_spawn) (spawn most ts request t) c3 (spawn-kept most ts request t) k3 in
    either P (is call_exit) (exit request t) c2 (record { same = refl; fresh = tt; few = λ l. omega (arith, l) }) k2

outside-kept : (most : ℕ) (ts : List Parts) (n : Option Need) (request : Option Request) (t : Parts) (input : Option Input) → StepKept most ts t (outside_called n request t input)
outside-kept most ts n request t None = record { same = refl; fresh = tt; few = λ l. omega (arith, l) }
outside-kept most ts n request t (Some r) = record { same = refl; fresh = tt; few = λ l. omega (arith, l) }

loaded-kept : (most : ℕ) (ts : List Parts) (request : Option Request) (t : Parts) (p : Operation) (input : Option Input) → StepKept most ts t (device_loaded request t p input)
loaded-kept most ts request t (Operation.Go rd value pc) input = record { same = refl; fresh = tt; few = λ l. omega (arith, l) }
loaded-kept most ts request t (Operation.Stop kind) input = record { same = refl; fresh = tt; few = λ l. omega (arith, l) }
loaded-kept most ts request t (Operation.Load op rd a) None = record { same = refl; fresh = tt; few = λ l. omega (arith, l) }
loaded-kept most ts request t (Operation.Load op rd a) (Some r) = record { same = refl; fresh = tt; few = λ l. omega (arith, l) }
loaded-kept most ts request t (Operation.Store op a v) input = record { same = refl; fresh = tt; few = λ l. omega (arith, l) }
loaded-kept most ts request t (Operation.LoadReserved rd a) input = record { same = refl; fresh = tt; few = λ l. omega (arith, l) }
loaded-kept most ts request t (Operation.StoreConditional rd a v) input = record { same = refl; fresh = tt; few = λ l. omega (arith, l) }
loaded-kept most ts request t (Operation.Amo op rd a v) input = record { same = refl; fresh = tt; few = λ l. omega (arith, l) }

stored-kept : (most : ℕ) (ts : List Parts) (request : Option Request) (t : Parts) (p : Operation) → StepKept most ts t (device_stored request t p)
stored-kept most ts request t (Operation.Go rd value pc) = record { same = refl; fresh = tt; few = λ l. omega (arith, l) }
stored-kept most ts request t (Operation.Stop kind) = record { same = refl; fresh = tt; few = λ l. omega (arith, l) }
stored-kept most ts request t (Operation.Load op rd a) = record { same = refl; fresh = tt; few = λ l. omega (arith, l) }
stored-kept most ts request t (Operation.Store op a v) = record { same = refl; fresh = tt; few = λ l. omega (arith, l) }
stored-kept most ts request t (Operation.LoadReserved rd a) = record { same = refl; fresh = tt; few = λ l. omega (arith, l) }
stored-kept most ts request t (Operation.StoreConditional rd a v) = record { same = refl; fresh = tt; few = λ l. omega (arith, l) }
stored-kept most ts request t (Operation.Amo op rd a v) = record { same = refl; fresh = tt; few = λ l. omega (arith, l) }

kind-kept : (most : ℕ) (o : Option Kind) (number : ℕ) (ts : List Parts) (request : Option Request) (t : Parts) (m : List ℕ) (input : Option Input) → StepKept most ts t (serve_kind most o number ts request t m input)
kind-kept most None number ts request t m input = record { same = refl; fresh = tt; few = λ l. omega (arith, l) }
kind-kept most (Some Kind.Call) number ts request t m input =
    let c = called-kept most (length m) number ts request t in
    either (StepKept most ts t) (is_outside t) (outside_called (need t m) request t input) (inside_called (called most (length m) number ts request t)) (outside-kept most ts (need t m) request t input) (record { same = c.same; fresh = c.fresh; few = c.few })
kind-kept most (Some Kind.Break) number ts request t m input = record { same = refl; fresh = tt; few = λ l. omega (arith, l) }
kind-kept most (Some Kind.DeviceLoad) number ts request t m input = loaded-kept most ts request t (next_operation t m) input
kind-kept most (Some Kind.DeviceStore) number ts request t m input = stored-kept most ts request t (next_operation t m)
kind-kept most (Some (Kind.Fault cause)) number ts request t m input = record { same = refl; fresh = tt; few = λ l. omega (arith, l) }

serve-kept : (most number : ℕ) (ts : List Parts) (request : Option Request) (t : Parts) (m : List ℕ) (input : Option Input) → StepKept most ts t (serve most number ts request t m input)
unfolding serve
serve-kept most number ts request t m input = kind-kept most (next_kind t m) number ts request t m input

-- ---- what a commit leaves of it

abbrev pub IsOneMore : (most : ℕ) → List Parts → Parts → LogVerdict → Type 0
IsOneMore most ts t (Goes e u) = (e.thread.commits ≡ suc t.commits) × AreFresh e.spawned × StayFew most ts e.spawned
IsOneMore most ts t (Fails why) = Unit {0}

unless-more : (most : ℕ) (ts : List Parts) (t : Parts) (o : Option Why) (v : LogVerdict) → IsOneMore most ts t v → IsOneMore most ts t (unless o v)
unless-more most ts t None v h = h
unless-more most ts t (Some why) v h = tt

taken-more : (most : ℕ) (ts : List Parts) (t : Parts) (value : ℕ) (e : Effect) (u : Used) (b : Bool) → IsOneMore most ts t (Goes e u)
    → IsOneMore most ts t (cond b (Goes (record e { thread = interrupted value e.thread }) (with_interrupt u)) (Fails Why.Interrupt))
taken-more most ts t value e u true h = h
taken-more most ts t value e u false h = tt

interrupted-more : (most : ℕ) (ts : List Parts) (t : Parts) (o : Option ℕ) (e : Effect) (u : Used) → IsOneMore most ts t (Goes e u) → IsOneMore most ts t (with_interrupted o e u)
interrupted-more most ts t None e u h = h
interrupted-more most ts t (Some value) e u h = taken-more most ts t value e u (takes_interrupt e.thread) h

chunk-more : (log : LogParts) (p : Progress) (u : Used) (k : ℕ) (ts : List Parts) (t : Parts) (r : Run) → r.thread.commits ≡ t.commits → IsOneMore log.threads ts t (chunk_verdict log p u k r)
unfolding chunk_verdict
chunk-more log p u k ts t r e =
    let f : Effect = chunk_effect k p.request r in
    unless-more log.threads ts t (chunk_why (size_in log (Actor.Thread k) r.thread.commits) r.n) (ended log k f u)
    (interrupted-more log.threads ts t (interrupt_at log.interrupts k f.thread.commits) f u (omega (arith, e), tt, λ l. omega (arith, l)))

served-more : (log : LogParts) (p : Progress) (k : ℕ) (ts : List Parts) (t : Parts) (m : List ℕ) (o : Option TakenRecord) → IsOneMore log.threads ts t (served_verdict log p k ts t m o)
served-more log p k ts t m None = tt
served-more log p k ts t m (Some g) =
    let s = serve-kept log.threads k ts p.request t m g.input in
    let same = s.same in
    let f : Effect = serial_effect k (serve log.threads k ts p.request t m g.input) in
    interrupted-more log.threads ts t (interrupt_at log.interrupts k f.thread.commits) f g.used (omega (arith, same), s.fresh, s.few)

serial-more : (log : LogParts) (p : Progress) (u : Used) (k : ℕ) (ts : List Parts) (t : Parts) (m : List ℕ) → IsOneMore log.threads ts t (serial_verdict log p u k ts t m)
unfolding serial_verdict
serial-more log p u k ts t m =
    unless-more log.threads ts t (serial_why (size_in log (Actor.Thread k) t.commits)) (served_verdict log p k ts t m (given (need t m) (slice_get log.inputs u.inputs) u))
    (served-more log p k ts t m (given (need t m) (slice_get log.inputs u.inputs) u))

-- a commit that goes is counted by its thread, and new threads have none and aren't too many
pub verdict-more : (log : LogParts) (y : Played) (k : ℕ) (t : Parts) (o : Option Kind) → IsOneMore log.threads y.threads t (thread_verdict log y k t o)
verdict-more log y k t None =
    let n : ℕ = size_or_standard log k t.commits in
    chunk-more log y.progress y.used k y.threads t (run y.memory t n) (run-commits y.memory t n)
verdict-more log y k t (Some kind) = serial-more log y.progress y.used k y.threads t y.memory

-- ---- the numbers of all threads

-- how many commits a thread counts, none if it isn't there
abbrev pub commits_at : List Parts → (thread : ℕ) → ℕ
commits_at ts k = elim (slice_get ts k) [ None ↦ 0 | Some t ↦ t.commits ]

at-same : (ts us : List Parts) (k : ℕ) → slice_get us k ≡ slice_get ts k → commits_at us k ≡ commits_at ts k
at-same ts us k e = ap (λ (o : Option Parts). elim o [ None ↦ 0 | Some t ↦ t.commits ]) e

-- the number of commits of a thread that is there is the one that it counts
pub at-thread : (ts : List Parts) (k : ℕ) (t : Parts) → slice_get ts k ≡ Some t → commits_at ts k ≡ t.commits
at-thread ts k t e = ap (λ (o : Option Parts). elim o [ None ↦ 0 | Some t ↦ t.commits ]) e

at-fresh : (ts : List Parts) (k : ℕ) → AreFresh ts → commits_at ts k ≡ 0
at-fresh [] k fresh = refl
at-fresh (t ∷ ts) zero fresh = fresh.0
at-fresh (t ∷ ts) (suc k) fresh = at-fresh ts k fresh.1

-- new threads after the others change no number
at-with : (ts us : List Parts) (k : ℕ) → AreFresh us → commits_at (ts ++ us) k ≡ commits_at ts k
at-with [] us k fresh = at-fresh us k fresh
at-with (t ∷ ts) us zero fresh = refl
at-with (t ∷ ts) us (suc k) fresh = at-with ts us k fresh

-- ---- each thread's commits

-- those of thread k, in their order
abbrev pub own : (thread : ℕ) → List Commit → List Commit
own k [] = []
own k (c ∷ cs) = if is_thread k c.actor then c ∷ own k cs else own k cs

thread-is : (k j : ℕ) → j ≡ k → is_thread k (Actor.Thread j) ≡ true
thread-is k j e = eq-eqb j k e

thread-isnt : (k j : ℕ) → j ≢ k → is_thread k (Actor.Thread j) ≡ false
thread-isnt k j ne = ne_eqb j k ne

-- a first commit that is thread k's comes first among its own commits
pub own-is : (k : ℕ) (c : Commit) (cs : List Commit) → is_thread k c.actor ≡ true → own k (c ∷ cs) ≡ c ∷ own k cs
own-is k c cs e = ap (λ (b : Bool). if b then c ∷ own k cs else own k cs) e

-- a first commit that isn't thread k's is left out of its own commits
pub own-isnt : (k : ℕ) (c : Commit) (cs : List Commit) → is_thread k c.actor ≡ false → own k (c ∷ cs) ≡ own k cs
own-isnt k c cs e = ap (λ (b : Bool). if b then c ∷ own k cs else own k cs) e

-- what a step makes of the number of thread k, whose commit it is or isn't
pub record Counted (log : LogParts) (y : Played) (k : ℕ) (c : Commit) : Type 0 where
  pub mine : is_thread k c.actor ≡ true → commits_at (play_one log y).threads k ≡ suc (commits_at y.threads k)
  pub other : is_thread k c.actor ≡ false → commits_at (play_one log y).threads k ≡ commits_at y.threads k

one-by : (log : LogParts) (y : Played) (now : TurnOrEnd) → y.now ≡ now → play_one log y ≡ play_turn log y now
unfolding play_one
one-by log y now e = ap (play_turn log y) e

true-false : {A : Type 0} (b : Bool) → b ≡ true → b ≡ false → A
true-false true p q = cc
true-false false p q = cc

thread-counted : (log : LogParts) (y : Played) (j k : ℕ) (c : Commit) → y.now ≡ Turn j → ThreadDoes log y j c → Counted log y k c
thread-counted log y j k c turn d =
    let z : Played = settled log y j (Goes d.effect d.used) in
    let one : play_one log y ≡ z = one-by log y (Turn j) turn ∙ ap (play_thread log y j) d.there ∙ ap (settled log y j) d.goes in
    let more : IsOneMore log.threads y.threads d.thread (Goes d.effect d.used) = subst (IsOneMore log.threads y.threads d.thread) d.goes (verdict-more log y j d.thread (next_kind d.thread y.memory)) in
    let new : (i : ℕ) → commits_at (play_one log y).threads i ≡ commits_at (slice_set y.threads j d.effect.thread) i =
    (λ i. ap (λ (x : Played). commits_at x.threads i) one ∙ at-with (slice_set y.threads j d.effect.thread) d.effect.spawned i more.1) in
    let actor : is_thread k c.actor ≡ is_thread k (Actor.Thread j) = ap (is_thread k) d.actor in
    elim (cases_eq k j) [
      | inl e ↦ record {
        mine = λ is. new k ∙ ap (commits_at (slice_set y.threads j d.effect.thread)) e
            ∙ at-thread (slice_set y.threads j d.effect.thread) j d.effect.thread (get-set_same y.threads j d.effect.thread d.thread d.there)
            ∙ more.0 ∙ ap suc (sym (at-thread y.threads j d.thread d.there) ∙ ap (commits_at y.threads) (sym e));
        other = λ isnt. true-false (is_thread k c.actor) (actor ∙ thread-is k j (sym e)) isnt;
      }
      | inr ne ↦ record {
        mine = λ is. true-false (is_thread k c.actor) is (actor ∙ thread-isnt k j (λ e. ne (sym e)));
        other = λ isnt. new k ∙ at-same y.threads (slice_set y.threads j d.effect.thread) k (get-set_other y.threads j k d.effect.thread ne);
      }
    ]

counted-step : (log : LogParts) (y : Played) (now : TurnOrEnd) (k : ℕ) (c : Commit) → y.now ≡ now → Does log y now c → Counted log y k c
counted-step log y (Ended how) k c turn does = absurd does
counted-step log y (Turn j) k c turn does = thread-counted log y j k c turn does
counted-step log y TurnOfDma k c turn does =
    let one : play_one log y ≡ dma_settled log y (DmaGoes does.words) = one-by log y TurnOfDma turn ∙ ap (dma_settled log y) does.goes in
    record {
      mine = λ is. true-false (is_thread k c.actor) is (ap (is_thread k) (ap actor_in does.commit));
      other = λ isnt. ap (λ (x : Played). commits_at x.threads k) one;
    }

-- a step adds one to the count of the thread that does it, and changes no other count
pub step-counted : (log : LogParts) (y : Played) (k : ℕ) (c : Commit) → Step log y c → Counted log y k c
step-counted log y k c s = counted-step log y y.now k c refl s.does

-- at the end a thread has counted its commits
pub all-counted : (log : LogParts) (y : Played) (k : ℕ) (cs : List Commit) → Follows log y cs → commits_at (plays log y (length cs)).threads k ≡ commits_at y.threads k + length (own k cs)
all-counted log y k [] f = omega arith
all-counted log y k (c ∷ cs) f =
    let s = step-counted log y k c f.0 in
    let rest = all-counted log (play_one log y) k cs f.1 in
    let shift = ap (λ (x : Played). commits_at x.threads k) (plays-shift log y (length cs)) in
    by (is_thread k c.actor) refl s rest shift
  where
    by : (b : Bool) → is_thread k c.actor ≡ b → Counted log y k c → commits_at (plays log (play_one log y) (length cs)).threads k ≡ commits_at (play_one log y).threads k + length (own k cs)
        → commits_at (plays log (play_one log y) (length cs)).threads k ≡ commits_at (plays log y (suc (length cs))).threads k
        → commits_at (plays log y (suc (length cs))).threads k ≡ commits_at y.threads k + length (own k (c ∷ cs))
    by true is s rest shift = let a = s.mine is in let b = ap (λ (xs : List Commit). length xs) (own-is k c cs is) in omega (arith, a, b, rest, shift)
    by false is s rest shift = let a = s.other is in let b = ap (λ (xs : List Commit). length xs) (own-isnt k c cs is) in omega (arith, a, b, rest, shift)
