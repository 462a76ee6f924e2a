-- A commit of a play leaves no more threads than its log may have.
use Rattle.std.proofs.Common.{◌≡◌, ℕ, ◌+◌, ◌≤◌, Bool, true, false, ◌&&◌, eqb, cond, List, [], ◌∷◌, length, Option, Some, None, refl, sym, arith}
use Rattle.std.specs.Prelude.{slice_get, slice_set, nat_lt, ◌%◌}
use Rattle.std.proofs.lemmas.Bool.{ltb-true, true≢false}
use Rattle.std.proofs.lemmas.List.{length-append, length-set}
use Rattle.dl_entry.specs.declared.Actor.{Actor}
use Rattle.dl_entry.specs.declared.Input.{Input}
use Rattle.dl_entry.specs.declared.Request.{Request}
use Rattle.dl_entry.specs.declared.Why.{Why}
use Rattle.spec_isa.specs.declared.thread.Parts.{Parts}
use Rattle.spec_isa.specs.declared.thread.Kind.{Kind}
use Rattle.spec_isa.specs.declared.operation.Operation.{Operation}
use Rattle.spec_isa.specs.Runs.{Run, run}
use Rattle.spec_log.specs.declared.LogParts.{LogParts}
use Rattle.spec_log.specs.Size.{size_in}
use Rattle.spec_kernel.specs.Needs.{Need, next_kind, next_operation, need, a0, a1, a2, cut}
use Rattle.spec_kernel.specs.Answers.{bad_buffer, refused}
use Rattle.spec_kernel.specs.Interrupts.{takes_interrupt, interrupted}
use Rattle.spec_kernel.specs.Calls.{Called, gives, spawned, spawn, returned, with_result, set_handler, iret, request_dma, is_dma_buffer, called}
use Rattle.spec_kernel.specs.Serving.{StepResult, outside_called, inside_called, is_outside, device_loaded, device_stored, serve_kind, serve}
use Rattle.spec_play.specs.Effects.{Effect, chunk_effect, serial_effect}
use Rattle.spec_play.specs.Progress.{Progress, with_interrupt}
use Rattle.spec_play.specs.declared.used.Used.{Used}
use Rattle.spec_play.specs.Verdicts.{LogVerdict, Goes, Fails, unless, interrupt_at, chunk_why, serial_why, with_interrupted, ended, chunk_verdict, serial_verdict, served_verdict, TakenRecord, given}
use Rattle.spec_play.specs.Plays.{Played, with_threads, size_or_standard, thread_verdict}
use Rattle.spec_play.proofs.Threads.{any-call}

-- with these more they are no more than the most
abbrev pub AreFewMore : (most n : ℕ) → List Parts → Type 0
AreFewMore most n spawned = n ≤ most → n + length spawned ≤ most

none_more : (most n : ℕ) → AreFewMore most n []
none_more most n few = omega (arith, few)

either : {A : Type 0} (P : A → Type 0) (b : Bool) (x y : A) → (b ≡ true → P x) → P y → P (cond b x y)
either P true x y p q = p refl
either P false x y p q = q

both_true : (a b : Bool) → (a && b) ≡ true → a ≡ true
both_true true b e = refl
both_true false b e = absurd (true≢false (sym e))

-- ---- serial steps

abbrev CallSpawns : (most n : ℕ) → Called → Type 0
CallSpawns most n c = AreFewMore most n c.spawned

spawn_few : (most : ℕ) (ts : List Parts) (request : Option Request) (t : Parts) → CallSpawns most (length ts) (spawn most ts request t)
spawn_few most ts request t =
    either (CallSpawns most (length ts)) (nat_lt (length ts) most && eqb (a0 t % 4) 0)
    (record { thread = with_result (length ts) t; spawned = spawned (a0 t) (a1 t) (a2 t) ∷ []; request = request }) (gives request t refused)
    (λ e few. (let l = ltb-true (length ts) most (both_true (nat_lt (length ts) most) (eqb (a0 t % 4) 0) e) in omega (arith, l)))
    (none_more most (length ts))

handler_few : (most n : ℕ) (request : Option Request) (t : Parts) → CallSpawns most n (set_handler request t)
handler_few most n request t =
    either (CallSpawns most n) (eqb (a0 t % 4) 0) (record { thread = with_result 0 (record t { handler = a0 t }); spawned = []; request = request }) (gives request t refused)
    (λ _. none_more most n) (none_more most n)

iret_few : (most n : ℕ) (request : Option Request) (t : Parts) → CallSpawns most n (iret request t)
iret_few most n request t =
    either (CallSpawns most n) t.mask (record { thread = returned t; spawned = []; request = request }) (gives request t refused) (λ _. none_more most n) (none_more most n)

dma_few : (most n size : ℕ) (request : Option Request) (t : Parts) → CallSpawns most n (request_dma size request t)
dma_few most n size None t =
    either (CallSpawns most n) (is_dma_buffer size (a0 t) (cut (a1 t))) (gives (Some (record { buf = a0 t; len = cut (a1 t) })) t 0) (gives None t bad_buffer)
    (λ _. none_more most n) (none_more most n)
dma_few most n size (Some request) t = none_more most n

called_few : (most size k : ℕ) (ts : List Parts) (request : Option Request) (t : Parts) → CallSpawns most (length ts) (called most size k ts request t)
called_few most size k ts request t =
    let n = length ts in
    any-call (CallSpawns most n) most size k ts request t (λ m. none_more most n) (none_more most n) (spawn_few most ts request t) (handler_few most n request t) (iret_few most n request t) (dma_few most n size request t)

abbrev StepSpawns : (most n : ℕ) → StepResult → Type 0
StepSpawns most n v = AreFewMore most n v.spawned

outside_few : (most n : ℕ) (o : Option Need) (request : Option Request) (t : Parts) (input : Option Input) → StepSpawns most n (outside_called o request t input)
outside_few most n o request t None = none_more most n
outside_few most n o request t (Some r) = none_more most n

loaded_few : (most n : ℕ) (request : Option Request) (t : Parts) (p : Operation) (input : Option Input) → StepSpawns most n (device_loaded request t p input)
loaded_few most n request t (Operation.Load op rd a) (Some r) = none_more most n
loaded_few most n request t (Operation.Load op rd a) None = none_more most n
loaded_few most n request t (Operation.Go rd value pc) input = none_more most n
loaded_few most n request t (Operation.Stop kind) input = none_more most n
loaded_few most n request t (Operation.Store op a v) input = none_more most n
loaded_few most n request t (Operation.LoadReserved rd a) input = none_more most n
loaded_few most n request t (Operation.StoreConditional rd a v) input = none_more most n
loaded_few most n request t (Operation.Amo op rd a v) input = none_more most n

stored_few : (most n : ℕ) (request : Option Request) (t : Parts) (p : Operation) → StepSpawns most n (device_stored request t p)
stored_few most n request t (Operation.Load op rd a) = none_more most n
stored_few most n request t (Operation.Go rd value pc) = none_more most n
stored_few most n request t (Operation.Stop kind) = none_more most n
stored_few most n request t (Operation.Store op a v) = none_more most n
stored_few most n request t (Operation.LoadReserved rd a) = none_more most n
stored_few most n request t (Operation.StoreConditional rd a v) = none_more most n
stored_few most n request t (Operation.Amo op rd a v) = none_more most n

kind_few : (o : Option Kind) (most k : ℕ) (ts : List Parts) (request : Option Request) (t : Parts) (m : List ℕ) (input : Option Input) → StepSpawns most (length ts) (serve_kind most o k ts request t m input)
kind_few None most k ts request t m input = none_more most (length ts)
kind_few (Some Kind.Call) most k ts request t m input =
    either (StepSpawns most (length ts)) (is_outside t) (outside_called (need t m) request t input) (inside_called (called most (length m) k ts request t))
    (λ _. outside_few most (length ts) (need t m) request t input) (called_few most (length m) k ts request t)
kind_few (Some Kind.Break) most k ts request t m input = none_more most (length ts)
kind_few (Some Kind.DeviceLoad) most k ts request t m input = loaded_few most (length ts) request t (next_operation t m) input
kind_few (Some Kind.DeviceStore) most k ts request t m input = stored_few most (length ts) request t (next_operation t m)
kind_few (Some (Kind.Fault cause)) most k ts request t m input = none_more most (length ts)

serve_few : (most k : ℕ) (ts : List Parts) (request : Option Request) (t : Parts) (m : List ℕ) (input : Option Input) → StepSpawns most (length ts) (serve most k ts request t m input)
unfolding serve
serve_few most k ts request t m input = kind_few (next_kind t m) most k ts request t m input

-- ---- verdicts

abbrev pub SpawnsFew : (most n : ℕ) → LogVerdict → Type 0
SpawnsFew most n (Goes e u) = AreFewMore most n e.spawned
SpawnsFew most n (Fails why) = Unit {0}

unless_few : (most n : ℕ) (o : Option Why) (v : LogVerdict) → SpawnsFew most n v → SpawnsFew most n (unless o v)
unless_few most n None v few = few
unless_few most n (Some why) v few = tt

interrupted_few : (most n : ℕ) (o : Option ℕ) (e : Effect) (u : Used) → AreFewMore most n e.spawned → SpawnsFew most n (with_interrupted o e u)
interrupted_few most n None e u few = few
interrupted_few most n (Some value) e u few =
    either (SpawnsFew most n) (takes_interrupt e.thread) (Goes (record e { thread = interrupted value e.thread }) (with_interrupt u)) (Fails Why.Interrupt) (λ _. few) tt

chunk_few : (log : LogParts) (p : Progress) (u : Used) (k n : ℕ) (r : Run) → SpawnsFew log.threads n (chunk_verdict log p u k r)
unfolding chunk_verdict
chunk_few log p u k n r =
    let e = chunk_effect k p.request r in
    unless_few log.threads n (chunk_why (size_in log (Actor.Thread k) r.thread.commits) r.n) (ended log k e u)
    (interrupted_few log.threads n (interrupt_at log.interrupts k e.thread.commits) e u (none_more log.threads n))

served_few : (log : LogParts) (p : Progress) (k : ℕ) (ts : List Parts) (t : Parts) (m : List ℕ) (o : Option TakenRecord) → SpawnsFew log.threads (length ts) (served_verdict log p k ts t m o)
served_few log p k ts t m None = tt
served_few log p k ts t m (Some g) =
    let e = serial_effect k (serve log.threads k ts p.request t m g.input) in
    interrupted_few log.threads (length ts) (interrupt_at log.interrupts k e.thread.commits) e g.used
    (serve_few log.threads k ts p.request t m g.input)

serial_few : (log : LogParts) (p : Progress) (u : Used) (k : ℕ) (ts : List Parts) (t : Parts) (m : List ℕ) → SpawnsFew log.threads (length ts) (serial_verdict log p u k ts t m)
unfolding serial_verdict
serial_few log p u k ts t m =
    unless_few log.threads (length ts) (serial_why (size_in log (Actor.Thread k) t.commits)) (served_verdict log p k ts t m (given (need t m) (slice_get log.inputs u.inputs) u))
    (served_few log p k ts t m (given (need t m) (slice_get log.inputs u.inputs) u))

-- a thread's commit that goes as logged spawns no more threads than the log may have
pub verdict-few : (log : LogParts) (y : Played) (k : ℕ) (t : Parts) (o : Option Kind) → SpawnsFew log.threads (length y.threads) (thread_verdict log y k t o)
verdict-few log y k t None = chunk_few log y.progress y.used k (length y.threads) (run y.memory t (size_or_standard log k t.commits))
verdict-few log y k t (Some kind) = serial_few log y.progress y.used k y.threads t y.memory

-- ---- the threads

-- an effect that spawns few enough threads leaves no more threads than the most
pub then-few : (most k : ℕ) (e : Effect) (ts : List Parts) → AreFewMore most (length ts) e.spawned → length ts ≤ most → length (with_threads k e ts) ≤ most
then-few most k e ts more few =
    let all = length-append (slice_set ts k e.thread) e.spawned in
    let set = length-set ts k e.thread in
    let h = more few in
    omega (arith, all, set, h)
