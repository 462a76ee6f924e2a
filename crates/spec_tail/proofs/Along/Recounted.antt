-- What a thread does doesn't depend on how many commits it has done: if these are counted from elsewhere, it does the same.
use Rattle.std.proofs.Common.{◌≡◌, ℕ, zero, suc, ◌+◌, Bool, true, false, cond, List, [], ◌∷◌, length, Option, Some, None, refl, sym, ap, ◌∙◌, arith}
use Rattle.std.specs.Prelude.{slice_get, option_map, map, nat_lt, nat_eq, ◌/◌, ◌%◌, ◌&&◌, if◌then◌else◌}
use Rattle.dl_entry.specs.declared.Input.{Input}
use Rattle.dl_entry.specs.declared.Request.{Request}
use Rattle.spec_isa.specs.declared.instr.Instr.{Instr}
use Rattle.spec_isa.specs.declared.thread.Parts.{Parts}
use Rattle.spec_isa.specs.declared.thread.Load.{Load}
use Rattle.spec_isa.specs.declared.thread.Kind.{Kind}
use Rattle.spec_isa.specs.declared.operation.Operation.{Operation}
use Rattle.spec_isa.specs.Numbers.{fetch_outside}
use Rattle.spec_isa.specs.Denoted.{denoted}
use Rattle.spec_isa.specs.Words.{Stored, read, lays, is_inside}
use Rattle.spec_isa.specs.Operations.{refuses, word_loaded, thread_then, load_then, store_then}
use Rattle.spec_isa.specs.Instruction.{InstructionOutcome, Next, Serial, one, unless, operation_found, operation_of, value_at}
use Rattle.spec_isa.specs.Instruction.{serial_of, loads_of, next_of, load_of, store_of}
use Rattle.spec_isa.specs.Runs.{Run, followed, run}
use Rattle.spec_kernel.specs.Numbers.{call_exit, call_spawn, call_handler, call_iret, call_dma, call_self, call_yield, call_ended}
use Rattle.spec_kernel.specs.Needs.{Need, fetched, number_of, a0, a1, a2, cut, need_of_load, need_of, next_kind, next_operation, need}
use Rattle.spec_kernel.specs.Answers.{refused, unknown_call, bad_buffer}
use Rattle.spec_kernel.specs.Interrupts.{is_live}
use Rattle.spec_kernel.specs.Calls.{Called, gives, exit, spawned, spawn, set_handler, iret, is_dma_buffer, request_dma, has_ended, called, with_result, returned}
use Rattle.spec_kernel.specs.Serving.{StepResult, outside_called, is_outside, inside_called, device_loaded, device_stored, serve_kind, serve}
use Rattle.spec_tail.specs.Playing.{counted_from}

-- the thread with so many commits more
abbrev pub recounted : (before : ℕ) → Parts → Parts
recounted b p = record p { commits = b + p.commits }

-- what a function makes of both cases it makes of the case that there is
pub either : {A B : Type 0} (f : A → B) (b : Bool) (x y : A) (u v : B) → u ≡ f x → v ≡ f y → cond b u v ≡ f (cond b x y)
either f true x y u v p q = p
either f false x y u v p q = q

-- ---- instructions

operation_same : (b : ℕ) (i : Option Instr) (t : Parts) → operation_found i (recounted b t) ≡ operation_found i t
operation_same b None t = refl
operation_same b (Some (Instr.Lui rd imm)) t = refl
operation_same b (Some (Instr.Auipc rd imm)) t = refl
operation_same b (Some (Instr.Jal rd offset)) t = refl
operation_same b (Some (Instr.Jalr rd rs1 offset)) t = refl
operation_same b (Some (Instr.Branch op rs1 rs2 offset)) t = refl
operation_same b (Some (Instr.Load op rd rs1 offset)) t = refl
operation_same b (Some (Instr.Store op rs1 rs2 offset)) t = refl
operation_same b (Some (Instr.Immediate op rd rs1 imm)) t = refl
operation_same b (Some (Instr.Shift op rd rs1 amount)) t = refl
operation_same b (Some (Instr.Register op rd rs1 rs2)) t = refl
operation_same b (Some (Instr.Fence fm pred succ)) t = refl
operation_same b (Some (Instr.FenceI imm rs1 rd)) t = refl
operation_same b (Some Instr.Ecall) t = refl
operation_same b (Some Instr.Ebreak) t = refl
operation_same b (Some (Instr.LoadReserved rd rs1 aq rl)) t = refl
operation_same b (Some (Instr.StoreConditional rd rs1 rs2 aq rl)) t = refl
operation_same b (Some (Instr.Amo op rd rs1 rs2 aq rl)) t = refl

operation-same : (b : ℕ) (t : Parts) (f : ℕ) → operation_of (recounted b t) f ≡ operation_of t f
operation-same b t f = operation_same b (denoted f) t

abbrev outcome_of : Operation → Parts → List ℕ → InstructionOutcome
outcome_of p t m =
    let w = value_at m (word_loaded p) in
    unless (if is_inside (length m) t.pc then refuses (length m) p else Some (Kind.Fault fetch_outside)) (Next (thread_then p t w) (load_then p w) (store_then p t w))

abbrev outcome_recounted : (before : ℕ) → InstructionOutcome → InstructionOutcome
outcome_recounted b (Next t load store) = Next (recounted b t) load store
outcome_recounted b (Serial kind) = Serial kind

unless_recounted : (b : ℕ) (o : Option Kind) (t : Parts) (load : Option Load) (store : Option Stored) → unless o (Next (recounted b t) load store) ≡ outcome_recounted b (unless o (Next t load store))
unless_recounted b None t load store = refl
unless_recounted b (Some kind) t load store = refl

outcome_same : (b : ℕ) (p : Operation) (t : Parts) (m : List ℕ) → outcome_of p (recounted b t) m ≡ outcome_recounted b (outcome_of p t m)
outcome_same b (Operation.Go rd value pc) t m = unless_recounted b _ _ _ _
outcome_same b (Operation.Stop kind) t m = unless_recounted b _ _ _ _
outcome_same b (Operation.Load op rd a) t m = unless_recounted b _ _ _ _
outcome_same b (Operation.Store op a v) t m = unless_recounted b _ _ _ _
outcome_same b (Operation.LoadReserved rd a) t m = unless_recounted b _ _ _ _
outcome_same b (Operation.StoreConditional rd a v) t m = unless_recounted b _ _ _ _
outcome_same b (Operation.Amo op rd a v) t m = unless_recounted b _ _ _ _

one_is : (t : Parts) (m : List ℕ) → one t m ≡ outcome_of (operation_of t (read m (t.pc / 4))) t m
unfolding one serial_of loads_of next_of load_of store_of
one_is t m = refl

one_same : (b : ℕ) (t : Parts) (m : List ℕ) → one (recounted b t) m ≡ outcome_recounted b (one t m)
one_same b t m =
    let f = read m (t.pc / 4) in
    one_is (recounted b t) m
    ∙ ap (λ (p : Operation). outcome_of p (recounted b t) m) (operation-same b t f)
    ∙ outcome_same b (operation_of t f) t m
    ∙ ap (outcome_recounted b) (sym (one_is t m))

-- the same run, with its thread at so many commits more
abbrev pub run_recounted : (before : ℕ) → Run → Run
run_recounted b r = record r { thread = recounted b r.thread }

followed_same : (b : ℕ) (r : Run) (o : InstructionOutcome) → followed (run_recounted b r) (outcome_recounted b o) ≡ run_recounted b (followed r o)
followed_same b r (Next t load store) = refl
followed_same b r (Serial kind) = refl

-- a thread runs the same however many commits it has done before
pub run-same : (b : ℕ) (m : List ℕ) (t : Parts) (n : ℕ) → run m (recounted b t) n ≡ run_recounted b (run m t n)
run-same b m t zero = refl
run-same b m t (suc n) =
    let r : Run = run m t n in
    ap (λ (q : Run). followed q (one q.thread (lays m q.words))) (run-same b m t n)
    ∙ ap (followed (run_recounted b r)) (one_same b r.thread (lays m r.words))
    ∙ followed_same b r (one r.thread (lays m r.words))

-- ---- what the next step is

-- whether and why a thread's next step is serial doesn't depend on its number of commits
pub kind-same : (b : ℕ) (t : Parts) (m : List ℕ) → next_kind (recounted b t) m ≡ next_kind t m
unfolding next_kind serial_of
kind-same b t m =
    ap (λ (p : Operation). if is_inside (length m) t.pc then refuses (length m) p else Some (Kind.Fault fetch_outside)) (operation-same b t (fetched t m))

next_same : (b : ℕ) (t : Parts) (m : List ℕ) → next_operation (recounted b t) m ≡ next_operation t m
unfolding next_operation
next_same b t m = operation-same b t (fetched t m)

need_same : (b : ℕ) (o : Option Kind) (t : Parts) (m : List ℕ) → need_of o (recounted b t) m ≡ need_of o t m
need_same b (Some Kind.Call) t m = refl
need_same b (Some Kind.DeviceLoad) t m = ap need_of_load (next_same b t m)
need_same b (Some Kind.Break) t m = refl
need_same b (Some Kind.DeviceStore) t m = refl
need_same b (Some (Kind.Fault cause)) t m = refl
need_same b None t m = refl

-- what a thread needs from outside doesn't depend on its number of commits
pub need-same : (b : ℕ) (t : Parts) (m : List ℕ) → need (recounted b t) m ≡ need t m
unfolding need
need-same b t m = ap (λ (o : Option Kind). need_of o (recounted b t) m) (kind-same b t m) ∙ need_same b (next_kind t m) t m

-- ---- among other threads

-- each of the recounted threads is the old one with its own commits from before added
pub get-counted : (begun : ℕ → ℕ) (k : ℕ) (ts : List Parts) (j : ℕ) → slice_get (counted_from begun k ts) j ≡ option_map (recounted (begun (k + j))) (slice_get ts j)
get-counted begun k [] j = refl
get-counted begun k (t ∷ ts) zero = let h : k ≡ k + 0 = omega arith in ap (λ (i : ℕ). Some (recounted (begun i) t)) h
get-counted begun k (t ∷ ts) (suc j) =
    let h : suc k + j ≡ k + suc j = omega arith in
    get-counted begun (suc k) ts j ∙ ap (λ (i : ℕ). option_map (recounted (begun i)) (slice_get ts j)) h

-- counting commits from elsewhere doesn't change how many threads there are
pub length-counted : (begun : ℕ → ℕ) (k : ℕ) (ts : List Parts) → length (counted_from begun k ts) ≡ length ts
length-counted begun k [] = refl
length-counted begun k (t ∷ ts) = ap suc (length-counted begun (suc k) ts)

-- counting commits from elsewhere doesn't change which threads are live
pub live-counted : (begun : ℕ → ℕ) (k : ℕ) (ts : List Parts) → map is_live (counted_from begun k ts) ≡ map is_live ts
live-counted begun k [] = refl
live-counted begun k (t ∷ ts) = ap (λ (bs : List Bool). is_live t ∷ bs) (live-counted begun (suc k) ts)

ended_some : (b : ℕ) (o : Option Parts) → has_ended (option_map (recounted b) o) ≡ has_ended o
ended_some b None = refl
ended_some b (Some t) = refl

ended_same : (begun : ℕ → ℕ) (ts : List Parts) (j : ℕ) → has_ended (slice_get (counted_from begun 0 ts) j) ≡ has_ended (slice_get ts j)
ended_same begun ts j = ap has_ended (get-counted begun 0 ts j) ∙ ended_some (begun (0 + j)) (slice_get ts j)

-- ---- calls

abbrev call_recounted : (before : ℕ) → Called → Called
call_recounted b c = record c { thread = recounted b c.thread }

abbrev spawn_among : (most count : ℕ) → Option Request → Parts → Called
spawn_among most n request t =
    if nat_lt n most && nat_eq (a0 t % 4) 0
    then record { thread = with_result n t; spawned = spawned (a0 t) (a1 t) (a2 t) ∷ []; request = request }
    else gives request t refused

spawn_same : (b : ℕ) (most : ℕ) (begun : ℕ → ℕ) (ts : List Parts) (request : Option Request) (t : Parts) → spawn most (counted_from begun 0 ts) request (recounted b t) ≡ call_recounted b (spawn most ts request t)
spawn_same b most begun ts request t =
    ap (λ (n : ℕ). spawn_among most n request (recounted b t)) (length-counted begun 0 ts)
    ∙ either (call_recounted b) (nat_lt (length ts) most && nat_eq (a0 t % 4) 0)
    (record { thread = with_result (length ts) t; spawned = spawned (a0 t) (a1 t) (a2 t) ∷ []; request = request })
    (gives request t refused)
    (record { thread = with_result (length ts) (recounted b t); spawned = spawned (a0 t) (a1 t) (a2 t) ∷ []; request = request })
    (gives request (recounted b t) refused) refl refl

handler_same : (b : ℕ) (request : Option Request) (t : Parts) → set_handler request (recounted b t) ≡ call_recounted b (set_handler request t)
handler_same b request t =
    let set : Parts → Called = (λ u. record { thread = with_result 0 (record u { handler = a0 u }); spawned = []; request = request }) in
    either (call_recounted b) (nat_eq (a0 t % 4) 0) (set t) (gives request t refused) (set (recounted b t)) (gives request (recounted b t) refused) refl refl

iret_same : (b : ℕ) (request : Option Request) (t : Parts) → iret request (recounted b t) ≡ call_recounted b (iret request t)
iret_same b request t =
    let back : Parts → Called = (λ u. record { thread = returned u; spawned = []; request = request }) in
    either (call_recounted b) t.mask (back t) (gives request t refused) (back (recounted b t)) (gives request (recounted b t) refused) refl refl

dma_same : (b : ℕ) (size : ℕ) (request : Option Request) (t : Parts) → request_dma size request (recounted b t) ≡ call_recounted b (request_dma size request t)
dma_same b size None t =
    let q : Option Request = Some (record { buf = a0 t; len = cut (a1 t) }) in
    either (call_recounted b) (is_dma_buffer size (a0 t) (cut (a1 t))) (gives q t 0) (gives None t bad_buffer) (gives q (recounted b t) 0) (gives None (recounted b t) bad_buffer) refl refl
dma_same b size (Some request) t = refl

called_same : (b : ℕ) (most size k : ℕ) (begun : ℕ → ℕ) (ts : List Parts) (request : Option Request) (t : Parts) → called most size k (counted_from begun 0 ts) request (recounted b t) ≡ call_recounted b (called most size k ts request t)
unfolding called
called_same b most size k begun ts request t =
    let f : Called → Called = call_recounted b in
    let is : ℕ → Bool = (λ n. nat_eq (number_of t) n) in
    let u : Parts = recounted b t in
    let us : List Parts = counted_from begun 0 ts in
    let c8 : List Parts → Parts → Called = (λ xs x. if is call_ended then gives request x (has_ended (slice_get xs (a0 x))) else gives request x unknown_call) in
    let c7 : List Parts → Parts → Called = (λ xs x. if is call_yield then gives request x 0 else c8 xs x) in
    let c6 : List Parts → Parts → Called = (λ xs x. if is call_self then gives request x k else c7 xs x) in
    let c5 : List Parts → Parts → Called = (λ xs x. if is call_dma then request_dma size request x else c6 xs x) in
    let c4 : List Parts → Parts → Called = (λ xs x. if is call_iret then iret request x else c5 xs x) in
    let c3 : List Parts → Parts → Called = (λ xs x. if is call_handler then set_handler request x else c4 xs x) in
    let c2 : List Parts → Parts → Called = (λ xs x. if is call_spawn then spawn most xs request x else c3 xs x) in
    let k8 : c8 us u ≡ f (c8 ts t) =
    either f (is call_ended) (gives request t (has_ended (slice_get ts (a0 t)))) (gives request t unknown_call) (gives request u (has_ended (slice_get us (a0 u)))) (gives request u unknown_call)
    (ap (gives request u) (ended_same begun ts (a0 t))) refl in
    let k7 : c7 us u ≡ f (c7 ts t) = either f (is call_yield) (gives request t 0) (c8 ts t) (gives request u 0) (c8 us u) refl k8 in
    let k6 : c6 us u ≡ f (c6 ts t) = either f (is call_self) (gives request t k) (c7 ts t) (gives request u k) (c7 us u) refl k7 in
    let k5 : c5 us u ≡ f (c5 ts t) = either f (is call_dma) (request_dma size request t) (c6 ts t) (request_dma size request u) (c6 us u) (dma_same b size request t) k6 in
    let k4 : c4 us u ≡ f (c4 ts t) = either f (is call_iret) (iret request t) (c5 ts t) (iret request u) (c5 us u) (iret_same b request t) k5 in
    let k3 : c3 us u ≡ f (c3 ts t) = either f (is call_handler) (set_handler request t) (c4 ts t) (set_handler request u) (c4 us u) (handler_same b request t) k4 in
    let k2 : c2 us u ≡ f (c2 ts t) = either f (is call_spawn) (spawn most ts request t) (c3 ts t) (spawn most us request u) (c3 us u) (spawn_same b most begun ts request t) k3 in
    either f (is call_exit) (exit request t) (c2 ts t) (exit request u) (c2 us u) refl k2

-- ---- serial steps

-- the same result of a serial step, with its thread at so many commits more
abbrev pub step_recounted : (before : ℕ) → StepResult → StepResult
step_recounted b v = record v { thread = recounted b v.thread }

outside_same : (b : ℕ) (n : Option Need) (request : Option Request) (t : Parts) (input : Option Input) → outside_called n request (recounted b t) input ≡ step_recounted b (outside_called n request t input)
outside_same b n request t None = refl
outside_same b n request t (Some r) = refl

loaded_same : (b : ℕ) (request : Option Request) (t : Parts) (p : Operation) (input : Option Input) → device_loaded request (recounted b t) p input ≡ step_recounted b (device_loaded request t p input)
loaded_same b request t (Operation.Load op rd a) (Some r) = refl
loaded_same b request t (Operation.Load op rd a) None = refl
loaded_same b request t (Operation.Go rd value pc) input = refl
loaded_same b request t (Operation.Stop kind) input = refl
loaded_same b request t (Operation.Store op a v) input = refl
loaded_same b request t (Operation.LoadReserved rd a) input = refl
loaded_same b request t (Operation.StoreConditional rd a v) input = refl
loaded_same b request t (Operation.Amo op rd a v) input = refl

stored_same : (b : ℕ) (request : Option Request) (t : Parts) (p : Operation) → device_stored request (recounted b t) p ≡ step_recounted b (device_stored request t p)
stored_same b request t (Operation.Load op rd a) = refl
stored_same b request t (Operation.Go rd value pc) = refl
stored_same b request t (Operation.Stop kind) = refl
stored_same b request t (Operation.Store op a v) = refl
stored_same b request t (Operation.LoadReserved rd a) = refl
stored_same b request t (Operation.StoreConditional rd a v) = refl
stored_same b request t (Operation.Amo op rd a v) = refl

kind_serves : (b : ℕ) (o : Option Kind) (most k : ℕ) (begun : ℕ → ℕ) (ts : List Parts) (request : Option Request) (t : Parts) (m : List ℕ) (input : Option Input)
    → serve_kind most o k (counted_from begun 0 ts) request (recounted b t) m input ≡ step_recounted b (serve_kind most o k ts request t m input)
kind_serves b None most k begun ts request t m input = refl
kind_serves b (Some Kind.Call) most k begun ts request t m input =
    let us : List Parts = counted_from begun 0 ts in
    let u : Parts = recounted b t in
    either (step_recounted b) (is_outside t)
    (outside_called (need t m) request t input)
    (inside_called (called most (length m) k ts request t))
    (outside_called (need u m) request u input)
    (inside_called (called most (length m) k us request u))
    (ap (λ (n : Option Need). outside_called n request u input) (need-same b t m) ∙ outside_same b (need t m) request t input)
    (ap inside_called (called_same b most (length m) k begun ts request t))
kind_serves b (Some Kind.Break) most k begun ts request t m input = refl
kind_serves b (Some Kind.DeviceLoad) most k begun ts request t m input =
    ap (λ (p : Operation). device_loaded request (recounted b t) p input) (next_same b t m) ∙ loaded_same b request t (next_operation t m) input
kind_serves b (Some Kind.DeviceStore) most k begun ts request t m input =
    ap (λ (p : Operation). device_stored request (recounted b t) p) (next_same b t m) ∙ stored_same b request t (next_operation t m)
kind_serves b (Some (Kind.Fault cause)) most k begun ts request t m input = refl

-- a serial step comes to the same if the commits of all threads are counted from elsewhere
pub serve-same : (b : ℕ) (most k : ℕ) (begun : ℕ → ℕ) (ts : List Parts) (request : Option Request) (t : Parts) (m : List ℕ) (input : Option Input)
    → serve most k (counted_from begun 0 ts) request (recounted b t) m input ≡ step_recounted b (serve most k ts request t m input)
unfolding serve
serve-same b most k begun ts request t m input =
    ap (λ (o : Option Kind). serve_kind most o k (counted_from begun 0 ts) request (recounted b t) m input) (kind-same b t m)
    ∙ kind_serves b (next_kind t m) most k begun ts request t m input
