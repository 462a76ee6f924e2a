-- A thread between two commits: it has no reservation, it has saved something only if it handles an interrupt, and if it has
-- faulted, there is such a cause.
use Rattle.std.proofs.Common.{◌≡◌, ℕ, zero, suc, ◌<◌, ◌≤◌, inl, inr, Bool, true, false, ◌&&◌, eqb, cond, List, [], ◌∷◌, ◌++◌, length, Option, Some, None, refl, sym, ap, ◌∙◌, subst, arith, set}
use Rattle.std.specs.Prelude.{slice_get, nat_lt, ◌%◌}
use Rattle.std.proofs.Math.ListN.{length-set}
use Rattle.std.proofs.lemmas.List.{length-append}
use Rattle.std.proofs.lemmas.Option.{none-some, same_Some, slice_get_within}
use Rattle.dl_entry.specs.declared.Input.{Input}
use Rattle.dl_entry.specs.declared.Request.{Request}
use Rattle.spec_isa.specs.declared.instr.Instr.{Instr}
use Rattle.spec_isa.specs.declared.operation.Operation.{Operation}
use Rattle.spec_isa.specs.declared.thread.Kind.{Kind}
use Rattle.spec_isa.specs.declared.thread.Load.{Load}
use Rattle.spec_isa.specs.declared.thread.Parts.{Parts}
use Rattle.spec_isa.specs.declared.thread.ThreadStatus.{ThreadStatus}
use Rattle.spec_isa.specs.Denoted.{denoted}
use Rattle.spec_isa.specs.Instruction.{InstructionOutcome, Next, Serial, one, unless, operation_found, operation_of, next_of, serial_of}
use Rattle.spec_isa.specs.Operations.{operation, refuses, refusal, thread_then, load_size, store_size, is_device_load, is_device_store}
use Rattle.spec_isa.specs.Runs.{Run, followed, run}
use Rattle.spec_isa.specs.Threads.{started}
use Rattle.spec_isa.specs.Words.{Stored, is_inside, lays}
use Rattle.spec_isa.proofs.MemoryLaws.{length_lays}
use Rattle.spec_kernel.specs.Answers.{refused, bad_buffer, dma_bytes, taken}
use Rattle.spec_kernel.specs.Copies.{dma_words}
use Rattle.spec_kernel.specs.Calls.{Called, gives, spawned, spawn, set_handler, iret, is_dma_buffer, request_dma, called, with_result, returned}
use Rattle.spec_kernel.specs.Interrupts.{interrupted}
use Rattle.spec_kernel.specs.Needs.{Need, a0, a1, a2, cut, fetched, need, next_kind, next_operation}
use Rattle.spec_kernel.specs.Serving.{StepResult, outside_called, is_outside, inside_called, device_loaded, device_stored, serve_kind, serve}
use Rattle.spec_play.specs.Effects.{chunk_effect, serial_effect}
use Rattle.spec_play.specs.Recording.{noted, interrupt_noted}
use Rattle.spec_sphere.specs.sphere.Commits.{serial_noted, dma_log, role_raised, raised}
use Rattle.spec_sphere.specs.sphere.Logged.{Supplied}
use Rattle.spec_sphere.specs.sphere.Setups.{SphereSetup, first_threads}
use Rattle.spec_sphere.specs.sphere.Spheres.{Recording, Record, Sphere}
use Rattle.spec_play.proofs.Threads.{branch}
use Rattle.spec_sphere.proofs.Logs.Fresh.{at-set_parts}
use Rattle.spec_sphere.proofs.Logs.Growing.{get_cases}
use Rattle.spec_sphere.proofs.Moves.Threads.{any-call}
use Rattle.spec_sphere.proofs.Points.Kept.{IsKeptByPoints}

-- ---- one thread

-- nothing is saved outside a handler
abbrev pub IsSaved : (mask : Bool) → (value : ℕ) → Type 0
IsSaved true value = Unit {0}
IsSaved false value = value ≡ 0

-- there are eight causes of faults
abbrev pub HasCause : ThreadStatus → Type 0
HasCause ThreadStatus.Live = Unit {0}
HasCause (ThreadStatus.Ended code) = Unit {0}
HasCause (ThreadStatus.Fault cause) = cause ≤ 7

pub record Saves (t : Parts) : Type 0 where
  pub saved_pc : IsSaved t.mask t.saved_pc
  pub saved_a0 : IsSaved t.mask t.saved_a0
  pub saved_a1 : IsSaved t.mask t.saved_a1
  pub cause : HasCause t.status

pub record Rests (t : Parts) : Type 0 where
  pub saves : Saves t
  pub reservation : t.reservation ≡ None

-- ---- instructions

-- what no instruction touches
record Same (t u : Parts) : Type 0 where
  mask : u.mask ≡ t.mask
  saved_pc : u.saved_pc ≡ t.saved_pc
  saved_a0 : u.saved_a0 ≡ t.saved_a0
  saved_a1 : u.saved_a1 ≡ t.saved_a1
  status : u.status ≡ t.status

saves-same : (t u : Parts) → Same t u → Saves t → Saves u
saves-same t u same s =
    let mask = same.mask in
    let pc = same.saved_pc in
    let a = same.saved_a0 in
    let b = same.saved_a1 in
    record {
      saved_pc = subst (λ (v : ℕ). IsSaved u.mask v) (sym pc) (subst (λ (m : Bool). IsSaved m t.saved_pc) (sym mask) s.saved_pc);
      saved_a0 = subst (λ (v : ℕ). IsSaved u.mask v) (sym a) (subst (λ (m : Bool). IsSaved m t.saved_a0) (sym mask) s.saved_a0);
      saved_a1 = subst (λ (v : ℕ). IsSaved u.mask v) (sym b) (subst (λ (m : Bool). IsSaved m t.saved_a1) (sym mask) s.saved_a1);
      cause = subst HasCause (sym same.status) s.cause;
    }

itself : (t : Parts) → Same t t
itself t = record { mask = refl; saved_pc = refl; saved_a0 = refl; saved_a1 = refl; status = refl }

operation-same : (p : Operation) (t : Parts) (w : ℕ) → Same t (thread_then p t w)
operation-same (Operation.Go rd value pc) t w = record { mask = refl; saved_pc = refl; saved_a0 = refl; saved_a1 = refl; status = refl }
operation-same (Operation.Stop kind) t w = itself t
operation-same (Operation.Load op rd a) t w = record { mask = refl; saved_pc = refl; saved_a0 = refl; saved_a1 = refl; status = refl }
operation-same (Operation.Store op a v) t w = record { mask = refl; saved_pc = refl; saved_a0 = refl; saved_a1 = refl; status = refl }
operation-same (Operation.LoadReserved rd a) t w = record { mask = refl; saved_pc = refl; saved_a0 = refl; saved_a1 = refl; status = refl }
operation-same (Operation.StoreConditional rd a v) t w = record { mask = refl; saved_pc = refl; saved_a0 = refl; saved_a1 = refl; status = refl }
operation-same (Operation.Amo op rd a v) t w = record { mask = refl; saved_pc = refl; saved_a0 = refl; saved_a1 = refl; status = refl }

next-same : (t : Parts) (f w : ℕ) → Same t (next_of t f w)
unfolding next_of
next-same t f w = operation-same (operation_of t f) t w

unless-same : (t : Parts) (o : Option Kind) (next u : Parts) (made load : Option Load) (put_ store : Option Stored) → Same t next → unless o (Next next made put_) ≡ Next u load store → Same t u
unless-same t None next u made load put_ store s e = let h : next ≡ u = cc in subst (Same t) h s
unless-same t (Some kind) next u made load put_ store s e = cc

one-same : (t : Parts) (m : List ℕ) (u : Parts) (load : Option Load) (store : Option Stored) → one t m ≡ Next u load store → Same t u
unfolding one
one-same t m u load store e = unless-same t _ _ u _ load _ store (next-same t _ _) e

followed-same : (r : Run) (m : List ℕ) (o : InstructionOutcome) → one r.thread m ≡ o → Same r.thread (followed r o).thread
followed-same r m (Serial kind) e = itself r.thread
followed-same r m (Next u load store) e = one-same r.thread m u load store e

run-same : (m : List ℕ) (t : Parts) (n : ℕ) → Same t (run m t n).thread
run-same m t zero = itself t
run-same m t (suc n) =
    let last = followed-same (run m t n) (lays m (run m t n).words) _ refl in
    let past = run-same m t n in
    record {
      mask = last.mask ∙ past.mask;
      saved_pc = last.saved_pc ∙ past.saved_pc;
      saved_a0 = last.saved_a0 ∙ past.saved_a0;
      saved_a1 = last.saved_a1 ∙ past.saved_a1;
      status = last.status ∙ past.status;
    }

-- ---- causes

abbrev HasCauseIf : Option Kind → Type 0
HasCauseIf None = Unit {0}
HasCauseIf (Some Kind.Call) = Unit {0}
HasCauseIf (Some Kind.Break) = Unit {0}
HasCauseIf (Some Kind.DeviceLoad) = Unit {0}
HasCauseIf (Some Kind.DeviceStore) = Unit {0}
HasCauseIf (Some (Kind.Fault cause)) = cause ≤ 7

refusal-cause : (size width a : ℕ) (is_device : Bool) (device misaligned outside : Kind) → HasCauseIf (Some device) → HasCauseIf (Some misaligned) → HasCauseIf (Some outside) → HasCauseIf (refusal size width a is_device device misaligned outside)
refusal-cause size width a is_device device misaligned outside d m o =
    let inner = cond (is_inside size a) None (Some outside) in
    branch HasCauseIf (eqb (a % width) 0) (cond is_device (Some device) inner) (Some misaligned)
    (λ _. branch HasCauseIf is_device (Some device) inner (λ _. d) (λ _. branch HasCauseIf (is_inside size a) None (Some outside) (λ _. tt) (λ _. o)))
    (λ _. m)

abbrev StopsSo : Operation → Type 0
StopsSo (Operation.Stop kind) = HasCauseIf (Some kind)
StopsSo (Operation.Go rd value pc) = Unit {0}
StopsSo (Operation.Load op rd a) = Unit {0}
StopsSo (Operation.Store op a v) = Unit {0}
StopsSo (Operation.LoadReserved rd a) = Unit {0}
StopsSo (Operation.StoreConditional rd a v) = Unit {0}
StopsSo (Operation.Amo op rd a v) = Unit {0}

stops-so : (i : Instr) (t : Parts) → StopsSo (operation i t)
stops-so (Instr.Lui rd imm) t = tt
stops-so (Instr.Auipc rd imm) t = tt
stops-so (Instr.Jal rd offset) t = tt
stops-so (Instr.Jalr rd rs1 offset) t = tt
stops-so (Instr.Branch op rs1 rs2 offset) t = tt
stops-so (Instr.Load op rd rs1 offset) t = tt
stops-so (Instr.Store op rs1 rs2 offset) t = tt
stops-so (Instr.Immediate op rd rs1 imm) t = tt
stops-so (Instr.Shift op rd rs1 amount) t = tt
stops-so (Instr.Register op rd rs1 rs2) t = tt
stops-so (Instr.Fence _ _ _) t = tt
stops-so (Instr.FenceI _ _ _) t = tt
stops-so Instr.Ecall t = tt
stops-so Instr.Ebreak t = tt
stops-so (Instr.LoadReserved rd rs1 _ _) t = tt
stops-so (Instr.StoreConditional rd rs1 rs2 _ _) t = tt
stops-so (Instr.Amo op rd rs1 rs2 _ _) t = tt

found-so : (o : Option Instr) (t : Parts) → StopsSo (operation_found o t)
found-so None t = omega arith
found-so (Some i) t = stops-so i t

refuses-cause : (size : ℕ) (p : Operation) → StopsSo p → HasCauseIf (refuses size p)
refuses-cause size (Operation.Go rd value pc) s = branch HasCauseIf (eqb (pc % 4) 0) None (Some (Kind.Fault 0)) (λ _. tt) (λ _. omega arith)
refuses-cause size (Operation.Stop kind) s = s
refuses-cause size (Operation.Load op rd a) s = refusal-cause size (load_size op) a (is_device_load op a) Kind.DeviceLoad (Kind.Fault 4) (Kind.Fault 5) tt (omega arith) (omega arith)
refuses-cause size (Operation.Store op a v) s = refusal-cause size (store_size op) a (is_device_store op a) Kind.DeviceStore (Kind.Fault 6) (Kind.Fault 7) tt (omega arith) (omega arith)
refuses-cause size (Operation.LoadReserved rd a) s = refusal-cause size 4 a false Kind.DeviceLoad (Kind.Fault 4) (Kind.Fault 5) tt (omega arith) (omega arith)
refuses-cause size (Operation.StoreConditional rd a v) s = refusal-cause size 4 a false Kind.DeviceStore (Kind.Fault 6) (Kind.Fault 7) tt (omega arith) (omega arith)
refuses-cause size (Operation.Amo op rd a v) s = refusal-cause size 4 a false Kind.DeviceStore (Kind.Fault 6) (Kind.Fault 7) tt (omega arith) (omega arith)

next-cause : (t : Parts) (m : List ℕ) → HasCauseIf (next_kind t m)
unfolding next_kind serial_of
next-cause t m =
    branch HasCauseIf (is_inside (length m) t.pc) _ (Some (Kind.Fault 1))
    (λ _. refuses-cause (length m) (operation_of t (fetched t m)) (found-so (denoted (fetched t m)) t))
    (λ _. omega arith)

-- ---- calls

abbrev AllSave : List Parts → Type 0
AllSave [] = Unit {0}
AllSave (t ∷ ts) = Rests t × AllSave ts

record CallSaves (c : Called) : Type 0 where
  thread : Saves c.thread
  spawned : AllSave c.spawned

moved : (t : Parts) (pc : ℕ) (x : List ℕ) → Saves t → Saves (record t { pc = pc; x = x })
moved t pc x s = record { saved_pc = s.saved_pc; saved_a0 = s.saved_a0; saved_a1 = s.saved_a1; cause = s.cause }

gives-saves : (request : Option Request) (t : Parts) (n : ℕ) → Saves t → CallSaves (gives request t n)
gives-saves request t n s = record { thread = moved t _ _ s; spawned = tt }

spawn-saves : (most : ℕ) (ts : List Parts) (request : Option Request) (t : Parts) → Saves t → CallSaves (spawn most ts request t)
spawn-saves most ts request t s =
    branch CallSaves (nat_lt (length ts) most && eqb (a0 t % 4) 0)
    (record { thread = with_result (length ts) t; spawned = spawned (a0 t) (a1 t) (a2 t) ∷ []; request = request })
    (gives request t refused)
    (λ _. record {
      thread = moved t _ _ s;
      spawned = (record { saves = record { saved_pc = refl; saved_a0 = refl; saved_a1 = refl; cause = tt }; reservation = refl }, tt);
    })
    (λ _. gives-saves request t refused s)

handler-saves : (request : Option Request) (t : Parts) → Saves t → CallSaves (set_handler request t)
handler-saves request t s =
    branch CallSaves (eqb (a0 t % 4) 0)
    (record { thread = with_result 0 (record t { handler = a0 t }); spawned = []; request = request })
    (gives request t refused)
    (λ _. record { thread = record { saved_pc = s.saved_pc; saved_a0 = s.saved_a0; saved_a1 = s.saved_a1; cause = s.cause }; spawned = tt })
    (λ _. gives-saves request t refused s)

iret-saves : (request : Option Request) (t : Parts) → Saves t → CallSaves (iret request t)
iret-saves request t s =
    branch CallSaves t.mask (record { thread = returned t; spawned = []; request = request }) (gives request t refused)
    (λ _. record { thread = record { saved_pc = refl; saved_a0 = refl; saved_a1 = refl; cause = s.cause }; spawned = tt })
    (λ _. gives-saves request t refused s)

dma-saves : (size : ℕ) (request : Option Request) (t : Parts) → Saves t → CallSaves (request_dma size request t)
dma-saves size None t s =
    let q : Option Request = Some (record { buf = a0 t; len = cut (a1 t) }) in
    branch CallSaves (is_dma_buffer size (a0 t) (cut (a1 t))) (gives q t 0) (gives None t bad_buffer) (λ _. gives-saves q t 0 s) (λ _. gives-saves None t bad_buffer s)
dma-saves size (Some request) t s = gives-saves (Some request) t _ s

called-saves : (most size k : ℕ) (ts : List Parts) (request : Option Request) (t : Parts) → Saves t → CallSaves (called most size k ts request t)
called-saves most size k ts request t s =
    any-call CallSaves most size k ts request t (λ m. gives-saves request t m s)
    (record { thread = record { saved_pc = s.saved_pc; saved_a0 = s.saved_a0; saved_a1 = s.saved_a1; cause = tt }; spawned = tt })
    (spawn-saves most ts request t s) (handler-saves request t s) (iret-saves request t s) (dma-saves size request t s)

-- ---- serial steps

record StepSaves (v : StepResult) : Type 0 where
  thread : Saves v.thread
  spawned : AllSave v.spawned

outside-saves : (o : Option Need) (request : Option Request) (t : Parts) (input : Option Input) → Saves t → StepSaves (outside_called o request t input)
outside-saves o request t None s = record { thread = moved t _ _ s; spawned = tt }
outside-saves o request t (Some r) s = record { thread = moved t _ _ s; spawned = tt }

loaded-saves : (request : Option Request) (t : Parts) (p : Operation) (input : Option Input) → Saves t → StepSaves (device_loaded request t p input)
loaded-saves request t (Operation.Load op rd a) (Some r) s = record { thread = moved t _ _ s; spawned = tt }
loaded-saves request t (Operation.Load op rd a) None s = record { thread = s; spawned = tt }
loaded-saves request t (Operation.Go rd value pc) input s = record { thread = s; spawned = tt }
loaded-saves request t (Operation.Stop kind) input s = record { thread = s; spawned = tt }
loaded-saves request t (Operation.Store op a v) input s = record { thread = s; spawned = tt }
loaded-saves request t (Operation.LoadReserved rd a) input s = record { thread = s; spawned = tt }
loaded-saves request t (Operation.StoreConditional rd a v) input s = record { thread = s; spawned = tt }
loaded-saves request t (Operation.Amo op rd a v) input s = record { thread = s; spawned = tt }

stored-saves : (request : Option Request) (t : Parts) (p : Operation) → Saves t → StepSaves (device_stored request t p)
stored-saves request t (Operation.Store op a v) s =
    record { thread = record { saved_pc = s.saved_pc; saved_a0 = s.saved_a0; saved_a1 = s.saved_a1; cause = s.cause }; spawned = tt }
stored-saves request t (Operation.Load op rd a) s = record { thread = s; spawned = tt }
stored-saves request t (Operation.Go rd value pc) s = record { thread = s; spawned = tt }
stored-saves request t (Operation.Stop kind) s = record { thread = s; spawned = tt }
stored-saves request t (Operation.LoadReserved rd a) s = record { thread = s; spawned = tt }
stored-saves request t (Operation.StoreConditional rd a v) s = record { thread = s; spawned = tt }
stored-saves request t (Operation.Amo op rd a v) s = record { thread = s; spawned = tt }

inside-saves : (c : Called) → CallSaves c → StepSaves (inside_called c)
inside-saves c s = record { thread = s.thread; spawned = s.spawned }

fault-saves : (cause : ℕ) (request : Option Request) (t : Parts) → cause ≤ 7 → Saves t → Saves (record t { status = ThreadStatus.Fault cause })
fault-saves cause request t few s = record { saved_pc = s.saved_pc; saved_a0 = s.saved_a0; saved_a1 = s.saved_a1; cause = few }

kind-saves : (o : Option Kind) (most k : ℕ) (ts : List Parts) (request : Option Request) (t : Parts) (m : List ℕ) (input : Option Input) → HasCauseIf o → Saves t → StepSaves (serve_kind most o k ts request t m input)
kind-saves None most k ts request t m input few s = record { thread = s; spawned = tt }
kind-saves (Some Kind.Call) most k ts request t m input few s =
    branch StepSaves (is_outside t) (outside_called (need t m) request t input) (inside_called (called most (length m) k ts request t))
    (λ _. outside-saves (need t m) request t input s)
    (λ _. inside-saves (called most (length m) k ts request t) (called-saves most (length m) k ts request t s))
kind-saves (Some Kind.Break) most k ts request t m input few s = record { thread = fault-saves 3 request t (omega arith) s; spawned = tt }
kind-saves (Some Kind.DeviceLoad) most k ts request t m input few s = loaded-saves request t (next_operation t m) input s
kind-saves (Some Kind.DeviceStore) most k ts request t m input few s = stored-saves request t (next_operation t m) s
kind-saves (Some (Kind.Fault cause)) most k ts request t m input few s = record { thread = fault-saves cause request t few s; spawned = tt }

serve-saves : (most k : ℕ) (ts : List Parts) (request : Option Request) (t : Parts) (m : List ℕ) (input : Option Input) → Saves t → StepSaves (serve most k ts request t m input)
unfolding serve
serve-saves most k ts request t m input s = kind-saves (next_kind t m) most k ts request t m input (next-cause t m) s

-- ---- all threads of a sphere

-- each of them rests
abbrev pub AllRest : List Parts → Type 0
AllRest ts = (j : ℕ) (t : Parts) → slice_get ts j ≡ Some t → Rests t

set-rest : (ts : List Parts) (k : ℕ) (u : Parts) → AllRest ts → Rests u → AllRest (set ts k u)
set-rest ts k u all own j x e = elim (at-set_parts ts k j u x e) [ inl p ↦ subst Rests p.1 own | inr p ↦ all j x p.1 ]

spawned-rest : (spawned : List Parts) (i : ℕ) (x : Parts) → AllSave spawned → slice_get spawned i ≡ Some x → Rests x
spawned-rest [] i x all e = absurd (none-some x e)
spawned-rest (m ∷ ms) zero x all e = subst Rests (same_Some m x e) all.0
spawned-rest (m ∷ ms) (suc i) x all e = spawned-rest ms i x all.1 e

more-rest : (ts spawned : List Parts) → AllRest ts → AllSave spawned → AllRest (ts ++ spawned)
more-rest ts spawned all new j x e = elim (get_cases ts spawned j x e) [ inl h ↦ all j x h | inr h ↦ spawned-rest spawned h.1.0 x new h.1.1 ]

-- the thread is one of so many, if there is one
abbrev pub IsPresent : (present : ℕ) → Option ℕ → Type 0
IsPresent present None = Unit {0}
IsPresent present (Some thread) = thread < present

-- the sphere's threads rest, the last one that committed is one of them, and its memory has this size
pub record KeepsResting (size : ℕ) (cs : List Supplied) (p : Sphere) : Type 0 where
  pub recorded : (r : Recording) × (p.role ≡ Record r)
  pub threads : AllRest p.threads
  pub last : IsPresent (length p.threads) p.progress.last
  pub memory : length p.memory ≡ size

present-more : (present more : ℕ) (o : Option ℕ) → present ≤ more → IsPresent present o → IsPresent more o
present-more present more None l is = tt
present-more present more (Some thread) l is = omega (arith, l, is)

among-more : (ts spawned : List Parts) (j : ℕ) (u t : Parts) → slice_get ts j ≡ Some t → j < length (set ts j u ++ spawned)
among-more ts spawned j u t is =
    let l = slice_get_within ts j t is in
    let a = length-append (set ts j u) spawned in
    let b = length-set ts j u in
    omega (arith, l, a, b)

-- each point keeps it
pub resting-by_points : (size : ℕ) → IsKeptByPoints (KeepsResting size)
unfolding raised
resting-by_points n =
    record {
      role = λ cs p k. k.recorded;
      chunk = λ cs moment i j size short p t devices r k role is ran.
          let e = chunk_effect j p.progress.request (run p.memory t size) in
          let s = saves-same t (run p.memory t size).thread (run-same p.memory t size) (k.threads j t is).saves in
          let own : Rests e.thread = record { saves = record { saved_pc = s.saved_pc; saved_a0 = s.saved_a0; saved_a1 = s.saved_a1; cause = s.cause }; reservation = refl } in
          record {
            recorded = (record r { log = noted e.commit (run p.memory t size).thread.commits short r.log }, refl);
            threads = more-rest (set p.threads j e.thread) [] (set-rest p.threads j e.thread k.threads own) tt;
            last = among-more p.threads [] j e.thread t is;
            memory = length_lays p.memory e.words ∙ k.memory;
          };
      serial = λ cs moment i j size short p t devices r k role is empty.
          let g = taken (need t p.memory) devices moment in
          let v = serve r.log.threads j p.threads p.progress.request t p.memory g.input in
          let e = serial_effect j v in
          let w = serve-saves r.log.threads j p.threads p.progress.request t p.memory g.input (k.threads j t is).saves in
          let s = w.thread in
          let own : Rests e.thread = record { saves = record { saved_pc = s.saved_pc; saved_a0 = s.saved_a0; saved_a1 = s.saved_a1; cause = s.cause }; reservation = refl } in
          record {
            recorded = (record r { log = serial_noted j t g r.log p }, refl);
            threads = more-rest (set p.threads j e.thread) v.spawned (set-rest p.threads j e.thread k.threads own) w.spawned;
            last = among-more p.threads v.spawned j e.thread t is;
            memory = length_lays p.memory e.words ∙ k.memory;
          };
      dma = λ cs moment i short p request devices r k role.
          record {
            recorded = (record r { log = dma_log r.log devices p (Some request) }, refl);
            threads = k.threads;
            last = k.last;
            memory = length_lays p.memory (dma_words request (dma_bytes devices request)) ∙ k.memory;
          };
      raise = λ cs moment i j value p t r k role is takes.
          let s = (k.threads j t is).saves in
          let own : Rests (interrupted value t) = record { saves = record { saved_pc = tt; saved_a0 = tt; saved_a1 = tt; cause = s.cause }; reservation = (k.threads j t is).reservation } in
          record {
            recorded = (record r { log = interrupt_noted j t.commits value r.log }, ap (role_raised j t.commits value) role);
            threads = set-rest p.threads j (interrupted value t) k.threads own;
            last = present-more (length p.threads) (length (set p.threads j (interrupted value t))) p.progress.last (let b = length-set p.threads j (interrupted value t) in omega (arith, b)) k.last;
            memory = k.memory;
          };
    }

-- the thread that a sphere starts with has saved nothing and reserves nothing
pub start-rest : (image : SphereSetup) → AllRest (first_threads image)
start-rest image zero t e =
    subst Rests (same_Some (started image.entry) t e) (record { saves = record { saved_pc = refl; saved_a0 = refl; saved_a1 = refl; cause = tt }; reservation = refl })
start-rest image (suc j) t e = absurd (none-some t e)
