-- What instructions and serial steps keep of a thread: the number of its commits, and instructions its status. What a
-- serial step spawns is new.
use Rattle.std.proofs.Common.{◌≡◌, ℕ, zero, suc, Bool, true, false, ◌&&◌, eqb, cond, List, [], ◌∷◌, length, Option, Some, None, refl, ◌∙◌, subst}
use Rattle.std.specs.Prelude.{slice_get, nat_lt, ◌%◌}
use Rattle.dl_entry.specs.declared.Input.{Input}
use Rattle.dl_entry.specs.declared.Request.{Request}
use Rattle.spec_isa.specs.declared.thread.Parts.{Parts}
use Rattle.spec_isa.specs.declared.thread.Load.{Load}
use Rattle.spec_isa.specs.declared.thread.Kind.{Kind}
use Rattle.spec_isa.specs.declared.operation.Operation.{Operation}
use Rattle.spec_isa.specs.Words.{Stored, lays}
use Rattle.spec_isa.specs.Operations.{thread_then}
use Rattle.spec_isa.specs.Instruction.{InstructionOutcome, Next, Serial, one, unless, operation_of, next_of}
use Rattle.spec_isa.specs.Runs.{Run, followed, run}
use Rattle.spec_kernel.specs.Needs.{Need, number_of, a0, a1, a2, cut, need}
use Rattle.spec_kernel.specs.Answers.{refused, unknown_call, bad_buffer}
use Rattle.spec_kernel.specs.Calls.{Called, gives, exit, spawned, spawn, set_handler, iret, is_dma_buffer, request_dma, has_ended, called, with_result, returned}
use Rattle.spec_kernel.specs.Serving.{StepResult, outside_called, is_outside, inside_called, device_loaded, device_stored, serve_kind, serve}
use Rattle.spec_play.specs.Spawned.{AreNew}

-- ---- instructions

-- what no instruction touches
pub record Kept (t u : Parts) : Type 0 where
  pub commits : u.commits ≡ t.commits
  pub status : u.status ≡ t.status

operation_kept : (p : Operation) (t : Parts) (w : ℕ) → Kept t (thread_then p t w)
operation_kept (Operation.Go rd value pc) t w = record { commits = refl; status = refl }
operation_kept (Operation.Stop kind) t w = record { commits = refl; status = refl }
operation_kept (Operation.Load op rd a) t w = record { commits = refl; status = refl }
operation_kept (Operation.Store op a v) t w = record { commits = refl; status = refl }
operation_kept (Operation.LoadReserved rd a) t w = record { commits = refl; status = refl }
operation_kept (Operation.StoreConditional rd a v) t w = record { commits = refl; status = refl }
operation_kept (Operation.Amo op rd a v) t w = record { commits = refl; status = refl }

-- an instruction keeps its thread's number of commits, and its status
pub next-kept : (t : Parts) (f w : ℕ) → Kept t (next_of t f w)
unfolding next_of
next-kept t f w = operation_kept (operation_of t f) t w

unless_kept : (t : Parts) (o : Option Kind) (next u : Parts) (made load : Option Load) (put_ store : Option Stored) → Kept t next → unless o (Next next made put_) ≡ Next u load store → Kept t u
unless_kept t None next u made load put_ store s e = let h : next ≡ u = cc in subst (Kept t) h s
unless_kept t (Some kind) next u made load put_ store s e = cc

one_kept : (t : Parts) (m : List ℕ) (u : Parts) (load : Option Load) (store : Option Stored) → one t m ≡ Next u load store → Kept t u
unfolding one
one_kept t m u load store e = unless_kept t _ _ u _ load _ store (next-kept t _ _) e

followed_kept : (r : Run) (m : List ℕ) (o : InstructionOutcome) → one r.thread m ≡ o → Kept r.thread (followed r o).thread
followed_kept r m (Serial kind) e = record { commits = refl; status = refl }
followed_kept r m (Next u load store) e = one_kept r.thread m u load store e

run_kept : (m : List ℕ) (t : Parts) (n : ℕ) → Kept t (run m t n).thread
run_kept m t zero = record { commits = refl; status = refl }
run_kept m t (suc n) =
    let last = followed_kept (run m t n) (lays m (run m t n).words) _ refl in
    let past = run_kept m t n in
    record { commits = last.commits ∙ past.commits; status = last.status ∙ past.status }

-- a run keeps its thread's number of commits
pub run-keeps : (m : List ℕ) (t : Parts) (n : ℕ) → (run m t n).thread.commits ≡ t.commits
run-keeps m t n = (run_kept m t n).commits

-- a run ends no thread
pub run-status : (m : List ℕ) (t : Parts) (n : ℕ) → (run m t n).thread.status ≡ t.status
run-status m t n = (run_kept m t n).status

-- ---- calls

-- the thread keeps its number of commits, and those that it spawned are new
pub record KeepsCommits (t : Parts) (thread : Parts) (spawned : List Parts) : Type 0 where
  pub commits : thread.commits ≡ t.commits
  pub fresh : AreNew spawned

abbrev CallKeeps : Parts → Called → Type 0
CallKeeps t c = KeepsCommits t c.thread c.spawned

either_call : (P : Called → Type 0) (b : Bool) (x y : Called) → P x → P y → P (cond b x y)
either_call P true x y p q = p
either_call P false x y p q = q

gives_keeps : (request : Option Request) (t : Parts) (n : ℕ) → CallKeeps t (gives request t n)
gives_keeps request t n = record { commits = refl; fresh = tt }

spawn_keeps : (most : ℕ) (ts : List Parts) (request : Option Request) (t : Parts) → CallKeeps t (spawn most ts request t)
spawn_keeps most ts request t =
    either_call (CallKeeps t) (nat_lt (length ts) most && eqb (a0 t % 4) 0)
    (record { thread = with_result (length ts) t; spawned = spawned (a0 t) (a1 t) (a2 t) ∷ []; request = request })
    (gives request t refused)
    (record { commits = refl; fresh = (record { commits = refl; handler = refl }, tt) })
    (gives_keeps request t refused)

handler_keeps : (request : Option Request) (t : Parts) → CallKeeps t (set_handler request t)
handler_keeps request t =
    either_call (CallKeeps t) (eqb (a0 t % 4) 0) (record { thread = with_result 0 (record t { handler = a0 t }); spawned = []; request = request }) (gives request t refused)
    (record { commits = refl; fresh = tt })
    (gives_keeps request t refused)

iret_keeps : (request : Option Request) (t : Parts) → CallKeeps t (iret request t)
iret_keeps request t =
    either_call (CallKeeps t) t.mask (record { thread = returned t; spawned = []; request = request }) (gives request t refused) (record { commits = refl; fresh = tt }) (gives_keeps request t refused)

dma_keeps : (size : ℕ) (request : Option Request) (t : Parts) → CallKeeps t (request_dma size request t)
dma_keeps size None t =
    let q : Option Request = Some (record { buf = a0 t; len = cut (a1 t) }) in
    either_call (CallKeeps t) (is_dma_buffer size (a0 t) (cut (a1 t))) (gives q t 0) (gives None t bad_buffer) (gives_keeps q t 0) (gives_keeps None t bad_buffer)
dma_keeps size (Some request) t = record { commits = refl; fresh = tt }

-- a conditional value has a property if each branch has it in the case that picks it
pub branch : {A : Type 0} (P : A → Type 0) (b : Bool) (x y : A) → (b ≡ true → P x) → (b ≡ false → P y) → P (cond b x y)
branch P true x y p q = p refl
branch P false x y p q = q refl

-- what holds of an answer alone, and of each call that does more, holds of the call that a thread makes
pub any-call : (Q : Called → Type 0) (most size k : ℕ) (ts : List Parts) (request : Option Request) (t : Parts) → ((m : ℕ) → Q (gives request t m)) → Q (exit request t) → Q (spawn most ts request t) → Q (set_handler request t) → Q (iret request t) → Q (request_dma size request t)
    → Q (called most size k ts request t)
unfolding called
any-call Q most size k ts request t answers exits spawns handles returns asks =
    let n = number_of t in
    let c11 = cond (eqb n 11) (gives request t (has_ended (slice_get ts (a0 t)))) (gives request t unknown_call) in
    let c10 = cond (eqb n 10) (gives request t 0) c11 in
    let c9 = cond (eqb n 9) (gives request t k) c10 in
    let c8 = cond (eqb n 8) (request_dma size request t) c9 in
    let c7 = cond (eqb n 7) (iret request t) c8 in
    let c6 = cond (eqb n 6) (set_handler request t) c7 in
    let c1 = cond (eqb n 1) (spawn most ts request t) c6 in
    branch Q (eqb n 0) (exit request t) c1 (λ _. exits)
    (λ _. branch Q (eqb n 1) (spawn most ts request t) c6 (λ _. spawns)
    (λ _. branch Q (eqb n 6) (set_handler request t) c7 (λ _. handles)
    (λ _. branch Q (eqb n 7) (iret request t) c8 (λ _. returns)
    (λ _. branch Q (eqb n 8) (request_dma size request t) c9 (λ _. asks)
    (λ _. branch Q (eqb n 9) (gives request t k) c10 (λ _. answers k)
    (λ _. branch Q (eqb n 10) (gives request t 0) c11 (λ _. answers 0)
    (λ _. branch Q (eqb n 11) (gives request t (has_ended (slice_get ts (a0 t)))) (gives request t unknown_call) (λ _. answers _)
    (λ _. answers unknown_call))))))))

called_keeps : (most size k : ℕ) (ts : List Parts) (request : Option Request) (t : Parts) → CallKeeps t (called most size k ts request t)
called_keeps most size k ts request t =
    any-call (CallKeeps t) most size k ts request t (gives_keeps request t) (record { commits = refl; fresh = tt }) (spawn_keeps most ts request t) (handler_keeps request t) (iret_keeps request t) (dma_keeps size request t)

-- ---- serial steps

abbrev ServeKeeps : Parts → StepResult → Type 0
ServeKeeps t v = KeepsCommits t v.thread v.spawned

outside_keeps : (o : Option Need) (request : Option Request) (t : Parts) (input : Option Input) → ServeKeeps t (outside_called o request t input)
outside_keeps o request t None = record { commits = refl; fresh = tt }
outside_keeps o request t (Some r) = record { commits = refl; fresh = tt }

loaded_keeps : (request : Option Request) (t : Parts) (p : Operation) (input : Option Input) → ServeKeeps t (device_loaded request t p input)
loaded_keeps request t (Operation.Load op rd a) (Some r) = record { commits = refl; fresh = tt }
loaded_keeps request t (Operation.Load op rd a) None = record { commits = refl; fresh = tt }
loaded_keeps request t (Operation.Go rd value pc) input = record { commits = refl; fresh = tt }
loaded_keeps request t (Operation.Stop kind) input = record { commits = refl; fresh = tt }
loaded_keeps request t (Operation.Store op a v) input = record { commits = refl; fresh = tt }
loaded_keeps request t (Operation.LoadReserved rd a) input = record { commits = refl; fresh = tt }
loaded_keeps request t (Operation.StoreConditional rd a v) input = record { commits = refl; fresh = tt }
loaded_keeps request t (Operation.Amo op rd a v) input = record { commits = refl; fresh = tt }

stored_keeps : (request : Option Request) (t : Parts) (p : Operation) → ServeKeeps t (device_stored request t p)
stored_keeps request t (Operation.Load op rd a) = record { commits = refl; fresh = tt }
stored_keeps request t (Operation.Go rd value pc) = record { commits = refl; fresh = tt }
stored_keeps request t (Operation.Stop kind) = record { commits = refl; fresh = tt }
stored_keeps request t (Operation.Store op a v) = record { commits = refl; fresh = tt }
stored_keeps request t (Operation.LoadReserved rd a) = record { commits = refl; fresh = tt }
stored_keeps request t (Operation.StoreConditional rd a v) = record { commits = refl; fresh = tt }
stored_keeps request t (Operation.Amo op rd a v) = record { commits = refl; fresh = tt }

inside_keeps : (t : Parts) (c : Called) → CallKeeps t c → ServeKeeps t (inside_called c)
inside_keeps t c k = record { commits = k.commits; fresh = k.fresh }

kind_keeps : (o : Option Kind) (most k : ℕ) (ts : List Parts) (request : Option Request) (t : Parts) (m : List ℕ) (input : Option Input) → ServeKeeps t (serve_kind most o k ts request t m input)
kind_keeps None most k ts request t m input = record { commits = refl; fresh = tt }
kind_keeps (Some Kind.Call) most k ts request t m input =
    branch (ServeKeeps t) (is_outside t) (outside_called (need t m) request t input) (inside_called (called most (length m) k ts request t)) (λ _. outside_keeps (need t m) request t input)
    (λ _. inside_keeps t (called most (length m) k ts request t) (called_keeps most (length m) k ts request t))
kind_keeps (Some Kind.Break) most k ts request t m input = record { commits = refl; fresh = tt }
kind_keeps (Some Kind.DeviceLoad) most k ts request t m input = loaded_keeps request t _ input
kind_keeps (Some Kind.DeviceStore) most k ts request t m input = stored_keeps request t _
kind_keeps (Some (Kind.Fault cause)) most k ts request t m input = record { commits = refl; fresh = tt }

-- a serial step keeps its thread's number of commits, and those that it spawns are new
pub serve-keeps : (most k : ℕ) (ts : List Parts) (request : Option Request) (t : Parts) (m : List ℕ) (input : Option Input) → ServeKeeps t (serve most k ts request t m input)
unfolding serve
serve-keeps most k ts request t m input = kind_keeps _ most k ts request t m input
