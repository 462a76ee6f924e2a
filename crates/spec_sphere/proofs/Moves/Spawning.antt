-- A sphere has no more threads than it may: at that number no step spawns another.
use Rattle.std.proofs.Common.{◌≡◌, ℕ, ◌+◌, ◌≤◌, Bool, true, false, ◌&&◌, eqb, cond, List, [], ◌∷◌, length, Option, Some, None, refl, arith}
use Rattle.std.specs.Prelude.{nat_lt, ◌%◌}
use Rattle.std.proofs.lemmas.Bool.{and_parts, ltb-true}
use Rattle.dl_entry.specs.declared.Input.{Input}
use Rattle.dl_entry.specs.declared.Request.{Request}
use Rattle.spec_isa.specs.declared.thread.Parts.{Parts}
use Rattle.spec_isa.specs.declared.thread.Kind.{Kind}
use Rattle.spec_isa.specs.declared.operation.Operation.{Operation}
use Rattle.spec_kernel.specs.Needs.{Need, a0, a1, a2, cut, need}
use Rattle.spec_kernel.specs.Answers.{refused, bad_buffer}
use Rattle.spec_kernel.specs.Calls.{Called, gives, spawned, spawn, set_handler, iret, is_dma_buffer, request_dma, called, with_result, returned}
use Rattle.spec_kernel.specs.Serving.{StepResult, outside_called, is_outside, inside_called, device_loaded, device_stored, serve_kind, serve}
use Rattle.spec_sphere.proofs.Moves.Threads.{any-call}
use Rattle.spec_sphere.proofs.Moves.Granted.{either_serve}

-- with the threads that were spawned there are at most so many
abbrev pub AreFew : (most : ℕ) → List Parts → List Parts → Type 0
AreFew most ts spawned = length ts + length spawned ≤ most

abbrev CallFew : (most : ℕ) → List Parts → Called → Type 0
CallFew most ts c = AreFew most ts c.spawned

either : (P : Called → Type 0) (b : Bool) (x y : Called) → (b ≡ true → P x) → P y → P (cond b x y)
either P true x y p q = p refl
either P false x y p q = q

none_few : (most : ℕ) (ts : List Parts) → length ts ≤ most → AreFew most ts []
none_few most ts few = omega (arith, few)

spawn_few : (most : ℕ) (ts : List Parts) (request : Option Request) (t : Parts) → length ts ≤ most → CallFew most ts (spawn most ts request t)
spawn_few most ts request t few =
    either (CallFew most ts) (nat_lt (length ts) most && eqb (a0 t % 4) 0)
    (record { thread = with_result (length ts) t; spawned = spawned (a0 t) (a1 t) (a2 t) ∷ []; request = request })
    (gives request t refused)
    (λ e. let h = ltb-true (length ts) most ((and_parts (nat_lt (length ts) most) (eqb (a0 t % 4) 0) e).0) in omega arith)
    (none_few most ts few)

handler_few : (most : ℕ) (ts : List Parts) (request : Option Request) (t : Parts) → length ts ≤ most → CallFew most ts (set_handler request t)
handler_few most ts request t few =
    either (CallFew most ts) (eqb (a0 t % 4) 0) (record { thread = with_result 0 (record t { handler = a0 t }); spawned = []; request = request }) (gives request t refused) (λ e. none_few most ts few) (none_few most ts few)

iret_few : (most : ℕ) (ts : List Parts) (request : Option Request) (t : Parts) → length ts ≤ most → CallFew most ts (iret request t)
iret_few most ts request t few =
    either (CallFew most ts) t.mask (record { thread = returned t; spawned = []; request = request }) (gives request t refused) (λ e. none_few most ts few) (none_few most ts few)

dma_few : (most : ℕ) (ts : List Parts) (size : ℕ) (request : Option Request) (t : Parts) → length ts ≤ most → CallFew most ts (request_dma size request t)
dma_few most ts size None t few =
    let q : Option Request = Some (record { buf = a0 t; len = cut (a1 t) }) in
    either (CallFew most ts) (is_dma_buffer size (a0 t) (cut (a1 t))) (gives q t 0) (gives None t bad_buffer) (λ e. none_few most ts few) (none_few most ts few)
dma_few most ts size (Some request) t few = none_few most ts few

called_few : (most size k : ℕ) (ts : List Parts) (request : Option Request) (t : Parts) → length ts ≤ most → CallFew most ts (called most size k ts request t)
called_few most size k ts request t few =
    let none : AreFew most ts [] = none_few most ts few in
    any-call (CallFew most ts) most size k ts request t (λ m. none) none (spawn_few most ts request t few) (handler_few most ts request t few) (iret_few most ts request t few) (dma_few most ts size request t few)

-- ---- serial steps

abbrev ServeFew : (most : ℕ) → List Parts → StepResult → Type 0
ServeFew most ts v = AreFew most ts v.spawned

outside_few : (most : ℕ) (ts : List Parts) (o : Option Need) (request : Option Request) (t : Parts) (input : Option Input) → length ts ≤ most → ServeFew most ts (outside_called o request t input)
outside_few most ts o request t None few = none_few most ts few
outside_few most ts o request t (Some r) few = none_few most ts few

loaded_few : (most : ℕ) (ts : List Parts) (request : Option Request) (t : Parts) (p : Operation) (input : Option Input) → length ts ≤ most → ServeFew most ts (device_loaded request t p input)
loaded_few most ts request t (Operation.Load op rd a) (Some r) few = none_few most ts few
loaded_few most ts request t (Operation.Load op rd a) None few = none_few most ts few
loaded_few most ts request t (Operation.Go rd value pc) input few = none_few most ts few
loaded_few most ts request t (Operation.Stop kind) input few = none_few most ts few
loaded_few most ts request t (Operation.Store op a v) input few = none_few most ts few
loaded_few most ts request t (Operation.LoadReserved rd a) input few = none_few most ts few
loaded_few most ts request t (Operation.StoreConditional rd a v) input few = none_few most ts few
loaded_few most ts request t (Operation.Amo op rd a v) input few = none_few most ts few

stored_few : (most : ℕ) (ts : List Parts) (request : Option Request) (t : Parts) (p : Operation) → length ts ≤ most → ServeFew most ts (device_stored request t p)
stored_few most ts request t (Operation.Load op rd a) few = none_few most ts few
stored_few most ts request t (Operation.Go rd value pc) few = none_few most ts few
stored_few most ts request t (Operation.Stop kind) few = none_few most ts few
stored_few most ts request t (Operation.Store op a v) few = none_few most ts few
stored_few most ts request t (Operation.LoadReserved rd a) few = none_few most ts few
stored_few most ts request t (Operation.StoreConditional rd a v) few = none_few most ts few
stored_few most ts request t (Operation.Amo op rd a v) few = none_few most ts few

kind_few : (o : Option Kind) (most k : ℕ) (ts : List Parts) (request : Option Request) (t : Parts) (m : List ℕ) (input : Option Input) → length ts ≤ most → ServeFew most ts (serve_kind most o k ts request t m input)
kind_few None most k ts request t m input few = none_few most ts few
kind_few (Some Kind.Call) most k ts request t m input few =
    either_serve (ServeFew most ts) (is_outside t) (outside_called (need t m) request t input) (inside_called (called most (length m) k ts request t)) (outside_few most ts (need t m) request t input few)
    (called_few most (length m) k ts request t few)
kind_few (Some Kind.Break) most k ts request t m input few = none_few most ts few
kind_few (Some Kind.DeviceLoad) most k ts request t m input few = loaded_few most ts request t _ input few
kind_few (Some Kind.DeviceStore) most k ts request t m input few = stored_few most ts request t _ few
kind_few (Some (Kind.Fault cause)) most k ts request t m input few = none_few most ts few

-- a serial step leaves no more threads than there may be, if there were no more before it
pub serve-few : (most k : ℕ) (ts : List Parts) (request : Option Request) (t : Parts) (m : List ℕ) (input : Option Input) → length ts ≤ most → AreFew most ts (serve most k ts request t m input).spawned
unfolding serve
serve-few most k ts request t m input few = kind_few _ most k ts request t m input few
