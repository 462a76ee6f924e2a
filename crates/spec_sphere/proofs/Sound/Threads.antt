-- Threads stay threads: an instruction, a serial step and an interrupt keep their places in the code multiples of 4 and
-- register 0 at 0.
use Rattle.std.proofs.Common.{◌≡◌, ℕ, ◌+◌, ◌%◌, ◌≤◌, true, ◌&&◌, eqb, cond, List, [], ◌∷◌, length, Option, Some, None, refl, sym, ◌∙◌, arith, get_or-set_other}
use Rattle.std.specs.Prelude.{slice_index, slice_set, replicate, nat_le, nat_lt, take, drop}
use Rattle.std.proofs.Math.ListN.{length-set}
use Rattle.std.proofs.lemmas.Bool.{eqb-true, eqb-false, and_parts, leb-true}
use Rattle.std.proofs.lemmas.Option.{none-some}
use Rattle.dl_entry.specs.declared.Input.{Input}
use Rattle.dl_entry.specs.declared.Request.{Request}
use Rattle.spec_isa.specs.declared.thread.Parts.{Parts}
use Rattle.spec_isa.specs.declared.thread.Kind.{Kind}
use Rattle.spec_isa.specs.declared.operation.Operation.{Operation}
use Rattle.spec_isa.specs.Operations.{with_register, following, at_pc, refuses, loaded, thread_then, reserves}
use Rattle.spec_isa.specs.Threads.{IsThread, started}
use Rattle.spec_kernel.specs.Needs.{Need, Write, Read, Random, Clock, MomentWord, InputWord, number_of, a0, a1, a2, cut, if_inside, need_of_write, need_of_read, need_of_random, need_of_call, need_of_load, need_of, next_kind, next_operation, need}
use Rattle.spec_kernel.specs.Answers.{refused, bad_buffer}
use Rattle.spec_kernel.specs.Interrupts.{interrupted}
use Rattle.spec_kernel.specs.Calls.{Called, with_result, gives, exit, spawned, spawn, set_handler, returned, iret, is_dma_buffer, request_dma, called}
use Rattle.spec_kernel.specs.Serving.{StepResult, alone, copy_of, outside_called, inside_called, is_outside, device_loaded, device_stored, faulted, serve_kind, serve}
use Rattle.spec_sphere.specs.promises.Sound.{AreSoundWords, IsSoundRequest, IsSoundIf}
use Rattle.spec_sphere.proofs.Moves.Threads.{any-call}
use Rattle.spec_sphere.proofs.Moves.Granted.{either_serve}
use Rattle.spec_play.proofs.Threads.{branch}
use Rattle.spec_sphere.proofs.Sound.Words.{sound-none, copied-sound}

-- ---- registers and the pc

-- register 0 is still 0 after a value is put into any register
pub register-zero : (x : List ℕ) (n v : ℕ) → slice_index x 0 ≡ 0 → slice_index (with_register x n v) 0 ≡ 0
register-zero x n v e =
    branch (λ (y : List ℕ). slice_index y 0 ≡ 0) (eqb n 0) x (slice_set x n v) (λ _. e)
    (λ h. get_or-set_other x n 0 v 0 (λ same. eqb-false n 0 h (sym same)) ∙ e)

-- there are still 32 registers after a value is put into one
pub register-length : (x : List ℕ) (n v : ℕ) → length x ≡ 32 → length (with_register x n v) ≡ 32
register-length x n v e =
    branch (λ (y : List ℕ). length y ≡ 32) (eqb n 0) x (slice_set x n v) (λ _. e) (λ _. length-set x n v ∙ e)

following-aligned : (t : Parts) → t.pc % 4 ≡ 0 → following t % 4 ≡ 0
following-aligned t e = omega (arith, e)

at-thread : (t : Parts) (rd value pc : ℕ) → pc % 4 ≡ 0 → IsThread t → IsThread (at_pc t rd value pc)
at-thread t rd value pc e is =
    record {
      pc = e;
      saved_pc = is.saved_pc;
      handler = is.handler;
      zero = register-zero t.x rd value is.zero;
      registers = register-length t.x rd value is.registers;
    }

follows-thread : (t : Parts) (rd value : ℕ) → IsThread t → IsThread (at_pc t rd value (following t))
follows-thread t rd value is = at-thread t rd value (following t) (following-aligned t is.pc) is

-- ---- instructions

jump-aligned : (pc : ℕ) (kind : Kind) → cond (eqb (pc % 4) 0) None (Some kind) ≡ None → pc % 4 ≡ 0
jump-aligned pc kind e =
    branch (λ (o : Option Kind). o ≡ None → pc % 4 ≡ 0) (eqb (pc % 4) 0) None (Some kind) (λ h _. eqb-true (pc % 4) 0 h) (λ _ q. absurd (none-some kind (sym q))) e

-- what an instruction leaves that is run
pub then-thread : (size : ℕ) (p : Operation) (t : Parts) (w : ℕ) → refuses size p ≡ None → IsThread t → IsThread (thread_then p t w)
then-thread size (Operation.Go rd value pc) t w e is = at-thread t rd value pc (jump-aligned pc (Kind.Fault 0) e) is
then-thread size (Operation.Stop kind) t w e is = is
then-thread size (Operation.Load op rd a) t w e is = follows-thread t rd (loaded op w a) is
then-thread size (Operation.Store op a v) t w e is = follows-thread t 0 0 is
then-thread size (Operation.LoadReserved rd a) t w e is =
    let k = follows-thread t rd w is in record { pc = k.pc; saved_pc = k.saved_pc; handler = k.handler; zero = k.zero; registers = k.registers }
then-thread size (Operation.StoreConditional rd a v) t w e is =
    let k = follows-thread t rd (cond (reserves t.reservation a) 0 1) is in
    record { pc = k.pc; saved_pc = k.saved_pc; handler = k.handler; zero = k.zero; registers = k.registers }
then-thread size (Operation.Amo op rd a v) t w e is = follows-thread t rd w is

-- ---- interrupts

-- an interrupted thread is a thread still
pub interrupted-thread : (value : ℕ) (t : Parts) → IsThread t → IsThread (interrupted value t)
interrupted-thread value t is =
    record {
      pc = is.handler;
      saved_pc = is.pc;
      handler = is.handler;
      zero = register-zero t.x 10 value is.zero;
      registers = register-length t.x 10 value is.registers;
    }

-- ---- a new thread

-- a thread that starts at a multiple of 4 is a thread
pub started-thread : (entry : ℕ) → entry % 4 ≡ 0 → IsThread (started entry)
started-thread entry e = record { pc = e; saved_pc = refl; handler = refl; zero = refl; registers = refl }

spawned-thread : (entry sp arg : ℕ) → entry % 4 ≡ 0 → IsThread (spawned entry sp arg)
spawned-thread entry sp arg e =
    let x = replicate 32 0 in
    record {
      pc = e;
      saved_pc = refl;
      handler = refl;
      zero = register-zero (with_register x 2 sp) 10 arg (register-zero x 2 sp refl);
      registers = register-length (with_register x 2 sp) 10 arg (register-length x 2 sp refl);
    }

-- ---- calls

-- each of them is a thread
abbrev pub AreThreads : List Parts → Type 0
AreThreads [] = Unit {0}
AreThreads (t ∷ ts) = IsThread t × AreThreads ts

-- what a call leaves in a memory of that size
record IsSoundCall (size : ℕ) (c : Called) : Type 0 where
  thread : IsThread c.thread
  spawned : AreThreads c.spawned
  request : IsSoundIf size c.request

gives-sound : (size : ℕ) (request : Option Request) (t : Parts) (n : ℕ) → IsThread t → IsSoundIf size request → IsSoundCall size (gives request t n)
gives-sound size request t n is sound = record { thread = follows-thread t 10 n is; spawned = tt; request = sound }

exit-sound : (size : ℕ) (request : Option Request) (t : Parts) → IsThread t → IsSoundIf size request → IsSoundCall size (exit request t)
exit-sound size request t is sound =
    record {
      thread = record { pc = following-aligned t is.pc; saved_pc = is.saved_pc; handler = is.handler; zero = is.zero; registers = is.registers };
      spawned = tt;
      request = sound;
    }

spawn-sound : (most size : ℕ) (ts : List Parts) (request : Option Request) (t : Parts) → IsThread t → IsSoundIf size request → IsSoundCall size (spawn most ts request t)
spawn-sound most size ts request t is sound =
    branch (IsSoundCall size) (nat_lt (length ts) most && eqb (a0 t % 4) 0)
    (record { thread = with_result (length ts) t; spawned = spawned (a0 t) (a1 t) (a2 t) ∷ []; request = request })
    (gives request t refused)
    (λ e. record {
      thread = follows-thread t 10 (length ts) is;
      spawned = (spawned-thread (a0 t) (a1 t) (a2 t) (eqb-true (a0 t % 4) 0 (and_parts (nat_lt (length ts) most) (eqb (a0 t % 4) 0) e).1), tt);
      request = sound;
    })
    (λ _. gives-sound size request t refused is sound)

handler-sound : (size : ℕ) (request : Option Request) (t : Parts) → IsThread t → IsSoundIf size request → IsSoundCall size (set_handler request t)
handler-sound size request t is sound =
    branch (IsSoundCall size) (eqb (a0 t % 4) 0)
    (record { thread = with_result 0 (record t { handler = a0 t }); spawned = []; request = request })
    (gives request t refused)
    (λ e. record {
      thread = record {
        pc = following-aligned t is.pc;
        saved_pc = is.saved_pc;
        handler = eqb-true (a0 t % 4) 0 e;
        zero = register-zero t.x 10 0 is.zero;
        registers = register-length t.x 10 0 is.registers;
      };
      spawned = tt;
      request = sound;
    })
    (λ _. gives-sound size request t refused is sound)

returned-thread : (t : Parts) → IsThread t → IsThread (returned t)
returned-thread t is =
    record {
      pc = is.saved_pc;
      saved_pc = refl;
      handler = is.handler;
      zero = register-zero (with_register t.x 10 t.saved_a0) 11 t.saved_a1 (register-zero t.x 10 t.saved_a0 is.zero);
      registers = register-length (with_register t.x 10 t.saved_a0) 11 t.saved_a1 (register-length t.x 10 t.saved_a0 is.registers);
    }

iret-sound : (size : ℕ) (request : Option Request) (t : Parts) → IsThread t → IsSoundIf size request → IsSoundCall size (iret request t)
iret-sound size request t is sound =
    branch (IsSoundCall size) t.mask (record { thread = returned t; spawned = []; request = request }) (gives request t refused)
    (λ _. record { thread = returned-thread t is; spawned = tt; request = sound })
    (λ _. gives-sound size request t refused is sound)

cut-most : (len : ℕ) → cut len ≤ 4096
cut-most len = omega arith

buffer-sound : (size buf len : ℕ) → is_dma_buffer size buf (cut len) ≡ true → IsSoundRequest size (record { buf = buf; len = cut len })
buffer-sound size buf len e =
    let p = and_parts (eqb (buf % 4) 0) (nat_le (buf + 4 + cut len) size) e in
    record { aligned = eqb-true (buf % 4) 0 p.0; inside = leb-true (buf + 4 + cut len) size p.1; few = cut-most len }

dma-call-sound : (size : ℕ) (request : Option Request) (t : Parts) → IsThread t → IsSoundIf size request → IsSoundCall size (request_dma size request t)
dma-call-sound size None t is sound =
    let q : Option Request = Some (record { buf = a0 t; len = cut (a1 t) }) in
    branch (IsSoundCall size) (is_dma_buffer size (a0 t) (cut (a1 t))) (gives q t 0) (gives None t bad_buffer)
    (λ e. gives-sound size q t 0 is (buffer-sound size (a0 t) (a1 t) e))
    (λ _. gives-sound size None t bad_buffer is tt)
dma-call-sound size (Some request) t is sound = gives-sound size (Some request) t _ is sound

called-sound : (most size k : ℕ) (ts : List Parts) (request : Option Request) (t : Parts) → IsThread t → IsSoundIf size request → IsSoundCall size (called most size k ts request t)
called-sound most size k ts request t is sound =
    any-call (IsSoundCall size) most size k ts request t (λ m. gives-sound size request t m is sound) (exit-sound size request t is sound) (spawn-sound most size ts request t is sound) (handler-sound size request t is sound) (iret-sound size request t is sound)
    (dma-call-sound size request t is sound)

-- ---- what a step wants has room in the memory

abbrev HasRoom : (size : ℕ) → Option Need → Type 0
HasRoom size None = Unit {0}
HasRoom size (Some (Write channel bytes)) = Unit {0}
HasRoom size (Some (Read channel buf len)) = buf + len ≤ size
HasRoom size (Some (Random buf len)) = buf + len ≤ size
HasRoom size (Some Clock) = Unit {0}
HasRoom size (Some MomentWord) = Unit {0}
HasRoom size (Some InputWord) = Unit {0}

if-room : (size buf len : ℕ) (n : Need) → (buf + len ≤ size → HasRoom size (Some n)) → HasRoom size (if_inside size buf len n)
if-room size buf len n room =
    branch (HasRoom size) (nat_le (buf + len) size) (Some n) None (λ e. room (leb-true (buf + len) size e)) (λ _. tt)

call-room : (t : Parts) (m : List ℕ) → HasRoom (length m) (need_of_call t m)
call-room t m =
    let n = number_of t in
    let n5 = cond (eqb n 5) (Some Clock) None in
    let n4 = cond (eqb n 4) (need_of_random t m) n5 in
    let n3 = cond (eqb n 3) (need_of_read t m) n4 in
    branch (HasRoom (length m)) (eqb n 2) (need_of_write t m) n3
    (λ _. if-room (length m) (a1 t) (cut (a2 t)) (Write (a0 t) (take (cut (a2 t)) (drop (a1 t) m))) (λ _. tt))
    (λ _. branch (HasRoom (length m)) (eqb n 3) (need_of_read t m) n4
    (λ _. if-room (length m) (a1 t) (cut (a2 t)) (Read (a0 t) (a1 t) (cut (a2 t))) (λ l. l))
    (λ _. branch (HasRoom (length m)) (eqb n 4) (need_of_random t m) n5
    (λ _. if-room (length m) (a0 t) (cut (a1 t)) (Random (a0 t) (cut (a1 t))) (λ l. l))
    (λ _. branch (HasRoom (length m)) (eqb n 5) (Some Clock) None (λ _. tt) (λ _. tt))))

load-room : (size : ℕ) (p : Operation) → HasRoom size (need_of_load p)
load-room size (Operation.Load op rd a) =
    branch (λ (n : Need). HasRoom size (Some n)) (eqb a 0xF0000000) MomentWord InputWord (λ _. tt) (λ _. tt)
load-room size (Operation.Go rd value pc) = tt
load-room size (Operation.Stop kind) = tt
load-room size (Operation.Store op a v) = tt
load-room size (Operation.LoadReserved rd a) = tt
load-room size (Operation.StoreConditional rd a v) = tt
load-room size (Operation.Amo op rd a v) = tt

kind-room : (o : Option Kind) (t : Parts) (m : List ℕ) → HasRoom (length m) (need_of o t m)
kind-room None t m = tt
kind-room (Some Kind.Call) t m = call-room t m
kind-room (Some Kind.Break) t m = tt
kind-room (Some Kind.DeviceLoad) t m = load-room (length m) (next_operation t m)
kind-room (Some Kind.DeviceStore) t m = tt
kind-room (Some (Kind.Fault cause)) t m = tt

need-room : (t : Parts) (m : List ℕ) → HasRoom (length m) (need t m)
unfolding need
need-room t m = kind-room (next_kind t m) t m

-- ---- what comes for it is no longer than was wanted

-- an input brings no more bytes than the need has room for
abbrev pub Brings : Option Need → Input → Type 0
Brings None r = Unit {0}
Brings (Some (Write channel bytes)) r = Unit {0}
Brings (Some (Read channel buf len)) r = length r.bytes ≤ len
Brings (Some (Random buf len)) r = length r.bytes ≤ len
Brings (Some Clock) r = Unit {0}
Brings (Some MomentWord) r = Unit {0}
Brings (Some InputWord) r = Unit {0}

-- an input, if there is one, brings no more than the need has room for
abbrev pub BringsIf : Option Need → Option Input → Type 0
BringsIf need None = Unit {0}
BringsIf need (Some r) = Brings need r

-- ---- serial steps

-- what a serial step leaves in a memory of that size
pub record IsSoundStepResult (size : ℕ) (v : StepResult) : Type 0 where
  pub thread : IsThread v.thread
  pub spawned : AreThreads v.spawned
  pub request : IsSoundIf size v.request
  pub words : AreSoundWords size v.words

copy-words : (size : ℕ) (o : Option Need) (r : Input) → size % 4 ≡ 0 → HasRoom size o → Brings o r → AreSoundWords size (copy_of o r)
copy-words size None r whole room brings = sound-none size
copy-words size (Some (Write channel bytes)) r whole room brings = sound-none size
copy-words size (Some (Read channel buf len)) r whole room brings = copied-sound size buf r.bytes whole (omega (arith, room, brings))
copy-words size (Some (Random buf len)) r whole room brings = copied-sound size buf r.bytes whole (omega (arith, room, brings))
copy-words size (Some Clock) r whole room brings = sound-none size
copy-words size (Some MomentWord) r whole room brings = sound-none size
copy-words size (Some InputWord) r whole room brings = sound-none size

outside-sound : (size : ℕ) (o : Option Need) (request : Option Request) (t : Parts) (input : Option Input) → size % 4 ≡ 0 → HasRoom size o → BringsIf o input → IsThread t → IsSoundIf size request → IsSoundStepResult size (outside_called o request t input)
outside-sound size o request t None whole room brings is sound =
    record { thread = follows-thread t 10 bad_buffer is; spawned = tt; request = sound; words = sound-none size }
outside-sound size o request t (Some r) whole room brings is sound =
    record { thread = follows-thread t 10 r.result is; spawned = tt; request = sound; words = copy-words size o r whole room brings }

alone-sound : (size : ℕ) (request : Option Request) (t : Parts) → IsThread t → IsSoundIf size request → IsSoundStepResult size (alone request t)
alone-sound size request t is sound = record { thread = is; spawned = tt; request = sound; words = sound-none size }

loaded-sound : (size : ℕ) (request : Option Request) (t : Parts) (p : Operation) (input : Option Input) → IsThread t → IsSoundIf size request → IsSoundStepResult size (device_loaded request t p input)
loaded-sound size request t (Operation.Load op rd a) (Some r) is sound =
    record { thread = follows-thread t rd r.result is; spawned = tt; request = sound; words = sound-none size }
loaded-sound size request t (Operation.Load op rd a) None is sound = alone-sound size request t is sound
loaded-sound size request t (Operation.Go rd value pc) input is sound = alone-sound size request t is sound
loaded-sound size request t (Operation.Stop kind) input is sound = alone-sound size request t is sound
loaded-sound size request t (Operation.Store op a v) input is sound = alone-sound size request t is sound
loaded-sound size request t (Operation.LoadReserved rd a) input is sound = alone-sound size request t is sound
loaded-sound size request t (Operation.StoreConditional rd a v) input is sound = alone-sound size request t is sound
loaded-sound size request t (Operation.Amo op rd a v) input is sound = alone-sound size request t is sound

device_stored-sound : (size : ℕ) (request : Option Request) (t : Parts) (p : Operation) → IsThread t → IsSoundIf size request → IsSoundStepResult size (device_stored request t p)
device_stored-sound size request t (Operation.Store op a v) is sound =
    record {
      thread = record { pc = following-aligned t is.pc; saved_pc = is.saved_pc; handler = is.handler; zero = is.zero; registers = is.registers };
      spawned = tt;
      request = sound;
      words = sound-none size;
    }
device_stored-sound size request t (Operation.Load op rd a) is sound = alone-sound size request t is sound
device_stored-sound size request t (Operation.Go rd value pc) is sound = alone-sound size request t is sound
device_stored-sound size request t (Operation.Stop kind) is sound = alone-sound size request t is sound
device_stored-sound size request t (Operation.LoadReserved rd a) is sound = alone-sound size request t is sound
device_stored-sound size request t (Operation.StoreConditional rd a v) is sound = alone-sound size request t is sound
device_stored-sound size request t (Operation.Amo op rd a v) is sound = alone-sound size request t is sound

fault-sound : (size cause : ℕ) (request : Option Request) (t : Parts) → IsThread t → IsSoundIf size request → IsSoundStepResult size (alone request (faulted cause t))
fault-sound size cause request t is sound =
    alone-sound size request (faulted cause t) (record { pc = is.pc; saved_pc = is.saved_pc; handler = is.handler; zero = is.zero; registers = is.registers }) sound

inside-sound : (size : ℕ) (c : Called) → IsSoundCall size c → IsSoundStepResult size (inside_called c)
inside-sound size c s = record { thread = s.thread; spawned = s.spawned; request = s.request; words = sound-none size }

kind-sound : (o : Option Kind) (most k : ℕ) (ts : List Parts) (request : Option Request) (t : Parts) (m : List ℕ) (input : Option Input) → length m % 4 ≡ 0 → BringsIf (need t m) input → IsThread t → IsSoundIf (length m) request
    → IsSoundStepResult (length m) (serve_kind most o k ts request t m input)
kind-sound None most k ts request t m input whole brings is sound = alone-sound (length m) request t is sound
kind-sound (Some Kind.Call) most k ts request t m input whole brings is sound =
    either_serve (IsSoundStepResult (length m)) (is_outside t) (outside_called (need t m) request t input) (inside_called (called most (length m) k ts request t))
    (outside-sound (length m) (need t m) request t input whole (need-room t m) brings is sound)
    (inside-sound (length m) (called most (length m) k ts request t) (called-sound most (length m) k ts request t is sound))
kind-sound (Some Kind.Break) most k ts request t m input whole brings is sound = fault-sound (length m) 3 request t is sound
kind-sound (Some Kind.DeviceLoad) most k ts request t m input whole brings is sound = loaded-sound (length m) request t (next_operation t m) input is sound
kind-sound (Some Kind.DeviceStore) most k ts request t m input whole brings is sound = device_stored-sound (length m) request t (next_operation t m) is sound
kind-sound (Some (Kind.Fault cause)) most k ts request t m input whole brings is sound = fault-sound (length m) cause request t is sound

-- a serial step leaves sound threads, words and requests
pub serve-sound : (most k : ℕ) (ts : List Parts) (request : Option Request) (t : Parts) (m : List ℕ) (input : Option Input) → length m % 4 ≡ 0 → BringsIf (need t m) input → IsThread t → IsSoundIf (length m) request
    → IsSoundStepResult (length m) (serve most k ts request t m input)
unfolding serve
serve-sound most k ts request t m input whole brings is sound = kind-sound (next_kind t m) most k ts request t m input whole brings is sound
