-- The calls that the kernel does by itself, and does again in a replay. The number is in a7, the arguments in a0 to a2;
-- the result goes to a0, and the pc moves on.
use Rattle.std.specs.Prelude.{ℕ, ◌+◌, ◌%◌, Bool, false, ◌&&◌, nat_eq, nat_le, nat_lt, List, [], ◌∷◌, length, slice_get, Option, Some, None, if◌then◌else◌}
use Rattle.dl_entry.specs.declared.Request.{Request}
use Rattle.spec_isa.specs.declared.thread.Parts.{Parts}
use Rattle.spec_isa.specs.declared.thread.ThreadStatus.{ThreadStatus}
use Rattle.spec_isa.specs.Numbers.{register_sp, register_a0, register_a1}
use Rattle.spec_isa.specs.Operations.{at_pc, following, with_register}
use Rattle.spec_isa.specs.Threads.{started}
use Rattle.spec_kernel.specs.Numbers.{call_exit, call_spawn, call_handler, call_iret, call_dma, call_self, call_yield, call_ended}
use Rattle.spec_kernel.specs.Needs.{number_of, a0, a1, a2, cut}
use Rattle.spec_kernel.specs.Answers.{unknown_call, bad_buffer, refused}
use Rattle.spec_kernel.specs.Interrupts.{is_live}

-- what a call leaves: the thread, the threads that it spawned, and the outstanding DMA request
pub record Called : Type 0 where
  pub thread : Parts
  pub spawned : List Parts
  pub request : Option Request

-- the thread with a result
abbrev pub with_result : ℕ → Parts → Parts
with_result result t = at_pc t register_a0 result (following t)

-- a result and nothing else
abbrev pub gives : Option Request → Parts → (result : ℕ) → Called
gives request t result = record { thread = with_result result t; spawned = []; request = request }

-- exit: the thread ends with the code; a0 stays as it is
abbrev pub exit : Option Request → Parts → Called
exit request t =
    record { thread = record t { pc = following t; status = ThreadStatus.Ended (a0 t) }; spawned = []; request = request }

-- a new thread at an entry, with its stack pointer, and with the argument in a0
abbrev pub spawned : (entry sp arg : ℕ) → Parts
spawned entry sp arg =
    let t = started entry in record t { x = with_register (with_register t.x register_sp sp) register_a0 arg }

-- spawn: the new thread's number; refused if the sphere has its most threads, or the entry isn't a code address
abbrev pub spawn : (most : ℕ) → List Parts → Option Request → Parts → Called
spawn most threads request t =
    if nat_lt (length threads) most && nat_eq (a0 t % 4) 0
    then record { thread = with_result (length threads) t; spawned = spawned (a0 t) (a1 t) (a2 t) ∷ []; request = request }
    else gives request t refused

-- handler: where interrupts go, 0 for none; refused if that isn't a code address
abbrev pub set_handler : Option Request → Parts → Called
set_handler request t =
    if nat_eq (a0 t % 4) 0
    then record { thread = with_result 0 (record t { handler = a0 t }); spawned = []; request = request }
    else gives request t refused

-- the thread where the interrupt came, with the pc, a0 and a1 that it had then
abbrev pub returned : Parts → Parts
returned t =
    record t {
      pc = t.saved_pc;
      x = with_register (with_register t.x register_a0 t.saved_a0) register_a1 t.saved_a1;
      mask = false;
      saved_pc = 0;
      saved_a0 = 0;
      saved_a1 = 0;
    }

-- iret: the handler returns; refused if none is running
abbrev pub iret : Option Request → Parts → Called
iret request t =
    if t.mask then record { thread = returned t; spawned = []; request = request } else gives request t refused

-- a DMA's buffer is aligned to words, and has one word before the bytes
abbrev pub is_dma_buffer : (size buf len : ℕ) → Bool
is_dma_buffer size buf len = nat_eq (buf % 4) 0 && nat_le (buf + 4 + len) size

-- dma: a request; refused if one is outstanding
abbrev pub request_dma : (size : ℕ) → Option Request → Parts → Called
request_dma size None t =
    if is_dma_buffer size (a0 t) (cut (a1 t))
    then gives (Some (record { buf = a0 t; len = cut (a1 t) })) t 0
    else gives None t bad_buffer
request_dma size (Some request) t =
    gives (Some request) t (if is_dma_buffer size (a0 t) (cut (a1 t)) then refused else bad_buffer)

-- ended: whether that thread is still live; refused if there is none
abbrev pub has_ended : Option Parts → ℕ
has_ended None = refused
has_ended (Some t) = if is_live t then 0 else 1

-- call by call, for thread number `number` of these, of which there may be at most so many, in a memory of that size
unfoldable pub called : (most size number : ℕ) → List Parts → Option Request → Parts → Called
called most size number threads request t =
    if nat_eq (number_of t) call_exit then exit request t
    else if nat_eq (number_of t) call_spawn then spawn most threads request t
    else if nat_eq (number_of t) call_handler then set_handler request t
    else if nat_eq (number_of t) call_iret then iret request t
    else if nat_eq (number_of t) call_dma then request_dma size request t
    else if nat_eq (number_of t) call_self then gives request t number
    else if nat_eq (number_of t) call_yield then gives request t 0
    else if nat_eq (number_of t) call_ended then gives request t (has_ended (slice_get threads (a0 t)))
    else gives request t unknown_call
