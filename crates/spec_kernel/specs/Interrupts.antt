-- How a thread takes an interrupt.
use Rattle.std.specs.Prelude.{ℕ, Bool, true, false, not, ◌&&◌, nat_eq}
use Rattle.spec_isa.specs.declared.thread.Parts.{Parts}
use Rattle.spec_isa.specs.declared.thread.ThreadStatus.{ThreadStatus}
use Rattle.spec_isa.specs.Numbers.{register_a0, register_a1}
use Rattle.spec_isa.specs.Operations.{register, with_register}

abbrev pub lives : ThreadStatus → Bool
lives ThreadStatus.Live = true
lives (ThreadStatus.Ended code) = false
lives (ThreadStatus.Fault cause) = false

abbrev pub is_live : Parts → Bool
is_live t = lives t.status

abbrev pub has_handler : Parts → Bool
has_handler t = not (nat_eq t.handler 0)

-- a live thread with a handler takes one, unless one is being handled
abbrev pub takes_interrupt : Parts → Bool
takes_interrupt t = is_live t && has_handler t && not t.mask

-- the handler is entered with the value in a0; pc, a0 and a1 are saved until it returns
abbrev pub interrupted : (value : ℕ) → Parts → Parts
interrupted value t =
    record t {
      pc = t.handler;
      x = with_register t.x register_a0 value;
      mask = true;
      saved_pc = t.pc;
      saved_a0 = register t register_a0;
      saved_a1 = register t register_a1;
    }
