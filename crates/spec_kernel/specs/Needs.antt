-- What a thread's next step, if it is serial, needs from outside.
use Rattle.std.specs.Prelude.{ℕ, ◌+◌, ◌/◌, min, nat_eq, nat_le, List, length, take, drop, Option, Some, None, if◌then◌else◌}
use Rattle.dl_entry.specs.Numbers.{most_bytes}
use Rattle.spec_isa.specs.declared.thread.Parts.{Parts}
use Rattle.spec_isa.specs.declared.thread.Kind.{Kind}
use Rattle.spec_isa.specs.declared.operation.Operation.{Operation}
use Rattle.spec_isa.specs.Numbers.{register_a0, register_a1, register_a2, register_a7, moment_address}
use Rattle.spec_isa.specs.Words.{read}
use Rattle.spec_isa.specs.Operations.{register}
use Rattle.spec_isa.specs.Instruction.{serial_of, operation_of}
use Rattle.spec_kernel.specs.Numbers.{call_write, call_read, call_random, call_clock}

-- ---- the next instruction

-- the word that is fetched
abbrev pub fetched : Parts → List ℕ → ℕ
fetched t m = read m (t.pc / 4)

-- why it is serial, or none if it is not
unfoldable pub next_kind : Parts → List ℕ → Option Kind
next_kind t m = serial_of t (fetched t m) (length m)

-- what it is to do, once its registers are read
unfoldable pub next_operation : Parts → List ℕ → Operation
next_operation t m = operation_of t (fetched t m)

-- ---- the outside answer

pub data Need : Type 0 where
  -- to put these bytes on a channel
  Write : (channel : ℕ) (bytes : List ℕ) → Need
  -- at most this many bytes from a channel, for a buffer
  Read : (channel buf len : ℕ) → Need
  -- this many random bytes, for a buffer
  Random : (buf len : ℕ) → Need
  -- the moment
  Clock : Need
  -- the moment, by a load of its device word
  MomentWord : Need
  -- the next byte of the input, by a load of its device word
  InputWord : Need

-- the number of a call, and its arguments
abbrev pub number_of : Parts → ℕ
number_of t = register t register_a7

abbrev pub a0 : Parts → ℕ
a0 t = register t register_a0

abbrev pub a1 : Parts → ℕ
a1 t = register t register_a1

abbrev pub a2 : Parts → ℕ
a2 t = register t register_a2

-- lengths are capped at 4,096
abbrev pub cut : ℕ → ℕ
cut len = min len most_bytes

-- a buffer that ends beyond the memory is bad, and nothing is needed for it
abbrev pub if_inside : (size buf len : ℕ) → Need → Option Need
if_inside size buf len need = if nat_le (buf + len) size then Some need else None

abbrev pub need_of_write : Parts → List ℕ → Option Need
need_of_write t m =
    let buf = a1 t in
    let len = cut (a2 t) in if_inside (length m) buf len (Write (a0 t) (take len (drop buf m)))

abbrev pub need_of_read : Parts → List ℕ → Option Need
need_of_read t m =
    let buf = a1 t in
    let len = cut (a2 t) in if_inside (length m) buf len (Read (a0 t) buf len)

abbrev pub need_of_random : Parts → List ℕ → Option Need
need_of_random t m =
    let buf = a0 t in
    let len = cut (a1 t) in if_inside (length m) buf len (Random buf len)

-- write, read, random and clock go outside
abbrev pub need_of_call : Parts → List ℕ → Option Need
need_of_call t m =
    if nat_eq (number_of t) call_write then need_of_write t m
    else if nat_eq (number_of t) call_read then need_of_read t m
    else if nat_eq (number_of t) call_random then need_of_random t m
    else if nat_eq (number_of t) call_clock then Some Clock
    else None

-- a load of the moment's word, or of the input's word
abbrev pub need_of_load : Operation → Option Need
need_of_load (Operation.Load op rd a) = Some (if nat_eq a moment_address then MomentWord else InputWord)
need_of_load _ = None

abbrev pub need_of : Option Kind → Parts → List ℕ → Option Need
need_of (Some Kind.Call) t m = need_of_call t m
need_of (Some Kind.DeviceLoad) t m = need_of_load (next_operation t m)
need_of (Some Kind.Break) t m = None
need_of (Some Kind.DeviceStore) t m = None
need_of (Some (Kind.Fault cause)) t m = None
need_of None t m = None

-- what the next step needs, if anything
unfoldable pub need : Parts → List ℕ → Option Need
need t m = need_of (next_kind t m) t m
