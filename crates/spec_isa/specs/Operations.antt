-- What each instruction does: first, from the registers alone, an operation; then what that operation asks of memory and what it leaves.
use Rattle.std.specs.Prelude.{ℕ, ◌+◌, ◌-◌, ◌*◌, ◌/◌, ◌%◌, ◌^◌, Bool, false, nat_eq, nat_le, nat_lt, ◌&&◌, ◌||◌, List, slice_index, slice_set, Option}
use Rattle.std.specs.Prelude.{Some, None, if◌then◌else◌}
use Rattle.spec_isa.specs.declared.instr.LoadOp.{LoadOp}
use Rattle.spec_isa.specs.declared.instr.StoreOp.{StoreOp}
use Rattle.spec_isa.specs.declared.instr.Instr.{Instr}
use Rattle.spec_isa.specs.declared.thread.Parts.{Parts}
use Rattle.spec_isa.specs.declared.thread.Load.{Load}
use Rattle.spec_isa.specs.declared.thread.Kind.{Kind}
use Rattle.spec_isa.specs.declared.operation.Operation.{Operation}
use Rattle.spec_isa.specs.Numbers.{jump_misaligned, load_misaligned, load_outside, store_misaligned, store_outside, moment_address, input_address}
use Rattle.spec_isa.specs.Numbers.{console_address}
use Rattle.spec_isa.specs.Arithmetic.{add, extended, holds, immediate_result, shift_result, register_result, amo_result}
use Rattle.spec_isa.specs.Words.{Stored, is_inside}
use Rattle.spec_isa.specs.Masks.{some_if}

-- ---- registers

abbrev pub register : Parts → ℕ → ℕ
register t n = slice_index t.x n

-- register 0 keeps its 0
abbrev pub with_register : List ℕ → ℕ → ℕ → List ℕ
with_register x n v = if nat_eq n 0 then x else slice_set x n v

abbrev pub following : Parts → ℕ
following t = add t.pc 4

-- rd takes the value, and the thread goes on at the pc
abbrev pub at_pc : Parts → (rd value pc : ℕ) → Parts
at_pc t rd value pc = record t { pc = pc; x = with_register t.x rd value }

-- ---- what is to be done, once the registers are read

-- offsets of branches and jumps leave out their lowest bit
abbrev pub branched : Parts → Bool → ℕ → Operation
branched t taken offset = Operation.Go 0 0 (if taken then add t.pc (extended 13 (offset * 2)) else following t)

-- JALR clears the lowest bit of its target
abbrev pub operation : Instr → Parts → Operation
operation (Instr.Lui rd imm) t = Operation.Go rd (imm * 2 ^ 12) (following t)
operation (Instr.Auipc rd imm) t = Operation.Go rd (add t.pc (imm * 2 ^ 12)) (following t)
operation (Instr.Jal rd offset) t = Operation.Go rd (following t) (add t.pc (extended 21 (offset * 2)))
operation (Instr.Jalr rd rs1 offset) t = Operation.Go rd (following t) (add (register t rs1) (extended 12 offset) / 2 * 2)
operation (Instr.Branch op rs1 rs2 offset) t = branched t (holds op (register t rs1) (register t rs2)) offset
operation (Instr.Load op rd rs1 offset) t = Operation.Load op rd (add (register t rs1) (extended 12 offset))
operation (Instr.Store op rs1 rs2 offset) t = Operation.Store op (add (register t rs1) (extended 12 offset)) (register t rs2)
operation (Instr.Immediate op rd rs1 imm) t = Operation.Go rd (immediate_result op (register t rs1) (extended 12 imm)) (following t)
operation (Instr.Shift op rd rs1 amount) t = Operation.Go rd (shift_result op (register t rs1) amount) (following t)
operation (Instr.Register op rd rs1 rs2) t = Operation.Go rd (register_result op (register t rs1) (register t rs2)) (following t)
operation (Instr.Fence _ _ _) t = Operation.Go 0 0 (following t)
operation (Instr.FenceI _ _ _) t = Operation.Go 0 0 (following t)
operation Instr.Ecall t = Operation.Stop Kind.Call
operation Instr.Ebreak t = Operation.Stop Kind.Break
operation (Instr.LoadReserved rd rs1 _ _) t = Operation.LoadReserved rd (register t rs1)
operation (Instr.StoreConditional rd rs1 rs2 _ _) t = Operation.StoreConditional rd (register t rs1) (register t rs2)
operation (Instr.Amo op rd rs1 rs2 _ _) t = Operation.Amo op rd (register t rs1) (register t rs2)

-- ---- whether the operation is carried out, or is serial

-- how many bytes an access reads or writes
abbrev pub load_size : LoadOp → ℕ
load_size LoadOp.Lb = 1
load_size LoadOp.Lbu = 1
load_size LoadOp.Lh = 2
load_size LoadOp.Lhu = 2
load_size LoadOp.Lw = 4

abbrev pub store_size : StoreOp → ℕ
store_size StoreOp.Sb = 1
store_size StoreOp.Sh = 2
store_size StoreOp.Sw = 4

-- only LW reads a device, and only SW writes one
abbrev pub is_device_load : LoadOp → ℕ → Bool
is_device_load LoadOp.Lw a = nat_eq a moment_address || nat_eq a input_address
is_device_load LoadOp.Lb a = false
is_device_load LoadOp.Lh a = false
is_device_load LoadOp.Lbu a = false
is_device_load LoadOp.Lhu a = false

abbrev pub is_device_store : StoreOp → ℕ → Bool
is_device_store StoreOp.Sw a = nat_eq a console_address
is_device_store StoreOp.Sb a = false
is_device_store StoreOp.Sh a = false

-- why an access of that width is serial: it is misaligned, or to a device word, or outside memory
abbrev pub refusal : (size width addr : ℕ) (is_device : Bool) (device misaligned outside : Kind) → Option Kind
refusal size width a is_device device misaligned outside =
    if nat_eq (a % width) 0
    then if is_device then Some device else if is_inside size a then None else Some outside
    else Some misaligned

abbrev pub load_refusal : (size width addr : ℕ) → Bool → Option Kind
load_refusal size width a is_device =
    refusal size width a is_device Kind.DeviceLoad (Kind.Fault load_misaligned) (Kind.Fault load_outside)

abbrev pub store_refusal : (size width addr : ℕ) → Bool → Option Kind
store_refusal size width a is_device =
    refusal size width a is_device Kind.DeviceStore (Kind.Fault store_misaligned) (Kind.Fault store_outside)

-- why the operation is serial, in a memory of that size; a jump faults if its target is misaligned
abbrev pub refuses : (size : ℕ) → Operation → Option Kind
refuses size (Operation.Go rd value pc) = if nat_eq (pc % 4) 0 then None else Some (Kind.Fault jump_misaligned)
refuses size (Operation.Stop kind) = Some kind
refuses size (Operation.Load op rd a) = load_refusal size (load_size op) a (is_device_load op a)
refuses size (Operation.Store op a v) = store_refusal size (store_size op) a (is_device_store op a)
refuses size (Operation.LoadReserved rd a) = load_refusal size 4 a false
refuses size (Operation.StoreConditional rd a v) = store_refusal size 4 a false
refuses size (Operation.Amo op rd a v) = store_refusal size 4 a false

-- ---- what it asks of memory, and what it leaves; w is the word that it loads

-- the number of the word that is loaded
abbrev pub word_loaded : Operation → Option ℕ
word_loaded (Operation.Go rd value pc) = None
word_loaded (Operation.Stop kind) = None
word_loaded (Operation.Load op rd a) = Some (a / 4)
word_loaded (Operation.Store op a v) = None
word_loaded (Operation.LoadReserved rd a) = Some (a / 4)
word_loaded (Operation.StoreConditional rd a v) = None
word_loaded (Operation.Amo op rd a v) = Some (a / 4)

-- the value that a load's register takes, from the bytes at an address
abbrev pub loaded : LoadOp → (w addr : ℕ) → ℕ
loaded LoadOp.Lb w a = extended 8 (w / 2 ^ (8 * (a % 4)) % 2 ^ 8)
loaded LoadOp.Lh w a = extended 16 (w / 2 ^ (8 * (a % 4)) % 2 ^ 16)
loaded LoadOp.Lw w a = w
loaded LoadOp.Lbu w a = w / 2 ^ (8 * (a % 4)) % 2 ^ 8
loaded LoadOp.Lhu w a = w / 2 ^ (8 * (a % 4)) % 2 ^ 16

-- what byte k of a word takes when the lowest `size` bytes of a value are stored from byte number `from` on
abbrev pub part : (size from value k : ℕ) → Option ℕ
part size from v k = some_if (nat_le from k && nat_lt k (from + size)) (v / 2 ^ (8 * (k - from)) % 2 ^ 8)

abbrev pub stored : (size addr value : ℕ) → Stored
stored size a v =
    record { number = a / 4; b0 = part size (a % 4) v 0; b1 = part size (a % 4) v 1; b2 = part size (a % 4) v 2; b3 = part size (a % 4) v 3 }

abbrev pub reserves : Option ℕ → ℕ → Bool
reserves None a = false
reserves (Some r) a = nat_eq r a

-- SC gives 0 if it stores, else 1
abbrev pub after_conditional : Bool → Parts → ℕ → Parts
after_conditional done t rd = record (at_pc t rd (if done then 0 else 1) (following t)) { reservation = None }

-- the thread after the operation
abbrev pub thread_then : Operation → Parts → (w : ℕ) → Parts
thread_then (Operation.Go rd value pc) t w = at_pc t rd value pc
thread_then (Operation.Stop kind) t w = t
thread_then (Operation.Load op rd a) t w = at_pc t rd (loaded op w a) (following t)
thread_then (Operation.Store op a v) t w = at_pc t 0 0 (following t)
thread_then (Operation.LoadReserved rd a) t w = record (at_pc t rd w (following t)) { reservation = Some a }
thread_then (Operation.StoreConditional rd a v) t w = after_conditional (reserves t.reservation a) t rd
thread_then (Operation.Amo op rd a v) t w = at_pc t rd w (following t)

-- what it loaded: an address, and the value as the register takes it
abbrev pub load_then : Operation → (w : ℕ) → Option Load
load_then (Operation.Go rd value pc) w = None
load_then (Operation.Stop kind) w = None
load_then (Operation.Load op rd a) w = Some (record { addr = a; value = loaded op w a })
load_then (Operation.Store op a v) w = None
load_then (Operation.LoadReserved rd a) w = Some (record { addr = a; value = w })
load_then (Operation.StoreConditional rd a v) w = None
load_then (Operation.Amo op rd a v) w = Some (record { addr = a; value = w })

-- what it stores
abbrev pub store_then : Operation → Parts → (w : ℕ) → Option Stored
store_then (Operation.Go rd value pc) t w = None
store_then (Operation.Stop kind) t w = None
store_then (Operation.Load op rd a) t w = None
store_then (Operation.Store op a v) t w = Some (stored (store_size op) a v)
store_then (Operation.LoadReserved rd a) t w = None
store_then (Operation.StoreConditional rd a v) t w = if reserves t.reservation a then Some (stored 4 a v) else None
store_then (Operation.Amo op rd a v) t w = Some (stored 4 a (amo_result op w v))
