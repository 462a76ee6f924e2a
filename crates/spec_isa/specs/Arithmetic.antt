-- The results of the computing instructions, on words of 32 bits. Sums wrap, and a signed value is held as its two's complement.
use Rattle.std.specs.Prelude.{ℕ, ◌+◌, ◌-◌, ◌*◌, ◌/◌, ◌%◌, ◌^◌, Bool, not, nat_eq, nat_lt, nat_le, if◌then◌else◌, ℤ, pos, ◌*ℤ◌, int_lt, int_le}
use Rattle.std.specs.Prelude.{int_div, int_rem, bit_and, bit_or, bit_xor}
use Rattle.std.specs.Int.{w32, w64, cast_signed, cast_unsigned, int_shr}
use Rattle.spec_isa.specs.declared.instr.BranchOp.{BranchOp}
use Rattle.spec_isa.specs.declared.instr.ImmediateOp.{ImmediateOp}
use Rattle.spec_isa.specs.declared.instr.ShiftOp.{ShiftOp}
use Rattle.spec_isa.specs.declared.instr.RegisterOp.{RegisterOp}
use Rattle.spec_isa.specs.declared.instr.AmoOp.{AmoOp}
use Rattle.spec_isa.specs.Encoding.{bit}

-- the signed number that a word represents, and the word that represents it
abbrev pub signed : ℕ → ℤ
signed a = cast_signed w32 a

abbrev pub word : ℤ → ℕ
word z = cast_unsigned w32 z

abbrev pub add : ℕ → ℕ → ℕ
add a b = (a + b) % 2 ^ 32

abbrev pub sub : ℕ → ℕ → ℕ
sub a b = (a + (2 ^ 32 - b)) % 2 ^ 32

-- a number of that many bits, with its highest bit copied into those above
abbrev pub extended : (bits a : ℕ) → ℕ
extended bits a = if nat_lt a (2 ^ (bits - 1)) then a else a + (2 ^ 32 - 2 ^ bits)

-- whether a branch is taken
abbrev pub holds : BranchOp → ℕ → ℕ → Bool
holds BranchOp.Beq a b = nat_eq a b
holds BranchOp.Bne a b = not (nat_eq a b)
holds BranchOp.Blt a b = int_lt (signed a) (signed b)
holds BranchOp.Bge a b = int_le (signed b) (signed a)
holds BranchOp.Bltu a b = nat_lt a b
holds BranchOp.Bgeu a b = nat_le b a

abbrev pub immediate_result : ImmediateOp → ℕ → ℕ → ℕ
immediate_result ImmediateOp.Addi a b = add a b
immediate_result ImmediateOp.Slti a b = bit (int_lt (signed a) (signed b))
immediate_result ImmediateOp.Sltiu a b = bit (nat_lt a b)
immediate_result ImmediateOp.Xori a b = bit_xor a b
immediate_result ImmediateOp.Ori a b = bit_or a b
immediate_result ImmediateOp.Andi a b = bit_and a b

abbrev pub shift_result : ShiftOp → ℕ → ℕ → ℕ
shift_result ShiftOp.Slli a n = a * 2 ^ n % 2 ^ 32
shift_result ShiftOp.Srli a n = a / 2 ^ n
shift_result ShiftOp.Srai a n = word (int_shr (signed a) n)

-- shifts take the low five bits of the amount; products of 64 bits are cut into halves; nothing traps
abbrev pub register_result : RegisterOp → ℕ → ℕ → ℕ
register_result RegisterOp.Add a b = add a b
register_result RegisterOp.Sub a b = sub a b
register_result RegisterOp.Sll a b = shift_result ShiftOp.Slli a (b % 32)
register_result RegisterOp.Slt a b = bit (int_lt (signed a) (signed b))
register_result RegisterOp.Sltu a b = bit (nat_lt a b)
register_result RegisterOp.Xor a b = bit_xor a b
register_result RegisterOp.Srl a b = shift_result ShiftOp.Srli a (b % 32)
register_result RegisterOp.Sra a b = shift_result ShiftOp.Srai a (b % 32)
register_result RegisterOp.Or a b = bit_or a b
register_result RegisterOp.And a b = bit_and a b
register_result RegisterOp.Mul a b = a * b % 2 ^ 32
register_result RegisterOp.Mulh a b = cast_unsigned w64 (signed a *ℤ signed b) / 2 ^ 32
register_result RegisterOp.Mulhsu a b = cast_unsigned w64 (signed a *ℤ pos b) / 2 ^ 32
register_result RegisterOp.Mulhu a b = a * b / 2 ^ 32
register_result RegisterOp.Div a b = if nat_eq b 0 then 2 ^ 32 - 1 else word (int_div (signed a) (signed b))
register_result RegisterOp.Divu a b = if nat_eq b 0 then 2 ^ 32 - 1 else a / b
register_result RegisterOp.Rem a b = if nat_eq b 0 then a else word (int_rem (signed a) (signed b))
register_result RegisterOp.Remu a b = if nat_eq b 0 then a else a % b

-- what an atomic operation stores, from the old word and the register's value
abbrev pub amo_result : AmoOp → (old value : ℕ) → ℕ
amo_result AmoOp.Amoadd a b = add a b
amo_result AmoOp.Amoswap a b = b
amo_result AmoOp.Amoxor a b = bit_xor a b
amo_result AmoOp.Amoor a b = bit_or a b
amo_result AmoOp.Amoand a b = bit_and a b
amo_result AmoOp.Amomin a b = if int_lt (signed a) (signed b) then a else b
amo_result AmoOp.Amomax a b = if int_lt (signed a) (signed b) then b else a
amo_result AmoOp.Amominu a b = if nat_lt a b then a else b
amo_result AmoOp.Amomaxu a b = if nat_lt a b then b else a
