-- Each operation is found by its code, and its code fits its fields.
use Rattle.std.proofs.Common.{◌≡◌, ℕ, ◌/◌, ◌%◌, ◌^◌, ◌<◌, Bool, true, false, eqb, Some, refl, arith, lit<}
use Rattle.std.proofs.lemmas.Bool.{eq-eqb, ne_eqb}
use Rattle.spec_isa.specs.declared.instr.BranchOp.{BranchOp}
use Rattle.spec_isa.specs.declared.instr.LoadOp.{LoadOp}
use Rattle.spec_isa.specs.declared.instr.StoreOp.{StoreOp}
use Rattle.spec_isa.specs.declared.instr.ImmediateOp.{ImmediateOp}
use Rattle.spec_isa.specs.declared.instr.ShiftOp.{ShiftOp}
use Rattle.spec_isa.specs.declared.instr.RegisterOp.{RegisterOp}
use Rattle.spec_isa.specs.declared.instr.AmoOp.{AmoOp}
use Rattle.spec_isa.specs.declared.instr.Instr.{Instr}
use Rattle.spec_isa.specs.Encoding.{branch_code, load_code, store_code, immediate_code, shift_code, register_code, amo_code, atomic}
use Rattle.spec_isa.specs.Denoted.{branch_op, load_op, store_op, immediate_op, register_op, arithmetic_of, atomic_of}

-- the table of branches finds each by its funct3
pub branch_op-code : (op : BranchOp) → branch_op (branch_code op) ≡ Some op
branch_op-code BranchOp.Beq = refl
branch_op-code BranchOp.Bne = refl
branch_op-code BranchOp.Blt = refl
branch_op-code BranchOp.Bge = refl
branch_op-code BranchOp.Bltu = refl
branch_op-code BranchOp.Bgeu = refl

-- the funct3 of each branch has at most three bits
pub branch_code_fits : (op : BranchOp) → branch_code op < 2 ^ 3
branch_code_fits BranchOp.Beq = lit< tt
branch_code_fits BranchOp.Bne = lit< tt
branch_code_fits BranchOp.Blt = lit< tt
branch_code_fits BranchOp.Bge = lit< tt
branch_code_fits BranchOp.Bltu = lit< tt
branch_code_fits BranchOp.Bgeu = lit< tt

-- the table of loads finds each by its funct3
pub load_op-code : (op : LoadOp) → load_op (load_code op) ≡ Some op
load_op-code LoadOp.Lb = refl
load_op-code LoadOp.Lh = refl
load_op-code LoadOp.Lw = refl
load_op-code LoadOp.Lbu = refl
load_op-code LoadOp.Lhu = refl

-- the funct3 of each load has at most three bits
pub load_code_fits : (op : LoadOp) → load_code op < 2 ^ 3
load_code_fits LoadOp.Lb = lit< tt
load_code_fits LoadOp.Lh = lit< tt
load_code_fits LoadOp.Lw = lit< tt
load_code_fits LoadOp.Lbu = lit< tt
load_code_fits LoadOp.Lhu = lit< tt

-- the table of stores finds each by its funct3
pub store_op-code : (op : StoreOp) → store_op (store_code op) ≡ Some op
store_op-code StoreOp.Sb = refl
store_op-code StoreOp.Sh = refl
store_op-code StoreOp.Sw = refl

-- the funct3 of each store has at most three bits
pub store_code_fits : (op : StoreOp) → store_code op < 2 ^ 3
store_code_fits StoreOp.Sb = lit< tt
store_code_fits StoreOp.Sh = lit< tt
store_code_fits StoreOp.Sw = lit< tt

-- the table of operations with an immediate finds each by its funct3
pub immediate_op-code : (op : ImmediateOp) → immediate_op (immediate_code op) ≡ Some op
immediate_op-code ImmediateOp.Addi = refl
immediate_op-code ImmediateOp.Slti = refl
immediate_op-code ImmediateOp.Sltiu = refl
immediate_op-code ImmediateOp.Xori = refl
immediate_op-code ImmediateOp.Ori = refl
immediate_op-code ImmediateOp.Andi = refl

-- the funct3 of each operation with an immediate has at most three bits
pub immediate_code_fits : (op : ImmediateOp) → immediate_code op < 2 ^ 3
immediate_code_fits ImmediateOp.Addi = lit< tt
immediate_code_fits ImmediateOp.Slti = lit< tt
immediate_code_fits ImmediateOp.Sltiu = lit< tt
immediate_code_fits ImmediateOp.Xori = lit< tt
immediate_code_fits ImmediateOp.Ori = lit< tt
immediate_code_fits ImmediateOp.Andi = lit< tt

-- the table of operations on two registers finds each by its funct3 and funct7
pub register_op-code : (op : RegisterOp) → register_op ((register_code op).0) ((register_code op).1) ≡ Some op
register_op-code RegisterOp.Add = refl
register_op-code RegisterOp.Sub = refl
register_op-code RegisterOp.Sll = refl
register_op-code RegisterOp.Slt = refl
register_op-code RegisterOp.Sltu = refl
register_op-code RegisterOp.Xor = refl
register_op-code RegisterOp.Srl = refl
register_op-code RegisterOp.Sra = refl
register_op-code RegisterOp.Or = refl
register_op-code RegisterOp.And = refl
register_op-code RegisterOp.Mul = refl
register_op-code RegisterOp.Mulh = refl
register_op-code RegisterOp.Mulhsu = refl
register_op-code RegisterOp.Mulhu = refl
register_op-code RegisterOp.Div = refl
register_op-code RegisterOp.Divu = refl
register_op-code RegisterOp.Rem = refl
register_op-code RegisterOp.Remu = refl

pub record CodesFit (funct3 funct7 : ℕ) : Type 0 where
  pub low : funct3 < 2 ^ 3
  pub high : funct7 < 2 ^ 7

-- the funct3 of each operation on two registers has at most three bits, its funct7 at most seven
pub register_code_fits : (op : RegisterOp) → CodesFit ((register_code op).0) ((register_code op).1)
register_code_fits RegisterOp.Add = record { low = lit< tt; high = lit< tt }
register_code_fits RegisterOp.Sub = record { low = lit< tt; high = lit< tt }
register_code_fits RegisterOp.Sll = record { low = lit< tt; high = lit< tt }
register_code_fits RegisterOp.Slt = record { low = lit< tt; high = lit< tt }
register_code_fits RegisterOp.Sltu = record { low = lit< tt; high = lit< tt }
register_code_fits RegisterOp.Xor = record { low = lit< tt; high = lit< tt }
register_code_fits RegisterOp.Srl = record { low = lit< tt; high = lit< tt }
register_code_fits RegisterOp.Sra = record { low = lit< tt; high = lit< tt }
register_code_fits RegisterOp.Or = record { low = lit< tt; high = lit< tt }
register_code_fits RegisterOp.And = record { low = lit< tt; high = lit< tt }
register_code_fits RegisterOp.Mul = record { low = lit< tt; high = lit< tt }
register_code_fits RegisterOp.Mulh = record { low = lit< tt; high = lit< tt }
register_code_fits RegisterOp.Mulhsu = record { low = lit< tt; high = lit< tt }
register_code_fits RegisterOp.Mulhu = record { low = lit< tt; high = lit< tt }
register_code_fits RegisterOp.Div = record { low = lit< tt; high = lit< tt }
register_code_fits RegisterOp.Divu = record { low = lit< tt; high = lit< tt }
register_code_fits RegisterOp.Rem = record { low = lit< tt; high = lit< tt }
register_code_fits RegisterOp.Remu = record { low = lit< tt; high = lit< tt }

-- no other operation with an immediate has a shift's funct3
pub arithmetic_of-shift : (op : ShiftOp) (rd rs1 amount : ℕ) → arithmetic_of rd ((shift_code op).0) rs1 amount ((shift_code op).1) (immediate_op ((shift_code op).0)) ≡ Some (Instr.Shift op rd rs1 amount)
arithmetic_of-shift ShiftOp.Slli rd rs1 amount = refl
arithmetic_of-shift ShiftOp.Srli rd rs1 amount = refl
arithmetic_of-shift ShiftOp.Srai rd rs1 amount = refl

-- the funct3 of each shift by an immediate has at most three bits, its funct7 at most seven
pub shift_code_fits : (op : ShiftOp) → CodesFit ((shift_code op).0) ((shift_code op).1)
shift_code_fits ShiftOp.Slli = record { low = lit< tt; high = lit< tt }
shift_code_fits ShiftOp.Srli = record { low = lit< tt; high = lit< tt }
shift_code_fits ShiftOp.Srai = record { low = lit< tt; high = lit< tt }

-- each AMO, and no LR or SC, is found by its funct5, with its registers and its two bits
pub atomic_of-amo : (op : AmoOp) (rd rs1 rs2 : ℕ) (acquire release : Bool) → atomic_of rd rs1 rs2 (amo_code op) acquire release ≡ Some (Instr.Amo op rd rs1 rs2 acquire release)
atomic_of-amo AmoOp.Amoadd rd rs1 rs2 acquire release = refl
atomic_of-amo AmoOp.Amoswap rd rs1 rs2 acquire release = refl
atomic_of-amo AmoOp.Amoxor rd rs1 rs2 acquire release = refl
atomic_of-amo AmoOp.Amoor rd rs1 rs2 acquire release = refl
atomic_of-amo AmoOp.Amoand rd rs1 rs2 acquire release = refl
atomic_of-amo AmoOp.Amomin rd rs1 rs2 acquire release = refl
atomic_of-amo AmoOp.Amomax rd rs1 rs2 acquire release = refl
atomic_of-amo AmoOp.Amominu rd rs1 rs2 acquire release = refl
atomic_of-amo AmoOp.Amomaxu rd rs1 rs2 acquire release = refl

-- the funct5 of each AMO has at most five bits
pub amo_code_fits : (op : AmoOp) → amo_code op < 2 ^ 5
amo_code_fits AmoOp.Amoadd = lit< tt
amo_code_fits AmoOp.Amoswap = lit< tt
amo_code_fits AmoOp.Amoxor = lit< tt
amo_code_fits AmoOp.Amoor = lit< tt
amo_code_fits AmoOp.Amoand = lit< tt
amo_code_fits AmoOp.Amomin = lit< tt
amo_code_fits AmoOp.Amomax = lit< tt
amo_code_fits AmoOp.Amominu = lit< tt
amo_code_fits AmoOp.Amomaxu = lit< tt

-- ---- the high seven bits of an atomic instruction

-- a funct5 of at most five bits makes at most seven with the bits for acquire and release
pub atomic_fits : (funct5 : ℕ) (acquire release : Bool) → funct5 < 2 ^ 5 → atomic funct5 acquire release < 2 ^ 7
atomic_fits n true true fits = omega arith
atomic_fits n true false fits = omega arith
atomic_fits n false true fits = omega arith
atomic_fits n false false fits = omega arith

-- without the lowest two, the high seven bits are the funct5 that they were made from
pub atomic_funct5 : (funct5 : ℕ) (acquire release : Bool) → atomic funct5 acquire release / 4 ≡ funct5
atomic_funct5 n true true = omega arith
atomic_funct5 n true false = omega arith
atomic_funct5 n false true = omega arith
atomic_funct5 n false false = omega arith

-- the second lowest of the high seven bits is set exactly if the instruction acquires
pub atomic_acquire : (funct5 : ℕ) (acquire release : Bool) → eqb (atomic funct5 acquire release / 2 % 2) 1 ≡ acquire
atomic_acquire n true true = eq-eqb _ _ (omega arith)
atomic_acquire n true false = eq-eqb _ _ (omega arith)
atomic_acquire n false true = ne_eqb _ _ (omega arith)
atomic_acquire n false false = ne_eqb _ _ (omega arith)

-- the lowest of the high seven bits is set exactly if the instruction releases
pub atomic_release : (funct5 : ℕ) (acquire release : Bool) → eqb (atomic funct5 acquire release % 2) 1 ≡ release
atomic_release n true true = eq-eqb _ _ (omega arith)
atomic_release n false true = eq-eqb _ _ (omega arith)
atomic_release n true false = ne_eqb _ _ (omega arith)
atomic_release n false false = ne_eqb _ _ (omega arith)
