-- The words of the instructions, as the ISA manual's opcode listings spell them: each made of fields at fixed places.
use Rattle.std.specs.Prelude.{◌≡◌, ℕ, ◌+◌, ◌*◌, ◌/◌, ◌%◌, ◌^◌, ◌<◌, Bool, true, false, Option, Some, None}
use Rattle.spec_isa.specs.declared.instr.BranchOp.{BranchOp}
use Rattle.spec_isa.specs.declared.instr.LoadOp.{LoadOp}
use Rattle.spec_isa.specs.declared.instr.StoreOp.{StoreOp}
use Rattle.spec_isa.specs.declared.instr.ImmediateOp.{ImmediateOp}
use Rattle.spec_isa.specs.declared.instr.ShiftOp.{ShiftOp}
use Rattle.spec_isa.specs.declared.instr.RegisterOp.{RegisterOp}
use Rattle.spec_isa.specs.declared.instr.AmoOp.{AmoOp}
use Rattle.spec_isa.specs.declared.instr.Instr.{Instr}

-- ---- the tables

-- funct3
abbrev pub branch_code : BranchOp → ℕ
branch_code BranchOp.Beq = 0
branch_code BranchOp.Bne = 1
branch_code BranchOp.Blt = 4
branch_code BranchOp.Bge = 5
branch_code BranchOp.Bltu = 6
branch_code BranchOp.Bgeu = 7

-- funct3
abbrev pub load_code : LoadOp → ℕ
load_code LoadOp.Lb = 0
load_code LoadOp.Lh = 1
load_code LoadOp.Lw = 2
load_code LoadOp.Lbu = 4
load_code LoadOp.Lhu = 5

-- funct3
abbrev pub store_code : StoreOp → ℕ
store_code StoreOp.Sb = 0
store_code StoreOp.Sh = 1
store_code StoreOp.Sw = 2

-- funct3
abbrev pub immediate_code : ImmediateOp → ℕ
immediate_code ImmediateOp.Addi = 0
immediate_code ImmediateOp.Slti = 2
immediate_code ImmediateOp.Sltiu = 3
immediate_code ImmediateOp.Xori = 4
immediate_code ImmediateOp.Ori = 6
immediate_code ImmediateOp.Andi = 7

-- funct3 and funct7
abbrev pub shift_code : ShiftOp → ℕ × ℕ
shift_code ShiftOp.Slli = (1, 0x00)
shift_code ShiftOp.Srli = (5, 0x00)
shift_code ShiftOp.Srai = (5, 0x20)

-- funct3 and funct7
abbrev pub register_code : RegisterOp → ℕ × ℕ
register_code RegisterOp.Add = (0, 0x00)
register_code RegisterOp.Sub = (0, 0x20)
register_code RegisterOp.Sll = (1, 0x00)
register_code RegisterOp.Slt = (2, 0x00)
register_code RegisterOp.Sltu = (3, 0x00)
register_code RegisterOp.Xor = (4, 0x00)
register_code RegisterOp.Srl = (5, 0x00)
register_code RegisterOp.Sra = (5, 0x20)
register_code RegisterOp.Or = (6, 0x00)
register_code RegisterOp.And = (7, 0x00)
register_code RegisterOp.Mul = (0, 0x01)
register_code RegisterOp.Mulh = (1, 0x01)
register_code RegisterOp.Mulhsu = (2, 0x01)
register_code RegisterOp.Mulhu = (3, 0x01)
register_code RegisterOp.Div = (4, 0x01)
register_code RegisterOp.Divu = (5, 0x01)
register_code RegisterOp.Rem = (6, 0x01)
register_code RegisterOp.Remu = (7, 0x01)

-- funct5
abbrev pub amo_code : AmoOp → ℕ
amo_code AmoOp.Amoadd = 0x00
amo_code AmoOp.Amoswap = 0x01
amo_code AmoOp.Amoxor = 0x04
amo_code AmoOp.Amoor = 0x08
amo_code AmoOp.Amoand = 0x0C
amo_code AmoOp.Amomin = 0x10
amo_code AmoOp.Amomax = 0x14
amo_code AmoOp.Amominu = 0x18
amo_code AmoOp.Amomaxu = 0x1C

-- ---- a word by its fields

abbrev pub word_of : (opcode rd funct3 rs1 rs2 funct7 : ℕ) → ℕ
word_of opcode rd funct3 rs1 rs2 funct7 =
    opcode + rd * 2 ^ 7 + funct3 * 2 ^ 12 + rs1 * 2 ^ 15 + rs2 * 2 ^ 20 + funct7 * 2 ^ 25

-- an immediate of twelve bits in the places of rs2 and funct7
abbrev pub immediate_word : (opcode rd funct3 rs1 imm : ℕ) → ℕ
immediate_word opcode rd funct3 rs1 imm = word_of opcode rd funct3 rs1 (imm % 2 ^ 5) (imm / 2 ^ 5)

-- the same in the places of rd and funct7
abbrev pub store_word : (opcode funct3 rs1 rs2 imm : ℕ) → ℕ
store_word opcode funct3 rs1 rs2 imm = word_of opcode (imm % 2 ^ 5) funct3 rs1 rs2 (imm / 2 ^ 5)

-- bits 12 to 1 of a branch's offset, here numbered 11 to 0: 11 and 9 to 4 lie in funct7, 3 to 0 and 10 in rd's place
abbrev pub branch_word : (opcode funct3 rs1 rs2 offset : ℕ) → ℕ
branch_word opcode funct3 rs1 rs2 offset =
    word_of opcode (offset % 2 ^ 4 * 2 + offset / 2 ^ 10 % 2) funct3 rs1 rs2 (offset / 2 ^ 11 * 2 ^ 6 + offset / 2 ^ 4 % 2 ^ 6)

-- twenty bits above rd
abbrev pub upper_word : (opcode rd imm : ℕ) → ℕ
upper_word opcode rd imm = opcode + rd * 2 ^ 7 + imm * 2 ^ 12

-- bits 20 to 1 of a jump's offset, here numbered 19 to 0: from the top 19, then 9 to 0, then 10, then 18 to 11
abbrev pub jump_word : (opcode rd offset : ℕ) → ℕ
jump_word opcode rd offset =
    upper_word opcode rd (offset / 2 ^ 19 * 2 ^ 19 + offset % 2 ^ 10 * 2 ^ 9 + offset / 2 ^ 10 % 2 * 2 ^ 8 + offset / 2 ^ 11 % 2 ^ 8)

abbrev pub bit : Bool → ℕ
bit true = 1
bit false = 0

-- the high seven bits of an atomic instruction
abbrev pub atomic : ℕ → Bool → Bool → ℕ
atomic funct5 acquire release = funct5 * 4 + bit acquire * 2 + bit release

-- the word that spells an instruction
abbrev pub spelling : Instr → ℕ
spelling (Instr.Lui rd imm) = upper_word 0x37 rd imm
spelling (Instr.Auipc rd imm) = upper_word 0x17 rd imm
spelling (Instr.Jal rd offset) = jump_word 0x6F rd offset
spelling (Instr.Jalr rd rs1 offset) = immediate_word 0x67 rd 0 rs1 offset
spelling (Instr.Branch op rs1 rs2 offset) = branch_word 0x63 (branch_code op) rs1 rs2 offset
spelling (Instr.Load op rd rs1 offset) = immediate_word 0x03 rd (load_code op) rs1 offset
spelling (Instr.Store op rs1 rs2 offset) = store_word 0x23 (store_code op) rs1 rs2 offset
spelling (Instr.Immediate op rd rs1 imm) = immediate_word 0x13 rd (immediate_code op) rs1 imm
spelling (Instr.Shift op rd rs1 amount) = word_of 0x13 rd ((shift_code op).0) rs1 amount ((shift_code op).1)
spelling (Instr.Register op rd rs1 rs2) = word_of 0x33 rd ((register_code op).0) rs1 rs2 ((register_code op).1)
spelling (Instr.Fence rd rs1 imm) = immediate_word 0x0F rd 0 rs1 imm
spelling (Instr.FenceI rd rs1 imm) = immediate_word 0x0F rd 1 rs1 imm
spelling Instr.Ecall = 0x00000073
spelling Instr.Ebreak = 0x00100073
spelling (Instr.LoadReserved rd rs1 acquire release) = word_of 0x2F rd 2 rs1 0 (atomic 0x02 acquire release)
spelling (Instr.StoreConditional rd rs1 rs2 acquire release) = word_of 0x2F rd 2 rs1 rs2 (atomic 0x03 acquire release)
spelling (Instr.Amo op rd rs1 rs2 acquire release) = word_of 0x2F rd 2 rs1 rs2 (atomic (amo_code op) acquire release)

-- registers have five bits, immediates twelve or twenty
abbrev pub HasFields : Instr → Type 0
HasFields (Instr.Lui rd imm) = (rd < 2 ^ 5) × (imm < 2 ^ 20)
HasFields (Instr.Auipc rd imm) = (rd < 2 ^ 5) × (imm < 2 ^ 20)
HasFields (Instr.Jal rd offset) = (rd < 2 ^ 5) × (offset < 2 ^ 20)
HasFields (Instr.Jalr rd rs1 offset) = (rd < 2 ^ 5) × (rs1 < 2 ^ 5) × (offset < 2 ^ 12)
HasFields (Instr.Branch _ rs1 rs2 offset) = (rs1 < 2 ^ 5) × (rs2 < 2 ^ 5) × (offset < 2 ^ 12)
HasFields (Instr.Load _ rd rs1 offset) = (rd < 2 ^ 5) × (rs1 < 2 ^ 5) × (offset < 2 ^ 12)
HasFields (Instr.Store _ rs1 rs2 offset) = (rs1 < 2 ^ 5) × (rs2 < 2 ^ 5) × (offset < 2 ^ 12)
HasFields (Instr.Immediate _ rd rs1 imm) = (rd < 2 ^ 5) × (rs1 < 2 ^ 5) × (imm < 2 ^ 12)
HasFields (Instr.Shift _ rd rs1 amount) = (rd < 2 ^ 5) × (rs1 < 2 ^ 5) × (amount < 2 ^ 5)
HasFields (Instr.Register _ rd rs1 rs2) = (rd < 2 ^ 5) × (rs1 < 2 ^ 5) × (rs2 < 2 ^ 5)
HasFields (Instr.Fence rd rs1 imm) = (rd < 2 ^ 5) × (rs1 < 2 ^ 5) × (imm < 2 ^ 12)
HasFields (Instr.FenceI rd rs1 imm) = (rd < 2 ^ 5) × (rs1 < 2 ^ 5) × (imm < 2 ^ 12)
HasFields Instr.Ecall = Unit {0}
HasFields Instr.Ebreak = Unit {0}
HasFields (Instr.LoadReserved rd rs1 _ _) = (rd < 2 ^ 5) × (rs1 < 2 ^ 5)
HasFields (Instr.StoreConditional rd rs1 rs2 _ _) = (rd < 2 ^ 5) × (rs1 < 2 ^ 5) × (rs2 < 2 ^ 5)
HasFields (Instr.Amo _ rd rs1 rs2 _ _) = (rd < 2 ^ 5) × (rs1 < 2 ^ 5) × (rs2 < 2 ^ 5)

-- a word denotes the instruction whose spelling it is
pub record Denotes (word : ℕ) (i : Instr) : Type 0 where
  pub fields : HasFields i
  pub spelled : word ≡ spelling i

-- the instruction that a word denotes, or none if it denotes none
abbrev pub IsMeaning : ℕ → Option Instr → Type 0
IsMeaning word None = (i : Instr) → ¬ Denotes word i
IsMeaning word (Some i) = Denotes word i
