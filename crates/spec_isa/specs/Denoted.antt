-- The instruction that a word denotes, found in the tables.
use Rattle.std.specs.Prelude.{ℕ, ◌+◌, ◌*◌, ◌/◌, ◌%◌, ◌^◌, Bool, cond, nat_eq, ◌&&◌, List, [], ◌∷◌, find, Option, Some, None, option_map}
use Rattle.spec_isa.specs.declared.instr.BranchOp.{BranchOp}
use Rattle.spec_isa.specs.declared.instr.LoadOp.{LoadOp}
use Rattle.spec_isa.specs.declared.instr.StoreOp.{StoreOp}
use Rattle.spec_isa.specs.declared.instr.ImmediateOp.{ImmediateOp}
use Rattle.spec_isa.specs.declared.instr.ShiftOp.{ShiftOp}
use Rattle.spec_isa.specs.declared.instr.RegisterOp.{RegisterOp}
use Rattle.spec_isa.specs.declared.instr.AmoOp.{AmoOp}
use Rattle.spec_isa.specs.declared.instr.Instr.{Instr}
use Rattle.spec_isa.specs.Encoding.{branch_code, load_code, store_code, immediate_code, shift_code, register_code, amo_code}

abbrev pub branches : List BranchOp
branches = BranchOp.Beq ∷ BranchOp.Bne ∷ BranchOp.Blt ∷ BranchOp.Bge ∷ BranchOp.Bltu ∷ BranchOp.Bgeu ∷ []

abbrev pub branch_op : ℕ → Option BranchOp
branch_op n = find (λ x. nat_eq (branch_code x) n) branches

abbrev pub loads : List LoadOp
loads = LoadOp.Lb ∷ LoadOp.Lh ∷ LoadOp.Lw ∷ LoadOp.Lbu ∷ LoadOp.Lhu ∷ []

abbrev pub load_op : ℕ → Option LoadOp
load_op n = find (λ x. nat_eq (load_code x) n) loads

abbrev pub stores : List StoreOp
stores = StoreOp.Sb ∷ StoreOp.Sh ∷ StoreOp.Sw ∷ []

abbrev pub store_op : ℕ → Option StoreOp
store_op n = find (λ x. nat_eq (store_code x) n) stores

abbrev pub immediates : List ImmediateOp
immediates = ImmediateOp.Addi ∷ ImmediateOp.Slti ∷ ImmediateOp.Sltiu ∷ ImmediateOp.Xori ∷ ImmediateOp.Ori ∷ ImmediateOp.Andi ∷ []

abbrev pub immediate_op : ℕ → Option ImmediateOp
immediate_op n = find (λ x. nat_eq (immediate_code x) n) immediates

abbrev pub amos : List AmoOp
amos = AmoOp.Amoadd ∷ AmoOp.Amoswap ∷ AmoOp.Amoxor ∷ AmoOp.Amoor ∷ AmoOp.Amoand ∷ AmoOp.Amomin ∷ AmoOp.Amomax ∷ AmoOp.Amominu ∷ AmoOp.Amomaxu ∷ []

abbrev pub amo_op : ℕ → Option AmoOp
amo_op n = find (λ x. nat_eq (amo_code x) n) amos

abbrev pub shifts : List ShiftOp
shifts = ShiftOp.Slli ∷ ShiftOp.Srli ∷ ShiftOp.Srai ∷ []

abbrev pub shift_op : ℕ → ℕ → Option ShiftOp
shift_op funct3 funct7 =
    find (λ x. nat_eq ((shift_code x).0) funct3 && nat_eq ((shift_code x).1) funct7)
    shifts

abbrev pub registers : List RegisterOp
registers =
    RegisterOp.Add ∷ RegisterOp.Sub ∷ RegisterOp.Sll ∷ RegisterOp.Slt ∷ RegisterOp.Sltu ∷ RegisterOp.Xor ∷ RegisterOp.Srl ∷ RegisterOp.Sra
    ∷ RegisterOp.Or ∷ RegisterOp.And ∷ RegisterOp.Mul ∷ RegisterOp.Mulh ∷ RegisterOp.Mulhsu ∷ RegisterOp.Mulhu ∷ RegisterOp.Div ∷ RegisterOp.Divu
    ∷ RegisterOp.Rem ∷ RegisterOp.Remu ∷ []

abbrev pub register_op : ℕ → ℕ → Option RegisterOp
register_op funct3 funct7 =
    find (λ x. nat_eq ((register_code x).0) funct3 && nat_eq ((register_code x).1) funct7)
    registers

-- the immediates, from the fields that hold them
abbrev pub branch_offset : (rd funct7 : ℕ) → ℕ
branch_offset rd funct7 = funct7 / 2 ^ 6 * 2 ^ 11 + rd % 2 * 2 ^ 10 + funct7 % 2 ^ 6 * 2 ^ 4 + rd / 2

abbrev pub upper_field : (funct3 rs1 rs2 funct7 : ℕ) → ℕ
upper_field funct3 rs1 rs2 funct7 = funct3 + rs1 * 2 ^ 3 + rs2 * 2 ^ 8 + funct7 * 2 ^ 13

abbrev pub jump_offset : ℕ → ℕ
jump_offset u = u / 2 ^ 19 * 2 ^ 19 + u % 2 ^ 8 * 2 ^ 11 + u / 2 ^ 8 % 2 * 2 ^ 10 + u / 2 ^ 9 % 2 ^ 10

abbrev pub atomic_of : (rd rs1 rs2 funct5 : ℕ) → Bool → Bool → Option Instr
atomic_of rd rs1 rs2 funct5 acquire release =
    cond (nat_eq funct5 2) (cond (nat_eq rs2 0) (Some (Instr.LoadReserved rd rs1 acquire release)) None)
    (cond (nat_eq funct5 3) (Some (Instr.StoreConditional rd rs1 rs2 acquire release))
    (option_map (λ op. Instr.Amo op rd rs1 rs2 acquire release) (amo_op funct5)))

abbrev pub arithmetic_of : (rd funct3 rs1 rs2 funct7 : ℕ) → Option ImmediateOp → Option Instr
arithmetic_of rd funct3 rs1 rs2 funct7 (Some op) = Some (Instr.Immediate op rd rs1 (rs2 + funct7 * 2 ^ 5))
arithmetic_of rd funct3 rs1 rs2 funct7 None = option_map (λ op. Instr.Shift op rd rs1 rs2) (shift_op funct3 funct7)

abbrev pub fence_of : (rd funct3 rs1 imm : ℕ) → Option Instr
fence_of rd funct3 rs1 imm =
    cond (nat_eq funct3 0) (Some (Instr.Fence rd rs1 imm))
    (cond (nat_eq funct3 1) (Some (Instr.FenceI rd rs1 imm)) None)

abbrev pub by_fields : (opcode rd funct3 rs1 rs2 funct7 : ℕ) → Option Instr
by_fields opcode rd funct3 rs1 rs2 funct7 =
    cond (nat_eq opcode 0x37) (Some (Instr.Lui rd (upper_field funct3 rs1 rs2 funct7)))
    (cond (nat_eq opcode 0x17) (Some (Instr.Auipc rd (upper_field funct3 rs1 rs2 funct7)))
    (cond (nat_eq opcode 0x6F) (Some (Instr.Jal rd (jump_offset (upper_field funct3 rs1 rs2 funct7))))
    (cond (nat_eq opcode 0x67) (cond (nat_eq funct3 0) (Some (Instr.Jalr rd rs1 (rs2 + funct7 * 2 ^ 5))) None)
    (cond (nat_eq opcode 0x63) (option_map (λ op. Instr.Branch op rs1 rs2 (branch_offset rd funct7)) (branch_op funct3))
    (cond (nat_eq opcode 0x03) (option_map (λ op. Instr.Load op rd rs1 (rs2 + funct7 * 2 ^ 5)) (load_op funct3))
    (cond (nat_eq opcode 0x23) (option_map (λ op. Instr.Store op rs1 rs2 (rd + funct7 * 2 ^ 5)) (store_op funct3))
    (cond (nat_eq opcode 0x13) (arithmetic_of rd funct3 rs1 rs2 funct7 (immediate_op funct3))
    (cond (nat_eq opcode 0x33) (option_map (λ op. Instr.Register op rd rs1 rs2) (register_op funct3 funct7))
    (cond (nat_eq opcode 0x0F) (fence_of rd funct3 rs1 (rs2 + funct7 * 2 ^ 5))
    (cond (nat_eq opcode 0x2F) (cond (nat_eq funct3 2) (atomic_of rd rs1 rs2 (funct7 / 4) (nat_eq (funct7 / 2 % 2) 1) (nat_eq (funct7 % 2) 1)) None)
    None))))))))))

abbrev pub denoted : ℕ → Option Instr
denoted w =
    cond (nat_eq w 0x00000073) (Some Instr.Ecall)
    (cond (nat_eq w 0x00100073) (Some Instr.Ebreak)
    (by_fields (w % 2 ^ 7) (w / 2 ^ 7 % 2 ^ 5) (w / 2 ^ 12 % 2 ^ 3) (w / 2 ^ 15 % 2 ^ 5) (w / 2 ^ 20 % 2 ^ 5) (w / 2 ^ 25)))
