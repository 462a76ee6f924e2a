-- The word that spells an instruction denotes that instruction.
use Rattle.std.proofs.Common.{◌≡◌, ◌≢◌, ℕ, ◌/◌, ◌%◌, ◌^◌, ◌<◌, Bool, Some, refl, sym, ap, arith, ◌∙◌, lit<}
use Rattle.spec_isa.specs.declared.instr.BranchOp.{BranchOp}
use Rattle.spec_isa.specs.declared.instr.LoadOp.{LoadOp}
use Rattle.spec_isa.specs.declared.instr.StoreOp.{StoreOp}
use Rattle.spec_isa.specs.declared.instr.ImmediateOp.{ImmediateOp}
use Rattle.spec_isa.specs.declared.instr.ShiftOp.{ShiftOp}
use Rattle.spec_isa.specs.declared.instr.RegisterOp.{RegisterOp}
use Rattle.spec_isa.specs.declared.instr.AmoOp.{AmoOp}
use Rattle.spec_isa.specs.declared.instr.Instr.{Instr}
use Rattle.spec_isa.specs.Encoding.{word_of, immediate_word, upper_word, spelling, HasFields, Denotes, atomic, amo_code}
use Rattle.spec_isa.specs.Denoted.{by_fields, denoted, jump_offset, atomic_of}
use Rattle.spec_isa.proofs.WordFields.{Fit, immediate_back, branch_low, branch_high, branch_back, upper_back, jump_order, jump_back}
use Rattle.spec_isa.proofs.Codes.{branch_op-code, branch_code_fits, load_op-code, load_code_fits, store_op-code, store_code_fits, immediate_op-code, immediate_code_fits, register_op-code, register_code_fits, arithmetic_of-shift, shift_code_fits, atomic_of-amo, amo_code_fits, atomic_fits, atomic_funct5, atomic_acquire, atomic_release}
use Rattle.spec_isa.proofs.Reading.{denoted-word_of}

-- ---- each format is read by its fields

fitted : {o d f a b h : ℕ} → o < 2 ^ 7 → d < 2 ^ 5 → f < 2 ^ 3 → a < 2 ^ 5 → b < 2 ^ 5 → h < 2 ^ 7 → Fit o d f a b h
fitted o d f a b h =
    record { opcode_fits = o; rd_fits = d; funct3_fits = f; rs1_fits = a; rs2_fits = b; funct7_fits = h }

read_immediate : {o d f a imm : ℕ} → o < 2 ^ 7 → o ≢ 0x73 → d < 2 ^ 5 → f < 2 ^ 3 → a < 2 ^ 5 → imm < 2 ^ 12 → denoted (immediate_word o d f a imm) ≡ by_fields o d f a (imm % 2 ^ 5) (imm / 2 ^ 5)
read_immediate o other d f a imm = denoted-word_of (fitted o d f a (omega arith) (omega arith)) other

upper_as_word : (o d imm : ℕ) → upper_word o d imm ≡ word_of o d (imm % 2 ^ 3) (imm / 2 ^ 3 % 2 ^ 5) (imm / 2 ^ 8 % 2 ^ 5) (imm / 2 ^ 13)
upper_as_word o d imm = omega arith

read_upper : (o d imm : ℕ) → o < 2 ^ 7 → o ≢ 0x73 → d < 2 ^ 5 → imm < 2 ^ 20 → denoted (upper_word o d imm) ≡ by_fields o d (imm % 2 ^ 3) (imm / 2 ^ 3 % 2 ^ 5) (imm / 2 ^ 8 % 2 ^ 5) (imm / 2 ^ 13)
read_upper o d imm o_fits other d_fits imm_fits =
    ap denoted (upper_as_word o d imm)
    ∙ denoted-word_of (fitted o_fits d_fits (omega arith) (omega arith) (omega arith) (omega arith)) other

-- ---- the instructions

lui : (rd imm : ℕ) → rd < 2 ^ 5 → imm < 2 ^ 20 → denoted (spelling (Instr.Lui rd imm)) ≡ Some (Instr.Lui rd imm)
lui rd imm rd_fits imm_fits =
    read_upper 0x37 rd imm (lit< tt) (omega arith) rd_fits imm_fits ∙ ap (λ u. Some (Instr.Lui rd u)) (upper_back imm)

auipc : (rd imm : ℕ) → rd < 2 ^ 5 → imm < 2 ^ 20 → denoted (spelling (Instr.Auipc rd imm)) ≡ Some (Instr.Auipc rd imm)
auipc rd imm rd_fits imm_fits =
    read_upper 0x17 rd imm (lit< tt) (omega arith) rd_fits imm_fits ∙ ap (λ u. Some (Instr.Auipc rd u)) (upper_back imm)

branch : (op : BranchOp) (rs1 rs2 offset : ℕ) → rs1 < 2 ^ 5 → rs2 < 2 ^ 5 → offset < 2 ^ 12 → denoted (spelling (Instr.Branch op rs1 rs2 offset)) ≡ Some (Instr.Branch op rs1 rs2 offset)
branch op rs1 rs2 offset rs1_fits rs2_fits offset_fits =
    denoted-word_of (fitted {o = 0x63} {d = branch_low offset} {h = branch_high offset} (lit< tt) (omega arith) (branch_code_fits op) rs1_fits rs2_fits (omega arith)) (omega arith)
    ∙ rw (branch_op-code op, branch_back offset offset_fits)

jal : (rd offset : ℕ) → rd < 2 ^ 5 → offset < 2 ^ 20 → denoted (spelling (Instr.Jal rd offset)) ≡ Some (Instr.Jal rd offset)
jal rd offset rd_fits offset_fits =
    read_upper 0x6F rd (jump_order offset) (lit< tt) (omega arith) rd_fits (omega arith)
    ∙ ap (λ u. Some (Instr.Jal rd (jump_offset u))) (upper_back (jump_order offset))
    ∙ ap (λ u. Some (Instr.Jal rd u)) (jump_back offset offset_fits)

jalr : (rd rs1 offset : ℕ) → rd < 2 ^ 5 → rs1 < 2 ^ 5 → offset < 2 ^ 12 → denoted (spelling (Instr.Jalr rd rs1 offset)) ≡ Some (Instr.Jalr rd rs1 offset)
jalr rd rs1 offset rd_fits rs1_fits offset_fits =
    read_immediate {o = 0x67} {f = 0} (lit< tt) (omega arith) rd_fits (lit< tt) rs1_fits offset_fits
    ∙ rw (immediate_back offset)

load : (op : LoadOp) (rd rs1 offset : ℕ) → rd < 2 ^ 5 → rs1 < 2 ^ 5 → offset < 2 ^ 12 → denoted (spelling (Instr.Load op rd rs1 offset)) ≡ Some (Instr.Load op rd rs1 offset)
load op rd rs1 offset rd_fits rs1_fits offset_fits =
    read_immediate {o = 0x03} (lit< tt) (omega arith) rd_fits (load_code_fits op) rs1_fits offset_fits
    ∙ rw (load_op-code op, immediate_back offset)

store : (op : StoreOp) (rs1 rs2 offset : ℕ) → rs1 < 2 ^ 5 → rs2 < 2 ^ 5 → offset < 2 ^ 12 → denoted (spelling (Instr.Store op rs1 rs2 offset)) ≡ Some (Instr.Store op rs1 rs2 offset)
store op rs1 rs2 offset rs1_fits rs2_fits offset_fits =
    denoted-word_of (fitted {o = 0x23} (lit< tt) (omega arith) (store_code_fits op) rs1_fits rs2_fits (omega arith)) (omega arith)
    ∙ rw (store_op-code op, immediate_back offset)

immediate : (op : ImmediateOp) (rd rs1 imm : ℕ) → rd < 2 ^ 5 → rs1 < 2 ^ 5 → imm < 2 ^ 12 → denoted (spelling (Instr.Immediate op rd rs1 imm)) ≡ Some (Instr.Immediate op rd rs1 imm)
immediate op rd rs1 imm rd_fits rs1_fits imm_fits =
    read_immediate {o = 0x13} (lit< tt) (omega arith) rd_fits (immediate_code_fits op) rs1_fits imm_fits
    ∙ rw (immediate_op-code op, immediate_back imm)

shift : (op : ShiftOp) (rd rs1 amount : ℕ) → rd < 2 ^ 5 → rs1 < 2 ^ 5 → amount < 2 ^ 5 → denoted (spelling (Instr.Shift op rd rs1 amount)) ≡ Some (Instr.Shift op rd rs1 amount)
shift op rd rs1 amount rd_fits rs1_fits amount_fits =
    let codes = shift_code_fits op in
    denoted-word_of (fitted {o = 0x13} (lit< tt) rd_fits codes.low rs1_fits amount_fits codes.high) (omega arith)
    ∙ arithmetic_of-shift op rd rs1 amount

register : (op : RegisterOp) (rd rs1 rs2 : ℕ) → rd < 2 ^ 5 → rs1 < 2 ^ 5 → rs2 < 2 ^ 5 → denoted (spelling (Instr.Register op rd rs1 rs2)) ≡ Some (Instr.Register op rd rs1 rs2)
register op rd rs1 rs2 rd_fits rs1_fits rs2_fits =
    let codes = register_code_fits op in
    denoted-word_of (fitted {o = 0x33} (lit< tt) rd_fits codes.low rs1_fits rs2_fits codes.high) (omega arith)
    ∙ rw (register_op-code op)

fence : (rd rs1 imm : ℕ) → rd < 2 ^ 5 → rs1 < 2 ^ 5 → imm < 2 ^ 12 → denoted (spelling (Instr.Fence rd rs1 imm)) ≡ Some (Instr.Fence rd rs1 imm)
fence rd rs1 imm rd_fits rs1_fits imm_fits =
    read_immediate {o = 0x0F} {f = 0} (lit< tt) (omega arith) rd_fits (lit< tt) rs1_fits imm_fits
    ∙ rw (immediate_back imm)

fence_i : (rd rs1 imm : ℕ) → rd < 2 ^ 5 → rs1 < 2 ^ 5 → imm < 2 ^ 12 → denoted (spelling (Instr.FenceI rd rs1 imm)) ≡ Some (Instr.FenceI rd rs1 imm)
fence_i rd rs1 imm rd_fits rs1_fits imm_fits =
    read_immediate {o = 0x0F} {f = 1} (lit< tt) (omega arith) rd_fits (lit< tt) rs1_fits imm_fits
    ∙ rw (immediate_back imm)

-- an atomic instruction is read by funct5 and its two bits
read_atomic : (rd rs1 rs2 funct5 : ℕ) (acquire release : Bool) → rd < 2 ^ 5 → rs1 < 2 ^ 5 → rs2 < 2 ^ 5 → funct5 < 2 ^ 5 → denoted (word_of 0x2F rd 2 rs1 rs2 (atomic funct5 acquire release)) ≡ atomic_of rd rs1 rs2 funct5 acquire release
read_atomic rd rs1 rs2 funct5 acquire release rd_fits rs1_fits rs2_fits funct5_fits =
    denoted-word_of (fitted {o = 0x2F} {f = 2} (lit< tt) rd_fits (lit< tt) rs1_fits rs2_fits (atomic_fits funct5 acquire release funct5_fits)) (omega arith)
    ∙ rw (atomic_funct5 funct5 acquire release, atomic_acquire funct5 acquire release, atomic_release funct5 acquire release)

amo : (op : AmoOp) (rd rs1 rs2 : ℕ) (acquire release : Bool) → rd < 2 ^ 5 → rs1 < 2 ^ 5 → rs2 < 2 ^ 5 → denoted (spelling (Instr.Amo op rd rs1 rs2 acquire release)) ≡ Some (Instr.Amo op rd rs1 rs2 acquire release)
amo op rd rs1 rs2 acquire release rd_fits rs1_fits rs2_fits =
    read_atomic rd rs1 rs2 (amo_code op) acquire release rd_fits rs1_fits rs2_fits (amo_code_fits op)
    ∙ atomic_of-amo op rd rs1 rs2 acquire release

denoted-spelling : (i : Instr) → HasFields i → denoted (spelling i) ≡ Some i
denoted-spelling (Instr.Lui rd imm) h = lui rd imm h.0 h.1
denoted-spelling (Instr.Auipc rd imm) h = auipc rd imm h.0 h.1
denoted-spelling (Instr.Jal rd offset) h = jal rd offset h.0 h.1
denoted-spelling (Instr.Jalr rd rs1 offset) h = jalr rd rs1 offset h.0 h.1 h.2
denoted-spelling (Instr.Branch op rs1 rs2 offset) h = branch op rs1 rs2 offset h.0 h.1 h.2
denoted-spelling (Instr.Load op rd rs1 offset) h = load op rd rs1 offset h.0 h.1 h.2
denoted-spelling (Instr.Store op rs1 rs2 offset) h = store op rs1 rs2 offset h.0 h.1 h.2
denoted-spelling (Instr.Immediate op rd rs1 imm) h = immediate op rd rs1 imm h.0 h.1 h.2
denoted-spelling (Instr.Shift op rd rs1 amount) h = shift op rd rs1 amount h.0 h.1 h.2
denoted-spelling (Instr.Register op rd rs1 rs2) h = register op rd rs1 rs2 h.0 h.1 h.2
denoted-spelling (Instr.Fence rd rs1 imm) h = fence rd rs1 imm h.0 h.1 h.2
denoted-spelling (Instr.FenceI rd rs1 imm) h = fence_i rd rs1 imm h.0 h.1 h.2
denoted-spelling Instr.Ecall h = refl
denoted-spelling Instr.Ebreak h = refl
denoted-spelling (Instr.LoadReserved rd rs1 acquire release) h = read_atomic rd rs1 0 0x02 acquire release h.0 h.1 (lit< tt) (lit< tt)
denoted-spelling (Instr.StoreConditional rd rs1 rs2 acquire release) h = read_atomic rd rs1 rs2 0x03 acquire release h.0 h.1 h.2 (lit< tt)
denoted-spelling (Instr.Amo op rd rs1 rs2 acquire release) h = amo op rd rs1 rs2 acquire release h.0 h.1 h.2

-- the tables find for a word the instruction that it denotes
pub denotes_denoted : {w : ℕ} {i : Instr} → Denotes w i → denoted w ≡ Some i
denotes_denoted {w} {i} d = ap denoted d.spelled ∙ denoted-spelling i d.fields

-- a word denotes at most one instruction
pub denotes_one : {w : ℕ} {i j : Instr} → Denotes w i → Denotes w j → i ≡ j
denotes_one first second =
    let e = sym (denotes_denoted first) ∙ denotes_denoted second in cc
