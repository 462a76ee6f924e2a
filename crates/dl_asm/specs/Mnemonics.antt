-- The mnemonics of statements: those of the ISA manual for its instructions, and two for words of data.
use Rattle.std.specs.Prelude.{ℕ, Bool, true, false, List, [], ◌∷◌, map, codes, Option, Some, None, if◌then◌else◌}
use Rattle.std.specs.Borrow.{Bor}
use Rattle.std.specs.List.{find}
use Rattle.std.specs.Option.{option_or, option_map, option_and_then}
use Rattle.std.specs.Str.{bytes_eq}
use Rattle.spec_isa.specs.declared.instr.BranchOp.{BranchOp}
use Rattle.spec_isa.specs.declared.instr.LoadOp.{LoadOp}
use Rattle.spec_isa.specs.declared.instr.StoreOp.{StoreOp}
use Rattle.spec_isa.specs.declared.instr.ImmediateOp.{ImmediateOp}
use Rattle.spec_isa.specs.declared.instr.ShiftOp.{ShiftOp}
use Rattle.spec_isa.specs.declared.instr.RegisterOp.{RegisterOp}
use Rattle.spec_isa.specs.declared.instr.AmoOp.{AmoOp}
use Rattle.spec_isa.specs.Denoted.{branches, loads, stores, immediates, shifts, registers, amos}
use Rattle.dl_asm.specs.Texts.{before, behind}
use Rattle.dl_asm.specs.declared.form.Form.{Form}
use Rattle.dl_asm.specs.declared.form.Order.{Order}

-- ---- the operations

abbrev pub register_name : RegisterOp → List ℕ
register_name RegisterOp.Add = codes "add"
register_name RegisterOp.Sub = codes "sub"
register_name RegisterOp.Sll = codes "sll"
register_name RegisterOp.Slt = codes "slt"
register_name RegisterOp.Sltu = codes "sltu"
register_name RegisterOp.Xor = codes "xor"
register_name RegisterOp.Srl = codes "srl"
register_name RegisterOp.Sra = codes "sra"
register_name RegisterOp.Or = codes "or"
register_name RegisterOp.And = codes "and"
register_name RegisterOp.Mul = codes "mul"
register_name RegisterOp.Mulh = codes "mulh"
register_name RegisterOp.Mulhsu = codes "mulhsu"
register_name RegisterOp.Mulhu = codes "mulhu"
register_name RegisterOp.Div = codes "div"
register_name RegisterOp.Divu = codes "divu"
register_name RegisterOp.Rem = codes "rem"
register_name RegisterOp.Remu = codes "remu"

abbrev pub immediate_name : ImmediateOp → List ℕ
immediate_name ImmediateOp.Addi = codes "addi"
immediate_name ImmediateOp.Slti = codes "slti"
immediate_name ImmediateOp.Sltiu = codes "sltiu"
immediate_name ImmediateOp.Xori = codes "xori"
immediate_name ImmediateOp.Ori = codes "ori"
immediate_name ImmediateOp.Andi = codes "andi"

abbrev pub shift_name : ShiftOp → List ℕ
shift_name ShiftOp.Slli = codes "slli"
shift_name ShiftOp.Srli = codes "srli"
shift_name ShiftOp.Srai = codes "srai"

abbrev pub load_name : LoadOp → List ℕ
load_name LoadOp.Lb = codes "lb"
load_name LoadOp.Lh = codes "lh"
load_name LoadOp.Lw = codes "lw"
load_name LoadOp.Lbu = codes "lbu"
load_name LoadOp.Lhu = codes "lhu"

abbrev pub store_name : StoreOp → List ℕ
store_name StoreOp.Sb = codes "sb"
store_name StoreOp.Sh = codes "sh"
store_name StoreOp.Sw = codes "sw"

abbrev pub branch_name : BranchOp → List ℕ
branch_name BranchOp.Beq = codes "beq"
branch_name BranchOp.Bne = codes "bne"
branch_name BranchOp.Blt = codes "blt"
branch_name BranchOp.Bge = codes "bge"
branch_name BranchOp.Bltu = codes "bltu"
branch_name BranchOp.Bgeu = codes "bgeu"

abbrev pub amo_name : AmoOp → List ℕ
amo_name AmoOp.Amoadd = codes "amoadd"
amo_name AmoOp.Amoswap = codes "amoswap"
amo_name AmoOp.Amoxor = codes "amoxor"
amo_name AmoOp.Amoor = codes "amoor"
amo_name AmoOp.Amoand = codes "amoand"
amo_name AmoOp.Amomin = codes "amomin"
amo_name AmoOp.Amomax = codes "amomax"
amo_name AmoOp.Amominu = codes "amominu"
amo_name AmoOp.Amomaxu = codes "amomaxu"

-- ---- the order of an atomic operation, as it is written after the operation's dot

abbrev pub order : (acquire release : Bool) → Order
order acquire release = record { acquire = acquire; release = release }

abbrev pub order_named : List ℕ → Option Order
order_named name =
    if bytes_eq name (codes "w") then Some (order false false)
    else if bytes_eq name (codes "w.aq") then Some (order true false)
    else if bytes_eq name (codes "w.rl") then Some (order false true)
    else if bytes_eq name (codes "w.aqrl") then Some (order true true)
    else None

abbrev pub atomic_named : List ℕ → Order → Option Form
atomic_named name order =
    if bytes_eq name (codes "lr") then Some (Form.LoadReserved order)
    else if bytes_eq name (codes "sc") then Some (Form.StoreConditional order)
    else option_map (λ op. Form.Amo op order) (find (λ op. bytes_eq name (amo_name op)) amos)

abbrev pub atomic_form : List ℕ → Option Form
atomic_form name = option_and_then (atomic_named (before 46 name)) (order_named (behind 46 name))

-- ---- what has no operation

abbrev pub plain_form : List ℕ → Option Form
plain_form name =
    if bytes_eq name (codes "lui") then Some Form.Lui
    else if bytes_eq name (codes "auipc") then Some Form.Auipc
    else if bytes_eq name (codes "jal") then Some Form.Jal
    else if bytes_eq name (codes "jalr") then Some Form.Jalr
    else if bytes_eq name (codes "fence") then Some Form.Fence
    else if bytes_eq name (codes "fence.i") then Some Form.FenceI
    else if bytes_eq name (codes "ecall") then Some Form.Ecall
    else if bytes_eq name (codes "ebreak") then Some Form.Ebreak
    else if bytes_eq name (codes ".word") then Some Form.Word
    else if bytes_eq name (codes ".zero") then Some Form.Zero
    else None

-- ---- the form that a mnemonic names

unfoldable pub form_named : List ℕ → Option Form
form_named name =
    option_or (option_map Form.Register (find (λ op. bytes_eq name (register_name op)) registers))
    (option_or (option_map Form.Immediate (find (λ op. bytes_eq name (immediate_name op)) immediates))
    (option_or (option_map Form.Shift (find (λ op. bytes_eq name (shift_name op)) shifts))
    (option_or (option_map Form.Load (find (λ op. bytes_eq name (load_name op)) loads))
    (option_or (option_map Form.Store (find (λ op. bytes_eq name (store_name op)) stores))
    (option_or (option_map Form.Branch (find (λ op. bytes_eq name (branch_name op)) branches))
    (option_or (plain_form name) (atomic_form name)))))))

-- ---- the code's tables of names with what they name

abbrev pub entries : {A : Type 0} → List (Bor (List ℕ) × A) → List (List ℕ × A)
entries table = map (λ entry. (entry.0.now, entry.1)) table

-- what the first entry with that name names
abbrev pub named : {A : Type 0} → (name : List ℕ) → List (List ℕ × A) → Option A
named name [] = None
named name (entry ∷ rest) = if bytes_eq name (entry.0) then Some (entry.1) else named name rest
