-- Numbers as instructions' fields and words hold them, and the ranges of statements.
use Rattle.std.specs.Prelude.{ℕ, ◌-◌, ◌/◌, ◌%◌, ◌^◌, ◌==◌, Bool, true, false, ◌&&◌, nat_le, nat_lt, List, [], ◌∷◌, replicate, Option, Some, None, if◌then◌else◌}
use Rattle.spec_isa.specs.declared.instr.Instr.{Instr}
use Rattle.spec_isa.specs.Encoding.{spelling}
use Rattle.dl_asm.specs.declared.number.Number.{Number}
use Rattle.dl_asm.specs.declared.form.Form.{Form}
use Rattle.dl_asm.specs.declared.fields.Registers.{Registers}

-- ---- ranges

abbrev pub within : (below above : ℕ) → Number → Bool
within below above n = nat_le n.magnitude (if n.negative then below else above)

-- the lowest bit of a branch's or a jump's target is 0
abbrev pub even : Number → Bool
even n = n.magnitude % 2 == 0

-- whether a form can hold the number; one without a value holds only 0
unfoldable pub holds : Form → Number → Bool
holds (Form.Register op) n = within 0 0 n
holds (Form.Immediate op) n = within 2048 2047 n
holds (Form.Shift op) n = within 0 31 n
holds (Form.Load op) n = within 2048 2047 n
holds (Form.Store op) n = within 2048 2047 n
holds (Form.Branch op) n = within 4096 4094 n && even n
holds Form.Lui n = within 0 1048575 n
holds Form.Auipc n = within 0 1048575 n
holds Form.Jal n = within 1048576 1048574 n && even n
holds Form.Jalr n = within 2048 2047 n
holds Form.Fence n = within 0 0 n
holds Form.FenceI n = within 0 0 n
holds Form.Ecall n = within 0 0 n
holds Form.Ebreak n = within 0 0 n
holds (Form.LoadReserved order) n = within 0 0 n
holds (Form.StoreConditional order) n = within 0 0 n
holds (Form.Amo op order) n = within 0 0 n
holds Form.Word n = within (2 ^ 31) (2 ^ 32 - 1) n
holds Form.Zero n = within 0 4194304 n

-- whether a label's name stands for the distance to the label, and not for its address
abbrev pub takes_distance : Form → Bool
takes_distance (Form.Register op) = false
takes_distance (Form.Immediate op) = false
takes_distance (Form.Shift op) = false
takes_distance (Form.Load op) = false
takes_distance (Form.Store op) = false
takes_distance (Form.Branch op) = true
takes_distance Form.Lui = false
takes_distance Form.Auipc = false
takes_distance Form.Jal = true
takes_distance Form.Jalr = false
takes_distance Form.Fence = false
takes_distance Form.FenceI = false
takes_distance Form.Ecall = false
takes_distance Form.Ebreak = false
takes_distance (Form.LoadReserved order) = false
takes_distance (Form.StoreConditional order) = false
takes_distance (Form.Amo op order) = false
takes_distance Form.Word = false
takes_distance Form.Zero = false

-- ---- what a label stands for

abbrev pub address_number : (address : ℕ) → Number
address_number address = record { negative = false; magnitude = address }

-- below 0 if it comes before
abbrev pub distance_number : (from to : ℕ) → Number
distance_number from to = record { negative = nat_lt to from; magnitude = if nat_lt to from then from - to else to - from }

-- ---- the bits of a number, in two's complement

abbrev pub bits : (width : ℕ) → Number → ℕ
bits width n = (if n.negative then 2 ^ width - n.magnitude else n.magnitude) % 2 ^ width

-- without the lowest bit
abbrev pub half_bits : (width : ℕ) → Number → ℕ
half_bits width n = bits width n / 2

-- ---- the instruction of a statement; `.word` and `.zero` have none

unfoldable pub instr_of : Form → Registers → Number → Option Instr
instr_of (Form.Register op) r n = Some (Instr.Register op r.rd r.rs1 r.rs2)
instr_of (Form.Immediate op) r n = Some (Instr.Immediate op r.rd r.rs1 (bits 12 n))
instr_of (Form.Shift op) r n = Some (Instr.Shift op r.rd r.rs1 (bits 5 n))
instr_of (Form.Load op) r n = Some (Instr.Load op r.rd r.rs1 (bits 12 n))
instr_of (Form.Store op) r n = Some (Instr.Store op r.rs1 r.rs2 (bits 12 n))
instr_of (Form.Branch op) r n = Some (Instr.Branch op r.rs1 r.rs2 (half_bits 13 n))
instr_of Form.Lui r n = Some (Instr.Lui r.rd (bits 20 n))
instr_of Form.Auipc r n = Some (Instr.Auipc r.rd (bits 20 n))
instr_of Form.Jal r n = Some (Instr.Jal r.rd (half_bits 21 n))
instr_of Form.Jalr r n = Some (Instr.Jalr r.rd r.rs1 (bits 12 n))
instr_of Form.Fence r n = Some (Instr.Fence 0 0 0x0FF)
instr_of Form.FenceI r n = Some (Instr.FenceI 0 0 0)
instr_of Form.Ecall r n = Some Instr.Ecall
instr_of Form.Ebreak r n = Some Instr.Ebreak
instr_of (Form.LoadReserved order) r n = Some (Instr.LoadReserved r.rd r.rs1 order.acquire order.release)
instr_of (Form.StoreConditional order) r n = Some (Instr.StoreConditional r.rd r.rs1 r.rs2 order.acquire order.release)
instr_of (Form.Amo op order) r n = Some (Instr.Amo op r.rd r.rs1 r.rs2 order.acquire order.release)
instr_of Form.Word r n = None
instr_of Form.Zero r n = None

abbrev pub data_of : Form → Number → List ℕ
data_of Form.Zero n = replicate n.magnitude 0
data_of _ n = bits 32 n ∷ []

abbrev pub words_by : Option Instr → Form → Number → List ℕ
words_by (Some instr) form n = spelling instr ∷ []
words_by None form n = data_of form n

-- the words of a statement
abbrev pub words_of : Form → Registers → Number → List ℕ
words_of form registers n = words_by (instr_of form registers n) form n
