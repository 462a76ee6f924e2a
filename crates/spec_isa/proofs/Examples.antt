-- Words that an assembler wrote, and the instructions that they denote.
use Rattle.std.proofs.Common.{◌≡◌, true, false, Some, None, refl, lit<}
use Rattle.spec_isa.specs.declared.instr.BranchOp.{BranchOp}
use Rattle.spec_isa.specs.declared.instr.StoreOp.{StoreOp}
use Rattle.spec_isa.specs.declared.instr.ImmediateOp.{ImmediateOp}
use Rattle.spec_isa.specs.declared.instr.ShiftOp.{ShiftOp}
use Rattle.spec_isa.specs.declared.instr.RegisterOp.{RegisterOp}
use Rattle.spec_isa.specs.declared.instr.AmoOp.{AmoOp}
use Rattle.spec_isa.specs.declared.instr.Instr.{Instr}
use Rattle.spec_isa.specs.Encoding.{Denotes}
use Rattle.spec_isa.specs.Denoted.{denoted}

-- addi x17, x0, 0
addi_17 : Denotes 0x00000893 (Instr.Immediate ImmediateOp.Addi 17 0 0)
addi_17 = record { fields = (lit< tt, lit< tt, lit< tt); spelled = refl }

-- addi x10, x0, 7
addi_10 : Denotes 0x00700513 (Instr.Immediate ImmediateOp.Addi 10 0 7)
addi_10 = record { fields = (lit< tt, lit< tt, lit< tt); spelled = refl }

ecall : Denotes 0x00000073 Instr.Ecall
ecall = record { fields = tt; spelled = refl }

-- jal x1, -1048576
jal : Denotes 0x800000EF (Instr.Jal 1 0x80000)
jal = record { fields = (lit< tt, lit< tt); spelled = refl }

-- beq x10, x11, -4096
beq : Denotes 0x80B50063 (Instr.Branch BranchOp.Beq 10 11 0x800)
beq = record { fields = (lit< tt, lit< tt, lit< tt); spelled = refl }

-- bgeu x1, x2, 2046
bgeu : Denotes 0x7E20FF63 (Instr.Branch BranchOp.Bgeu 1 2 0x3FF)
bgeu = record { fields = (lit< tt, lit< tt, lit< tt); spelled = refl }

-- sw x11, -1(x2)
sw : Denotes 0xFEB12FA3 (Instr.Store StoreOp.Sw 2 11 0xFFF)
sw = record { fields = (lit< tt, lit< tt, lit< tt); spelled = refl }

-- the tables find them too
addi_17_found : denoted 0x00000893 ≡ Some (Instr.Immediate ImmediateOp.Addi 17 0 0)
addi_17_found = refl

-- jal x0, 2048
jal_found : denoted 0x0010006F ≡ Some (Instr.Jal 0 0x400)
jal_found = refl

-- srai x9, x10, 4
srai_found : denoted 0x40455493 ≡ Some (Instr.Shift ShiftOp.Srai 9 10 4)
srai_found = refl

-- mul x12, x13, x14
mul_found : denoted 0x02E68633 ≡ Some (Instr.Register RegisterOp.Mul 12 13 14)
mul_found = refl

-- lr.w.aq x5, (x10)
lr_found : denoted 0x140522AF ≡ Some (Instr.LoadReserved 5 10 true false)
lr_found = refl

-- the same with a second register, which isn't an instruction
lr_refused : denoted 0x141522AF ≡ None
lr_refused = refl

-- amomaxu.w.aqrl x8, x9, (x10)
amomaxu_found : denoted 0xE695242F ≡ Some (Instr.Amo AmoOp.Amomaxu 8 10 9 true true)
amomaxu_found = refl

-- mret, which is outside the table
mret_refused : denoted 0x30200073 ≡ None
mret_refused = refl
