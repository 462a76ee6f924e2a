-- The image of a number: a program whose threads all add to one shared word, and each to a word of its own.
use Rattle.std.specs.Prelude.{ℕ, ◌+◌, ◌-◌, ◌/◌, ◌%◌, ◌^◌, false, List, [], ◌∷◌, ◌++◌, map}
use Rattle.spec_isa.specs.declared.instr.Instr.{Instr}
use Rattle.spec_isa.specs.declared.instr.ImmediateOp.{ImmediateOp}
use Rattle.spec_isa.specs.declared.instr.ShiftOp.{ShiftOp}
use Rattle.spec_isa.specs.declared.instr.RegisterOp.{RegisterOp}
use Rattle.spec_isa.specs.declared.instr.LoadOp.{LoadOp}
use Rattle.spec_isa.specs.declared.instr.StoreOp.{StoreOp}
use Rattle.spec_isa.specs.declared.instr.BranchOp.{BranchOp}
use Rattle.spec_isa.specs.declared.instr.AmoOp.{AmoOp}
use Rattle.spec_isa.specs.Numbers.{register_a0, register_a1, register_a2, register_a7}
use Rattle.spec_isa.specs.Encoding.{spelling}
use Rattle.dl_asm.specs.File.{file_of}

-- ---- what the number says

-- the threads besides the first one: 1 to 7
abbrev pub spawned_of : (number : ℕ) → ℕ
spawned_of v = 1 + v % 7

-- how often each thread adds: 16 to 1,039 times
abbrev pub rounds_of : (number : ℕ) → ℕ
rounds_of v = 16 + v / 8 % 1024

-- the threads' own words are 4, 8, 16, 32 or 64 bytes apart: 2 to this power
abbrev pub power_of : (number : ℕ) → ℕ
power_of v = 2 + v % 5

-- ---- instructions, each with its registers and numbers as the assembler writes them

-- the number that far below 0, in two's complement
abbrev pub below : (bits distance : ℕ) → ℕ
below bits n = 2 ^ bits - n

abbrev pub addi : (rd rs1 imm : ℕ) → Instr
addi rd rs1 imm = Instr.Immediate ImmediateOp.Addi rd rs1 imm

abbrev pub slli : (rd rs1 amount : ℕ) → Instr
slli rd rs1 amount = Instr.Shift ShiftOp.Slli rd rs1 amount

abbrev pub add : (rd rs1 rs2 : ℕ) → Instr
add rd rs1 rs2 = Instr.Register RegisterOp.Add rd rs1 rs2

abbrev pub lw : (rd offset rs1 : ℕ) → Instr
lw rd offset rs1 = Instr.Load LoadOp.Lw rd rs1 offset

abbrev pub sw : (rs2 offset rs1 : ℕ) → Instr
sw rs2 offset rs1 = Instr.Store StoreOp.Sw rs1 rs2 offset

-- back by that many bytes
abbrev pub bne_back : (rs1 rs2 distance : ℕ) → Instr
bne_back rs1 rs2 n = Instr.Branch BranchOp.Bne rs1 rs2 (below 13 n / 2)

abbrev pub amoadd : (rd rs2 rs1 : ℕ) → Instr
amoadd rd rs2 rs1 = Instr.Amo AmoOp.Amoadd rd rs1 rs2 false false

-- ---- what the program's numbers stand for

-- its calls
abbrev pub exit : ℕ
exit = 0

abbrev pub spawn : ℕ
spawn = 1

-- the register that stays 0, and the one with the number of threads still to be spawned
abbrev pub zero : ℕ
zero = 0

abbrev pub left : ℕ
left = 8

-- registers of each thread: the address of its own word, and how often it still adds
abbrev pub own : ℕ
own = 5

abbrev pub again : ℕ
again = 6

-- the number that it adds, the address of the shared word, what was there before, and what its own word takes
abbrev pub added : ℕ
added = 7

abbrev pub shared : ℕ
shared = 28

abbrev pub found : ℕ
found = 29

abbrev pub sum : ℕ
sum = 30

-- ---- the program

-- the first thread, from address 0 on: it spawns the others, each with its number, and goes on as they do
abbrev pub spawning : (spawned : ℕ) → List Instr
spawning p =
    addi left zero p
    ∷ addi register_a7 zero spawn
    ∷ addi register_a0 zero 36
    ∷ addi register_a1 zero 0
    ∷ addi register_a2 left 0
    ∷ Instr.Ecall
    ∷ addi left left (below 12 1)
    ∷ bne_back left zero 24
    ∷ addi register_a0 zero 0
    ∷ []

-- each thread, from address 36 on: it adds 1 to the word at 992, and what was there before to its own word, which is from 1,024 on
abbrev pub adding : (power rounds : ℕ) → List Instr
adding h n =
    slli own register_a0 h
    ∷ addi own own 1024
    ∷ addi again zero n
    ∷ addi added zero 1
    ∷ addi shared zero 992
    ∷ amoadd found added shared
    ∷ lw sum 0 own
    ∷ add sum sum found
    ∷ sw sum 0 own
    ∷ addi again again (below 12 1)
    ∷ bne_back again zero 28
    ∷ []

-- and ends with 0
abbrev pub leaving : List Instr
leaving = addi register_a7 zero exit ∷ addi register_a0 zero 0 ∷ Instr.Ecall ∷ []

abbrev pub program_of : (number : ℕ) → List Instr
program_of v = spawning (spawned_of v) ++ adding (power_of v) (rounds_of v) ++ leaving

abbrev pub words_of : (number : ℕ) → List ℕ
words_of v = map spelling (program_of v)

-- ---- its file

abbrev pub made : (number : ℕ) → List ℕ
made v = file_of (words_of v)
