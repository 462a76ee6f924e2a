-- The places of a word's fields, and the instruction that the tables find from them.
use Rattle.std.specs.Prelude.{ℕ, ◌/◌, ◌%◌, ◌^◌, Bool, nat_eq, Option, None, option_map}
use Rattle.spec_isa.specs.declared.instr.Instr.{Instr}
use Rattle.spec_isa.specs.Denoted.{amo_op, arithmetic_of, atomic_of, by_fields, upper_field}

abbrev pub opcode_of : ℕ → ℕ
opcode_of w = w % 2 ^ 7

abbrev pub rd_of : ℕ → ℕ
rd_of w = w / 2 ^ 7 % 2 ^ 5

abbrev pub funct3_of : ℕ → ℕ
funct3_of w = w / 2 ^ 12 % 2 ^ 3

abbrev pub rs1_of : ℕ → ℕ
rs1_of w = w / 2 ^ 15 % 2 ^ 5

abbrev pub rs2_of : ℕ → ℕ
rs2_of w = w / 2 ^ 20 % 2 ^ 5

abbrev pub funct7_of : ℕ → ℕ
funct7_of w = w / 2 ^ 25

-- the twenty bits above rd
abbrev pub upper_of : ℕ → ℕ
upper_of w = upper_field (funct3_of w) (rs1_of w) (rs2_of w) (funct7_of w)

-- an atomic instruction's funct7 is funct5, aq and rl
abbrev pub funct5_of : ℕ → ℕ
funct5_of w = funct7_of w / 4

abbrev pub acquire_of : ℕ → Bool
acquire_of w = nat_eq (funct7_of w / 2 % 2) 1

abbrev pub release_of : ℕ → Bool
release_of w = nat_eq (funct7_of w % 2) 1

-- the instruction of a word with that opcode
abbrev pub instr_under : (opcode word : ℕ) → Option Instr
instr_under opcode w = by_fields opcode (rd_of w) (funct3_of w) (rs1_of w) (rs2_of w) (funct7_of w)

-- the atomic instruction of a word with that funct5
abbrev pub atomic_under : (funct5 word : ℕ) → Option Instr
atomic_under funct5 w = atomic_of (rd_of w) (rs1_of w) (rs2_of w) funct5 (acquire_of w) (release_of w)

-- a shift by a constant, if the word is one
abbrev pub shift_in : ℕ → Option Instr
shift_in w = arithmetic_of (rd_of w) (funct3_of w) (rs1_of w) (rs2_of w) (funct7_of w) None

-- an atomic operation other than LR and SC, if the word is one
abbrev pub amo_in : ℕ → Option Instr
amo_in w =
    option_map (λ op. Instr.Amo op (rd_of w) (rs1_of w) (rs2_of w) (acquire_of w) (release_of w)) (amo_op (funct5_of w))
