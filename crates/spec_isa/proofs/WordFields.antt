-- A word made of fields has these fields, and a word is made of its own. Likewise for the immediates.
use Rattle.std.proofs.Common.{◌≡◌, ℕ, ◌+◌, ◌*◌, ◌/◌, ◌%◌, ◌^◌, ◌<◌, arith}
use Rattle.spec_isa.specs.Encoding.{word_of}
use Rattle.spec_isa.specs.Denoted.{branch_offset, upper_field, jump_offset}

-- numbers that fit the six fields
pub record Fit (opcode rd funct3 rs1 rs2 funct7 : ℕ) : Type 0 where
  pub opcode_fits : opcode < 2 ^ 7
  pub rd_fits : rd < 2 ^ 5
  pub funct3_fits : funct3 < 2 ^ 3
  pub rs1_fits : rs1 < 2 ^ 5
  pub rs2_fits : rs2 < 2 ^ 5
  pub funct7_fits : funct7 < 2 ^ 7

-- a word made of fields that fit has the opcode in its lowest seven bits
pub opcode_back : {o d f a b h : ℕ} → Fit o d f a b h → word_of o d f a b h % 2 ^ 7 ≡ o
opcode_back fit = omega arith

-- a word made of fields that fit has rd in bits 7 to 11
pub rd_back : {o d f a b h : ℕ} → Fit o d f a b h → word_of o d f a b h / 2 ^ 7 % 2 ^ 5 ≡ d
rd_back fit = omega arith

-- a word made of fields that fit has funct3 in bits 12 to 14
pub funct3_back : {o d f a b h : ℕ} → Fit o d f a b h → word_of o d f a b h / 2 ^ 12 % 2 ^ 3 ≡ f
funct3_back fit = omega arith

-- a word made of fields that fit has rs1 in bits 15 to 19
pub rs1_back : {o d f a b h : ℕ} → Fit o d f a b h → word_of o d f a b h / 2 ^ 15 % 2 ^ 5 ≡ a
rs1_back fit = omega arith

-- a word made of fields that fit has rs2 in bits 20 to 24
pub rs2_back : {o d f a b h : ℕ} → Fit o d f a b h → word_of o d f a b h / 2 ^ 20 % 2 ^ 5 ≡ b
rs2_back fit = omega arith

-- a word made of fields that fit has funct7 in the bits from 25 on
pub funct7_back : {o d f a b h : ℕ} → Fit o d f a b h → word_of o d f a b h / 2 ^ 25 ≡ h
funct7_back fit = omega arith

-- the fields that are read from a word of 32 bits fit
pub fit : (w : ℕ) → w < 2 ^ 32 → Fit (w % 2 ^ 7) (w / 2 ^ 7 % 2 ^ 5) (w / 2 ^ 12 % 2 ^ 3) (w / 2 ^ 15 % 2 ^ 5) (w / 2 ^ 20 % 2 ^ 5) (w / 2 ^ 25)
fit w h =
    record {
      opcode_fits = omega arith;
      rd_fits = omega arith;
      funct3_fits = omega arith;
      rs1_fits = omega arith;
      rs2_fits = omega arith;
      funct7_fits = omega arith;
    }

-- a word is made of the fields that are read from it
pub word_back : (w : ℕ) → w ≡ word_of (w % 2 ^ 7) (w / 2 ^ 7 % 2 ^ 5) (w / 2 ^ 12 % 2 ^ 3) (w / 2 ^ 15 % 2 ^ 5) (w / 2 ^ 20 % 2 ^ 5) (w / 2 ^ 25)
word_back w = omega arith

-- ---- the immediates

-- an immediate is its lowest five bits and the rest of it, each put in its place
pub immediate_back : (imm : ℕ) → imm % 2 ^ 5 + imm / 2 ^ 5 * 2 ^ 5 ≡ imm
immediate_back imm = omega arith

-- the lowest five bits of an immediate made of two parts are its first part
pub immediate_low : (b h : ℕ) → b < 2 ^ 5 → (b + h * 2 ^ 5) % 2 ^ 5 ≡ b
immediate_low b h fits = omega arith

-- above its lowest five bits an immediate made of two parts is its second part
pub immediate_high : (b h : ℕ) → b < 2 ^ 5 → (b + h * 2 ^ 5) / 2 ^ 5 ≡ h
immediate_high b h fits = omega arith

-- the two parts of a branch's offset
abbrev pub branch_low : ℕ → ℕ
branch_low offset = offset % 2 ^ 4 * 2 + offset / 2 ^ 10 % 2

-- the part that is in funct7
abbrev pub branch_high : ℕ → ℕ
branch_high offset = offset / 2 ^ 11 * 2 ^ 6 + offset / 2 ^ 4 % 2 ^ 6

-- the offset read from the two parts of a branch's offset is that offset
pub branch_back : (offset : ℕ) → offset < 2 ^ 12 → branch_offset (branch_low offset) (branch_high offset) ≡ offset
branch_back offset fits = omega arith

-- the low part of the offset in a branch's word is what is in rd
pub branch_low_back : (d h : ℕ) → d < 2 ^ 5 → h < 2 ^ 7 → branch_low (branch_offset d h) ≡ d
branch_low_back d h d_fits h_fits = omega arith

-- the high part of the offset in a branch's word is what is in funct7
pub branch_high_back : (d h : ℕ) → d < 2 ^ 5 → h < 2 ^ 7 → branch_high (branch_offset d h) ≡ h
branch_high_back d h d_fits h_fits = omega arith

-- an upper immediate is read again from the four fields into which it is cut
pub upper_back : (imm : ℕ) → upper_field (imm % 2 ^ 3) (imm / 2 ^ 3 % 2 ^ 5) (imm / 2 ^ 8 % 2 ^ 5) (imm / 2 ^ 13) ≡ imm
upper_back imm = omega arith

-- the order of a jump's bits in its word
abbrev pub jump_order : ℕ → ℕ
jump_order offset = offset / 2 ^ 19 * 2 ^ 19 + offset % 2 ^ 10 * 2 ^ 9 + offset / 2 ^ 10 % 2 * 2 ^ 8 + offset / 2 ^ 11 % 2 ^ 8

-- a jump's offset is read again from its bits in the order of the word
pub jump_back : (offset : ℕ) → offset < 2 ^ 20 → jump_offset (jump_order offset) ≡ offset
jump_back offset fits = omega arith

-- the bits of a jump's word are those of the offset that is read from them, in the order of the word
pub jump_order_back : (u : ℕ) → u < 2 ^ 20 → jump_order (jump_offset u) ≡ u
jump_order_back u fits = omega arith
