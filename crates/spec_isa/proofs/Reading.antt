-- A word made of fields is read by those fields.
use Rattle.std.proofs.Common.{◌≡◌, ◌≢◌, ℕ, ◌/◌, ◌%◌, ◌^◌, arith, ◌∙◌}
use Rattle.std.proofs.lemmas.Bool.{ne_eqb, cond-false}
use Rattle.spec_isa.specs.Encoding.{word_of}
use Rattle.spec_isa.specs.Denoted.{by_fields, denoted}
use Rattle.spec_isa.proofs.WordFields.{Fit, opcode_back, rd_back, funct3_back, rs1_back, rs2_back, funct7_back}

denoted_other : (w : ℕ) → w % 2 ^ 7 ≢ 0x73 → denoted w ≡ by_fields (w % 2 ^ 7) (w / 2 ^ 7 % 2 ^ 5) (w / 2 ^ 12 % 2 ^ 3) (w / 2 ^ 15 % 2 ^ 5) (w / 2 ^ 20 % 2 ^ 5) (w / 2 ^ 25)
denoted_other w other =
    cond-false _ _ _ (ne_eqb w 0x00000073 (λ e. omega arith))
    ∙ cond-false _ _ _ (ne_eqb w 0x00100073 (λ e. omega arith))

-- a word made of fields that fit denotes what the tables find by them, unless it has the opcode of ECALL and EBREAK
pub denoted-word_of : {o d f a b h : ℕ} → Fit o d f a b h → o ≢ 0x73 → denoted (word_of o d f a b h) ≡ by_fields o d f a b h
denoted-word_of {o} {d} {f} {a} {b} {h} fit other =
    denoted_other (word_of o d f a b h) (rw (opcode_back fit) other)
    ∙ rw (opcode_back fit, rd_back fit, funct3_back fit, rs1_back fit, rs2_back fit, funct7_back fit)
