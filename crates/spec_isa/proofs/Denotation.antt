-- The instruction that the tables find is spelled by the word; if they find none, the word denotes none.
use Rattle.std.proofs.Common.{◌≡◌, ℕ, zero, suc, ◌+◌, ◌*◌, ◌/◌, ◌%◌, ◌^◌, ◌<◌, Bool, true, false, eqb, cond, ◌&&◌, List, [], ◌∷◌, Option, Some, None, refl, sym, subst, arith}
use Rattle.std.specs.Prelude.{find, option_map}
use Rattle.std.proofs.lemmas.Bool.{eqb-true, cond_both, and_parts}
use Rattle.spec_isa.specs.declared.instr.BranchOp.{BranchOp}
use Rattle.spec_isa.specs.declared.instr.LoadOp.{LoadOp}
use Rattle.spec_isa.specs.declared.instr.StoreOp.{StoreOp}
use Rattle.spec_isa.specs.declared.instr.ImmediateOp.{ImmediateOp}
use Rattle.spec_isa.specs.declared.instr.ShiftOp.{ShiftOp}
use Rattle.spec_isa.specs.declared.instr.RegisterOp.{RegisterOp}
use Rattle.spec_isa.specs.declared.instr.AmoOp.{AmoOp}
use Rattle.spec_isa.specs.declared.instr.Instr.{Instr}
use Rattle.spec_isa.specs.Encoding.{word_of, Denotes, IsMeaning, atomic, bit, branch_code, load_code, store_code, immediate_code, shift_code, register_code, amo_code}
use Rattle.spec_isa.specs.Denoted.{branches, loads, stores, immediates, shifts, registers, amos, branch_op, load_op, store_op, shift_op, register_op, amo_op, branch_offset, upper_field, jump_offset, immediate_op, arithmetic_of, atomic_of, by_fields, denoted}
use Rattle.spec_isa.proofs.WordFields.{Fit, fit, word_back, branch_low_back, branch_high_back, jump_order_back}
use Rattle.spec_isa.proofs.RoundTrip.{denotes_denoted}

-- what was found, if anything was, is denoted
abbrev IsRight : ℕ → Option Instr → Type 0
IsRight w None = Unit {0}
IsRight w (Some i) = Denotes w i

right_cond : (w : ℕ) (b : Bool) (x y : Option Instr) → (b ≡ true → IsRight w x) → (b ≡ false → IsRight w y) → IsRight w (cond b x y)
right_cond w b x y = cond_both b x y (IsRight w)

-- for a test on a number
right_if : (w a n : ℕ) (x y : Option Instr) → (a ≡ n → IsRight w x) → IsRight w y → IsRight w (cond (eqb a n) x y)
right_if w a n x y found otherwise = right_cond w (eqb a n) x y (λ e. found (eqb-true a n e)) (λ _. otherwise)

right_find : {A : Type 0} (w : ℕ) (p : A → Bool) (f : A → Instr) (xs : List A) → ((x : A) → p x ≡ true → Denotes w (f x)) → IsRight w (option_map f (find p xs))
right_find w p f [] each = tt
right_find w p f (x ∷ xs) each =
    elim (p x) as (λ b. p x ≡ b → IsRight w (option_map f (cond b (Some x) (find p xs)))) [
      | true ↦ λ e. each x e
      | false ↦ λ _. right_find w p f xs each
    ] refl

bit_back : (n : ℕ) → n < 2 → bit (eqb n 1) ≡ n
bit_back zero h = refl
bit_back (suc zero) h = refl
bit_back (suc (suc n)) h = absurd (omega arith)

found : {A : Type 0} (p : A → Bool) (xs : List A) (x : A) → find p xs ≡ Some x → p x ≡ true
found p [] x e = cc
found p (y ∷ ys) x e =
    elim (p y) as (λ b. p y ≡ b → cond b (Some y) (find p ys) ≡ Some x → p x ≡ true) [
      | true ↦ λ g k. let same : y ≡ x = cc in subst (λ z. p z ≡ true) same g
      | false ↦ λ _ k. found p ys x k
    ] refl e

immediate_found : (f : ℕ) (op : ImmediateOp) → immediate_op f ≡ Some op → immediate_code op ≡ f
immediate_found f op e = eqb-true _ _ (found (λ x. eqb (immediate_code x) f) immediates op e)

module _ (o d f a b h : ℕ) (fit : Fit o d f a b h) where
  abbrev w : ℕ
  w = word_of o d f a b h

  abbrev imm : ℕ
  imm = b + h * 2 ^ 5

  lui : o ≡ 0x37 → Denotes w (Instr.Lui d (upper_field f a b h))
  lui e = record { fields = (omega arith, omega arith); spelled = omega arith }

  auipc : o ≡ 0x17 → Denotes w (Instr.Auipc d (upper_field f a b h))
  auipc e = record { fields = (omega arith, omega arith); spelled = omega arith }

  jal : o ≡ 0x6F → Denotes w (Instr.Jal d (jump_offset (upper_field f a b h)))
  jal e =
      let u : ℕ = upper_field f a b h in
      let fits : u < 2 ^ 20 = omega arith in
      record { fields = (omega arith, omega arith); spelled = rw (jump_order_back u fits) (omega arith) }

  jalr : o ≡ 0x67 → f ≡ 0 → Denotes w (Instr.Jalr d a imm)
  jalr e g = record { fields = (omega arith, omega arith, omega arith); spelled = omega arith }

  branch : (op : BranchOp) → o ≡ 0x63 → branch_code op ≡ f → Denotes w (Instr.Branch op a b (branch_offset d h))
  branch op e g =
      record { fields = (omega arith, omega arith, omega arith); spelled = rw (branch_low_back d h fit.rd_fits fit.funct7_fits, branch_high_back d h fit.rd_fits fit.funct7_fits) (omega arith) }

  load : (op : LoadOp) → o ≡ 0x03 → load_code op ≡ f → Denotes w (Instr.Load op d a imm)
  load op e g = record { fields = (omega arith, omega arith, omega arith); spelled = omega arith }

  store : (op : StoreOp) → o ≡ 0x23 → store_code op ≡ f → Denotes w (Instr.Store op a b (d + h * 2 ^ 5))
  store op e g = record { fields = (omega arith, omega arith, omega arith); spelled = omega arith }

  immediate : (op : ImmediateOp) → o ≡ 0x13 → immediate_code op ≡ f → Denotes w (Instr.Immediate op d a imm)
  immediate op e g = record { fields = (omega arith, omega arith, omega arith); spelled = omega arith }

  shift : (op : ShiftOp) → o ≡ 0x13 → (shift_code op).0 ≡ f → (shift_code op).1 ≡ h → Denotes w (Instr.Shift op d a b)
  shift op e g k = record { fields = (omega arith, omega arith, omega arith); spelled = omega arith }

  register : (op : RegisterOp) → o ≡ 0x33 → (register_code op).0 ≡ f → (register_code op).1 ≡ h → Denotes w (Instr.Register op d a b)
  register op e g k = record { fields = (omega arith, omega arith, omega arith); spelled = omega arith }

  fence : o ≡ 0x0F → f ≡ 0 → Denotes w (Instr.Fence d a imm)
  fence e g = record { fields = (omega arith, omega arith, omega arith); spelled = omega arith }

  fence_i : o ≡ 0x0F → f ≡ 1 → Denotes w (Instr.FenceI d a imm)
  fence_i e g = record { fields = (omega arith, omega arith, omega arith); spelled = omega arith }

  abbrev acquire : Bool
  acquire = eqb (h / 2 % 2) 1

  abbrev release : Bool
  release = eqb (h % 2) 1

  atomic_back : atomic (h / 4) acquire release ≡ h
  atomic_back =
      let high = bit_back (h / 2 % 2) (omega arith) in
      let low = bit_back (h % 2) (omega arith) in
      omega arith

  load_reserved : o ≡ 0x2F → f ≡ 2 → h / 4 ≡ 2 → b ≡ 0 → Denotes w (Instr.LoadReserved d a acquire release)
  load_reserved e g k z = let bits = atomic_back in record { fields = (omega arith, omega arith); spelled = omega arith }

  store_conditional : o ≡ 0x2F → f ≡ 2 → h / 4 ≡ 3 → Denotes w (Instr.StoreConditional d a b acquire release)
  store_conditional e g k = let bits = atomic_back in record { fields = (omega arith, omega arith, omega arith); spelled = omega arith }

  amo : (op : AmoOp) → o ≡ 0x2F → f ≡ 2 → amo_code op ≡ h / 4 → Denotes w (Instr.Amo op d a b acquire release)
  amo op e g k = let bits = atomic_back in record { fields = (omega arith, omega arith, omega arith); spelled = omega arith }

  branches_right : o ≡ 0x63 → IsRight w (option_map (λ op. Instr.Branch op a b (branch_offset d h)) (branch_op f))
  branches_right e =
      right_find w (λ op. eqb (branch_code op) f) (λ op. Instr.Branch op a b (branch_offset d h)) branches (λ op g. branch op e (eqb-true _ _ g))

  loads_right : o ≡ 0x03 → IsRight w (option_map (λ op. Instr.Load op d a imm) (load_op f))
  loads_right e =
      right_find w (λ op. eqb (load_code op) f) (λ op. Instr.Load op d a imm) loads (λ op g. load op e (eqb-true _ _ g))

  stores_right : o ≡ 0x23 → IsRight w (option_map (λ op. Instr.Store op a b (d + h * 2 ^ 5)) (store_op f))
  stores_right e =
      right_find w (λ op. eqb (store_code op) f) (λ op. Instr.Store op a b (d + h * 2 ^ 5)) stores (λ op g. store op e (eqb-true _ _ g))

  shifts_right : o ≡ 0x13 → IsRight w (option_map (λ op. Instr.Shift op d a b) (shift_op f h))
  shifts_right e =
      right_find w (λ op. eqb ((shift_code op).0) f && eqb ((shift_code op).1) h) (λ op. Instr.Shift op d a b) shifts
      (λ op g. let both = and_parts _ _ g in shift op e (eqb-true _ _ both.0) (eqb-true _ _ both.1))

  registers_right : o ≡ 0x33 → IsRight w (option_map (λ op. Instr.Register op d a b) (register_op f h))
  registers_right e =
      right_find w (λ op. eqb ((register_code op).0) f && eqb ((register_code op).1) h) (λ op. Instr.Register op d a b) registers
      (λ op g. let both = and_parts _ _ g in register op e (eqb-true _ _ both.0) (eqb-true _ _ both.1))

  arithmetic_right : o ≡ 0x13 → (found : Option ImmediateOp) → ((op : ImmediateOp) → found ≡ Some op → immediate_code op ≡ f) → IsRight w (arithmetic_of d f a b h found)
  arithmetic_right e None is = shifts_right e
  arithmetic_right e (Some op) is = immediate op e (is op refl)

  amos_right : o ≡ 0x2F → f ≡ 2 → IsRight w (atomic_of d a b (h / 4) acquire release)
  amos_right e g =
      right_if w (h / 4) 2 (cond (eqb b 0) (Some (Instr.LoadReserved d a acquire release)) None)
      (cond (eqb (h / 4) 3) (Some (Instr.StoreConditional d a b acquire release))
      (option_map (λ op. Instr.Amo op d a b acquire release) (amo_op (h / 4))))
      (λ k. right_if w b 0 (Some (Instr.LoadReserved d a acquire release)) None (load_reserved e g k) tt)
      (right_if w (h / 4) 3 (Some (Instr.StoreConditional d a b acquire release))
      (option_map (λ op. Instr.Amo op d a b acquire release) (amo_op (h / 4)))
      (store_conditional e g)
      (right_find w (λ op. eqb (amo_code op) (h / 4)) (λ op. Instr.Amo op d a b acquire release) amos (λ op k. amo op e g (eqb-true _ _ k))))

  fields_right : IsRight w (by_fields o d f a b h)
  fields_right =
      right_if w o 0x37 _ _ lui
      (right_if w o 0x17 _ _ auipc
      (right_if w o 0x6F _ _ jal
      (right_if w o 0x67 _ _ (λ e. right_if w f 0 _ _ (jalr e) tt)
      (right_if w o 0x63 _ _ branches_right
      (right_if w o 0x03 _ _ loads_right
      (right_if w o 0x23 _ _ stores_right
      (right_if w o 0x13 _ _ (λ e. arithmetic_right e (immediate_op f) (immediate_found f))
      (right_if w o 0x33 _ _ registers_right
      (right_if w o 0x0F _ _ (λ e. right_if w f 0 _ _ (fence e) (right_if w f 1 _ _ (fence_i e) tt))
      (right_if w o 0x2F _ _ (λ e. right_if w f 2 _ _ (amos_right e) tt) tt))))))))))

denoted_right : (w : ℕ) → w < 2 ^ 32 → IsRight w (denoted w)
denoted_right w h =
    right_if w w 0x00000073 _ _ (λ e. record { fields = tt; spelled = e })
    (right_if w w 0x00100073 _ _ (λ e. record { fields = tt; spelled = e })
    (subst (λ v. IsRight v (by_fields (w % 2 ^ 7) (w / 2 ^ 7 % 2 ^ 5) (w / 2 ^ 12 % 2 ^ 3) (w / 2 ^ 15 % 2 ^ 5) (w / 2 ^ 20 % 2 ^ 5) (w / 2 ^ 25))) (sym (word_back w))
    (fields_right _ _ _ _ _ _ (fit w h))))

meaning : (w : ℕ) (o : Option Instr) → IsRight w o → ((i : Instr) → Denotes w i → o ≡ Some i) → IsMeaning w o
meaning w None right every = λ i d. let e = every i d in cc
meaning w (Some i) right every = right

-- a word of 32 bits denotes the instruction that the tables find, and none if they find none
pub denoted_is_meaning : (w : ℕ) → w < 2 ^ 32 → IsMeaning w (denoted w)
denoted_is_meaning w h = meaning w (denoted w) (denoted_right w h) (λ i. denotes_denoted)
