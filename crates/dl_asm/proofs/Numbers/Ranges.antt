-- A number that is cut beyond every range keeps its place in each of them.
use Rattle.std.proofs.Common.{◌≡◌, ℕ, ◌^◌, ◌<◌, ◌%◌, ◌-◌, ◌&&◌, eqb, Bool, true, false, cond, leb, Option, Some, None, refl, sym, ap, ◌∙◌, arith, lit<}
use Rattle.std.specs.Option.{option_map}
use Rattle.std.proofs.lemmas.Bool.Decides.{nat_tests}
use Rattle.dl_asm.specs.declared.form.Form.{Form}
use Rattle.dl_asm.specs.declared.number.Number.{Number}
use Rattle.dl_asm.specs.Numbers.{capped, number_capped}
use Rattle.dl_asm.specs.Values.{within, even, holds}
use Rattle.dl_asm.specs.Lines.{zeros_capped}

-- a bound that is below the cut
leb-capped : (m k : ℕ) → k < 2 ^ 33 → leb (capped m) k ≡ leb m k
leb-capped m k l = grind (arith, nat_tests)

leb-same : (m k : ℕ) → k < 2 ^ 33 → leb m k ≡ true → capped m ≡ m
leb-same m k l e = grind (arith, nat_tests)

-- a cut number is in a range whose bounds are below the cut exactly if the number is
pub within-capped : (below above : ℕ) (n : Number) → below < 2 ^ 33 → above < 2 ^ 33 → within below above (number_capped n) ≡ within below above n
within-capped below above n l m = elim n.negative as (λ b. leb (capped n.magnitude) (cond b below above) ≡ leb n.magnitude (cond b below above)) [
  | true ↦ leb-capped n.magnitude below l
  | false ↦ leb-capped n.magnitude above m
]

-- and in a range it is itself
pub capped-within : (below above : ℕ) (n : Number) → below < 2 ^ 33 → above < 2 ^ 33 → within below above n ≡ true → capped n.magnitude ≡ n.magnitude
capped-within below above n l m w =
    let P : Bool → Type 0 = λ b. leb n.magnitude (cond b below above) ≡ true → capped n.magnitude ≡ n.magnitude in
    let under : P true = leb-same n.magnitude below l in
    let over : P false = leb-same n.magnitude above m in
    elim n.negative as (λ b. leb n.magnitude (cond b below above) ≡ true → capped n.magnitude ≡ n.magnitude) [ true ↦ under | false ↦ over ] w

zeros-capped-by : (n : Number) (b : Bool) → within 0 4194304 n ≡ b → zeros_capped (Some (number_capped n)) ≡ zeros_capped (Some n)
zeros-capped-by n true e =
    ap (λ b. cond b (capped n.magnitude) 0) (within-capped 0 4194304 n (lit< tt) (lit< tt) ∙ e) ∙ capped-within 0 4194304 n (lit< tt) (lit< tt) e
    ∙ sym (ap (λ b. cond b n.magnitude 0) e)
zeros-capped-by n false e =
    ap (λ b. cond b (capped n.magnitude) 0) (within-capped 0 4194304 n (lit< tt) (lit< tt) ∙ e) ∙ sym (ap (λ b. cond b n.magnitude 0) e)

-- a cut number gives as many words of zeros as the number
pub zeros-capped : (n : Option Number) → zeros_capped (option_map number_capped n) ≡ zeros_capped n
zeros-capped None = refl
zeros-capped (Some n) = zeros-capped-by n (within 0 4194304 n) refl

-- ---- the ranges of forms

even-capped : (m n : Number) (b : Bool) → (b ≡ true → m.magnitude ≡ n.magnitude) → (b && even m) ≡ (b && even n)
even-capped m n true same = ap (λ k. eqb (k % 2) 0) (same refl)
even-capped m n false same = refl

range-capped : (below above : ℕ) (n : Number) → below < 2 ^ 33 → above < 2 ^ 33
    → (within below above (number_capped n) && even (number_capped n)) ≡ (within below above n && even n)
range-capped below above n l m =
    ap (λ b. b && even (number_capped n)) (within-capped below above n l m) ∙ even-capped (number_capped n) n (within below above n) (capped-within below above n l m)

first-true : (a b : Bool) → (a && b) ≡ true → a ≡ true
first-true true b e = refl
first-true false b e = e

-- a cut-off number fits a form exactly if the number does
pub holds-capped : (form : Form) (n : Number) → holds form (number_capped n) ≡ holds form n
unfolding holds
holds-capped (Form.Register op) n = within-capped 0 0 n (lit< tt) (lit< tt)
holds-capped (Form.Immediate op) n = within-capped 2048 2047 n (lit< tt) (lit< tt)
holds-capped (Form.Shift op) n = within-capped 0 31 n (lit< tt) (lit< tt)
holds-capped (Form.Load op) n = within-capped 2048 2047 n (lit< tt) (lit< tt)
holds-capped (Form.Store op) n = within-capped 2048 2047 n (lit< tt) (lit< tt)
holds-capped (Form.Branch op) n = range-capped 4096 4094 n (lit< tt) (lit< tt)
holds-capped Form.Lui n = within-capped 0 1048575 n (lit< tt) (lit< tt)
holds-capped Form.Auipc n = within-capped 0 1048575 n (lit< tt) (lit< tt)
holds-capped Form.Jal n = range-capped 1048576 1048574 n (lit< tt) (lit< tt)
holds-capped Form.Jalr n = within-capped 2048 2047 n (lit< tt) (lit< tt)
holds-capped Form.Fence n = within-capped 0 0 n (lit< tt) (lit< tt)
holds-capped Form.FenceI n = within-capped 0 0 n (lit< tt) (lit< tt)
holds-capped Form.Ecall n = within-capped 0 0 n (lit< tt) (lit< tt)
holds-capped Form.Ebreak n = within-capped 0 0 n (lit< tt) (lit< tt)
holds-capped (Form.LoadReserved order) n = within-capped 0 0 n (lit< tt) (lit< tt)
holds-capped (Form.StoreConditional order) n = within-capped 0 0 n (lit< tt) (lit< tt)
holds-capped (Form.Amo op order) n = within-capped 0 0 n (lit< tt) (lit< tt)
holds-capped Form.Word n = within-capped (2 ^ 31) (2 ^ 32 - 1) n (lit< tt) (lit< tt)
holds-capped Form.Zero n = within-capped 0 4194304 n (lit< tt) (lit< tt)

magnitude-capped : (form : Form) (n : Number) → holds form n ≡ true → capped n.magnitude ≡ n.magnitude
unfolding holds
magnitude-capped (Form.Register op) n h = capped-within 0 0 n (lit< tt) (lit< tt) h
magnitude-capped (Form.Immediate op) n h = capped-within 2048 2047 n (lit< tt) (lit< tt) h
magnitude-capped (Form.Shift op) n h = capped-within 0 31 n (lit< tt) (lit< tt) h
magnitude-capped (Form.Load op) n h = capped-within 2048 2047 n (lit< tt) (lit< tt) h
magnitude-capped (Form.Store op) n h = capped-within 2048 2047 n (lit< tt) (lit< tt) h
magnitude-capped (Form.Branch op) n h = capped-within 4096 4094 n (lit< tt) (lit< tt) (first-true _ _ h)
magnitude-capped Form.Lui n h = capped-within 0 1048575 n (lit< tt) (lit< tt) h
magnitude-capped Form.Auipc n h = capped-within 0 1048575 n (lit< tt) (lit< tt) h
magnitude-capped Form.Jal n h = capped-within 1048576 1048574 n (lit< tt) (lit< tt) (first-true _ _ h)
magnitude-capped Form.Jalr n h = capped-within 2048 2047 n (lit< tt) (lit< tt) h
magnitude-capped Form.Fence n h = capped-within 0 0 n (lit< tt) (lit< tt) h
magnitude-capped Form.FenceI n h = capped-within 0 0 n (lit< tt) (lit< tt) h
magnitude-capped Form.Ecall n h = capped-within 0 0 n (lit< tt) (lit< tt) h
magnitude-capped Form.Ebreak n h = capped-within 0 0 n (lit< tt) (lit< tt) h
magnitude-capped (Form.LoadReserved order) n h = capped-within 0 0 n (lit< tt) (lit< tt) h
magnitude-capped (Form.StoreConditional order) n h = capped-within 0 0 n (lit< tt) (lit< tt) h
magnitude-capped (Form.Amo op order) n h = capped-within 0 0 n (lit< tt) (lit< tt) h
magnitude-capped Form.Word n h = capped-within (2 ^ 31) (2 ^ 32 - 1) n (lit< tt) (lit< tt) h
magnitude-capped Form.Zero n h = capped-within 0 4194304 n (lit< tt) (lit< tt) h

-- a number that a form holds is not cut
pub number-capped : (form : Form) (n : Number) → holds form n ≡ true → number_capped n ≡ n
number-capped form n h = ap (λ m. record n { magnitude = m }) (magnitude-capped form n h)
