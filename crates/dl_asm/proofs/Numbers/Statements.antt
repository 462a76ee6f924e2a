-- A statement breaks the same rule with a number that is cut beyond every range as with the number itself.
use Rattle.std.proofs.Common.{◌≡◌, ℕ, ◌≤◌, Bool, true, false, not, List, Option, Some, None, refl, sym, ap, ◌∙◌, arith}
use Rattle.std.specs.Option.{option_map}
use Rattle.std.proofs.lemmas.Bool.Decides.{nat_tests}
use Rattle.dl_asm.specs.declared.form.Form.{Form}
use Rattle.dl_asm.specs.declared.fields.Registers.{Registers}
use Rattle.dl_asm.specs.declared.number.Number.{Number}
use Rattle.dl_asm.specs.declared.labels.Labels.{Labels}
use Rattle.dl_asm.specs.declared.labels.LabelPlace.{LabelPlace}
use Rattle.dl_asm.specs.Labels.{entry_in}
use Rattle.dl_asm.specs.Checked.{IsWhere}
use Rattle.dl_asm.specs.Numbers.{capped, number_capped}
use Rattle.dl_asm.specs.Values.{holds}
use Rattle.dl_asm.specs.Lines.{Says}
use Rattle.dl_asm.specs.Sources.{is_out_of_range, is_without_label, is_too_long}
use Rattle.dl_asm.proofs.Numbers.Ranges.{holds-capped, number-capped}

-- whether the number is out of range
pub out-of-range : (form : Form) (registers : Registers) (value : List ℕ) (exact number : Option Number) (out : Bool) → number ≡ option_map number_capped exact
    → ((found : Number) → number ≡ Some found → out ≡ not (holds form found)) → (number ≡ None → out ≡ false) → is_out_of_range (Says form registers value) exact ≡ out
out-of-range form registers value None number out e known unknown = sym (unknown e)
out-of-range form registers value (Some n) number out e known unknown = sym (known (number_capped n) e ∙ ap not (holds-capped form n))

-- there is one
pub with-label : (form : Form) (registers : Registers) (value : List ℕ) (exact : Option Number) (number : Number) → Some number ≡ option_map number_capped exact
    → is_without_label (Says form registers value) exact ≡ false
with-label form registers value None number e = cc
with-label form registers value (Some n) number e = refl

not-true : (b : Bool) → not b ≡ false → b ≡ true
not-true true e = refl
not-true false e = cc

-- one in range is exact
pub exact-number : (form : Form) (registers : Registers) (value : List ℕ) (exact : Option Number) (number : Number) → Some number ≡ option_map number_capped exact
    → is_out_of_range (Says form registers value) exact ≡ false → exact ≡ Some number
exact-number form registers value None number e out = cc
exact-number form registers value (Some n) number e out = sym (e ∙ ap Some (number-capped form n (not-true (holds form n) out)))

-- if the place of a label is known cut off, so is the number that is made from it
pub number-by-place : (f : ℕ → Number) (place : Option ℕ) (there : ℕ) (number : Number) → Some there ≡ option_map capped place
    → ((exact : ℕ) → there ≡ capped exact → number ≡ number_capped (f exact)) → Some number ≡ option_map number_capped (option_map f place)
number-by-place f None there number e h = cc
number-by-place f (Some exact) there number e h = let same : there ≡ capped exact = cc in ap Some (h exact same)

-- a label that the table has is at the place that it names, cut to 2^33
pub place-words : (labels : Labels) (places : List ℕ → Option ℕ) (name : List ℕ) (place : LabelPlace) → IsWhere labels places → Some place ≡ entry_in labels name
    → Some place.words ≡ option_map capped (places name)
place-words labels places name place is e = ap (option_map (λ p. p.words)) e ∙ is.each name

-- if a cut-off number is missing, so is the number
pub none-capped : (o : Option Number) → None ≡ option_map number_capped o → o ≡ None
none-capped None e = refl
none-capped (Some n) e = cc

-- up to 4,194,304 words a program isn't too long
pub short : (words : ℕ) → words ≤ 4194304 → is_too_long words ≡ false
short words l = grind (arith, nat_tests)
