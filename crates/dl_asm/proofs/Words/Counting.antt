-- A line gives as many words as it counts, and they are at its place.
use Rattle.std.proofs.Common.{◌≡◌, ℕ, ◌+◌, ◌<◌, ◌≤◌, Bool, true, false, not, ◌&&◌, cond, List, [], ◌∷◌, ◌++◌, length, get_or, Option, Some, None, IfSome, is_some, refl, sym, ap, ◌∙◌, ◌⊎◌, arith, suc, zero, inl, inr, eqb}
use Rattle.std.specs.List.{list_all}
use Rattle.std.specs.Option.{option_or, option_map}
use Rattle.std.proofs.Math.Nat.{eq-or-lt_of_le}
use Rattle.std.proofs.lemmas.Bool.Decides.{nat_tests}
use Rattle.std.proofs.Math.Seq.{get_or-append_seam}
use Rattle.std.proofs.lemmas.List.{get_or_append_left, length-append, length-replicate}
use Rattle.dl_asm.specs.declared.form.Form.{Form}
use Rattle.dl_asm.specs.declared.fields.Registers.{Registers}
use Rattle.dl_asm.specs.declared.number.Number.{Number}
use Rattle.dl_asm.specs.Characters.{is_printable}
use Rattle.dl_asm.specs.Texts.{is_mnemonic}
use Rattle.dl_asm.specs.Numbers.{number_in}
use Rattle.dl_asm.specs.Mnemonics.{form_named}
use Rattle.dl_asm.specs.Operands.{are_operands}
use Rattle.dl_asm.specs.Values.{holds, within, instr_of, words_of, address_number}
use Rattle.dl_asm.specs.Fields.{Fields, fields, fields_of}
use Rattle.dl_asm.specs.Lines.{Said, Nothing, Misspelled, Unknown, Unfit, Says, said, said_in, said_of, said_by, statement_of, mnemonic_of, operands_of, count_said, count_by_form, zeros_capped}
use Rattle.dl_asm.specs.Sources.{number_of, number_by_label, broken, broken_by, statement_said, statement_by, words_by, words_up_to, words_at, place_of}

-- ---- the value of `.zero` is a number

abbrev pub IsNumber : Form → (value : List ℕ) → Type 0
IsNumber Form.Zero value = is_some (number_in value) ≡ true
IsNumber _ value = Unit {0}

abbrev pub HasNumber : Said → Type 0
HasNumber (Says form registers value) = IsNumber form value
HasNumber _ = Unit {0}

zero-fields : (text : List ℕ) (b : Bool) → is_some (number_in text) ≡ b → HasNumber (said_by Form.Zero (cond b (Some (fields 0 0 0 text)) None))
zero-fields text true e = e
zero-fields text false e = tt

other-fields : (form : Form) → ((value : List ℕ) → IsNumber form value) → (found : Option Fields) → HasNumber (said_by form found)
other-fields form h None = tt
other-fields form h (Some found) = h (found.1)

fields-number : (form : Form) (text : List ℕ) → HasNumber (said_by form (fields_of form text))
unfolding fields_of
fields-number Form.Zero text = zero-fields text (is_some (number_in text)) refl
fields-number (Form.Register op) text = other-fields (Form.Register op) (λ value. tt) (fields_of (Form.Register op) text)
fields-number (Form.Immediate op) text = other-fields (Form.Immediate op) (λ value. tt) (fields_of (Form.Immediate op) text)
fields-number (Form.Shift op) text = other-fields (Form.Shift op) (λ value. tt) (fields_of (Form.Shift op) text)
fields-number (Form.Load op) text = other-fields (Form.Load op) (λ value. tt) (fields_of (Form.Load op) text)
fields-number (Form.Store op) text = other-fields (Form.Store op) (λ value. tt) (fields_of (Form.Store op) text)
fields-number (Form.Branch op) text = other-fields (Form.Branch op) (λ value. tt) (fields_of (Form.Branch op) text)
fields-number Form.Lui text = other-fields Form.Lui (λ value. tt) (fields_of Form.Lui text)
fields-number Form.Auipc text = other-fields Form.Auipc (λ value. tt) (fields_of Form.Auipc text)
fields-number Form.Jal text = other-fields Form.Jal (λ value. tt) (fields_of Form.Jal text)
fields-number Form.Jalr text = other-fields Form.Jalr (λ value. tt) (fields_of Form.Jalr text)
fields-number Form.Fence text = other-fields Form.Fence (λ value. tt) (fields_of Form.Fence text)
fields-number Form.FenceI text = other-fields Form.FenceI (λ value. tt) (fields_of Form.FenceI text)
fields-number Form.Ecall text = other-fields Form.Ecall (λ value. tt) (fields_of Form.Ecall text)
fields-number Form.Ebreak text = other-fields Form.Ebreak (λ value. tt) (fields_of Form.Ebreak text)
fields-number (Form.LoadReserved order) text = other-fields (Form.LoadReserved order) (λ value. tt) (fields_of (Form.LoadReserved order) text)
fields-number (Form.StoreConditional order) text = other-fields (Form.StoreConditional order) (λ value. tt) (fields_of (Form.StoreConditional order) text)
fields-number (Form.Amo op order) text = other-fields (Form.Amo op order) (λ value. tt) (fields_of (Form.Amo op order) text)
fields-number Form.Word text = other-fields Form.Word (λ value. tt) (fields_of Form.Word text)

named-number : (form : Option Form) (text : List ℕ) → HasNumber (said_of form text)
named-number None text = tt
named-number (Some form) text = fields-number form text

cond-number : (b : Bool) (x y : Said) → HasNumber x → HasNumber y → HasNumber (cond b x y)
cond-number true x y h k = h
cond-number false x y h k = k

-- what a line says has a number of its form
pub has-number : (line : List ℕ) → HasNumber (said line)
unfolding said
has-number line =
    let statement = statement_of line in
    let named = said_of (form_named (mnemonic_of statement)) (operands_of statement) in
    let spelled = cond (not (is_mnemonic (mnemonic_of statement) && are_operands (operands_of statement))) Misspelled named in
    let h = cond-number (not (is_mnemonic (mnemonic_of statement) && are_operands (operands_of statement))) Misspelled named tt (named-number (form_named (mnemonic_of statement)) (operands_of statement)) in
    cond-number (list_all is_printable line) (said_in statement) Misspelled (cond-number (eqb (length statement) 0) Nothing spelled tt h) tt

-- ---- a line takes as many words as it counts

not-empty : (value : List ℕ) → is_some (number_in value) ≡ true → eqb (length value) 0 ≡ false
not-empty [] e = cc
not-empty (c ∷ cs) e = let l : 0 < length (c ∷ cs) = omega arith in grind (arith, nat_tests)

found-number : (o label : Option Number) (n : Number) → is_some o ≡ true → option_or o label ≡ Some n → o ≡ Some n
found-number None label n e f = cc
found-number (Some m) label n e f = f

zeros-are : (value : List ℕ) (here : ℕ) (label : Option ℕ) (n : Number) → is_some (number_in value) ≡ true → number_of Form.Zero here label value ≡ Some n
    → within 0 4194304 n ≡ true → zeros_capped (number_in value) ≡ n.magnitude
zeros-are value here label n some e w =
    let other = option_map (number_by_label Form.Zero here) label in
    let rest = sym (ap (λ b. cond b (Some (address_number 0)) (option_or (number_in value) other)) (not-empty value some)) ∙ e in
    ap zeros_capped (found-number (number_in value) other n some rest) ∙ ap (λ b. cond b n.magnitude 0) w

length-words : (form : Form) (r : Registers) (n : Number) (value : List ℕ) (here : ℕ) (label : Option ℕ) → IsNumber form value
    → number_of form here label value ≡ Some n → holds form n ≡ true → length (words_of form r n) ≡ count_by_form form (zeros_capped (number_in value))
unfolding instr_of holds
length-words Form.Zero r n value here label some e h = length-replicate n.magnitude 0 ∙ sym (zeros-are value here label n some e h)
length-words (Form.Register op) r n value here label some e h = refl
length-words (Form.Immediate op) r n value here label some e h = refl
length-words (Form.Shift op) r n value here label some e h = refl
length-words (Form.Load op) r n value here label some e h = refl
length-words (Form.Store op) r n value here label some e h = refl
length-words (Form.Branch op) r n value here label some e h = refl
length-words Form.Lui r n value here label some e h = refl
length-words Form.Auipc r n value here label some e h = refl
length-words Form.Jal r n value here label some e h = refl
length-words Form.Jalr r n value here label some e h = refl
length-words Form.Fence r n value here label some e h = refl
length-words Form.FenceI r n value here label some e h = refl
length-words Form.Ecall r n value here label some e h = refl
length-words Form.Ebreak r n value here label some e h = refl
length-words (Form.LoadReserved order) r n value here label some e h = refl
length-words (Form.StoreConditional order) r n value here label some e h = refl
length-words (Form.Amo op order) r n value here label some e h = refl
length-words Form.Word r n value here label some e h = refl

length-says : (form : Form) (r : Registers) (value : List ℕ) (here words : ℕ) (label : Option ℕ) (twice : Bool) (number : Option Number) → IsNumber form value
    → number_of form here label value ≡ number → broken_by (Says form r value) number twice words ≡ None
    → IfSome (statement_by (Says form r value) number) (λ s. holds s.form s.number ≡ true)
    → length (words_by (statement_by (Says form r value) number)) ≡ count_by_form form (zeros_capped (number_in value))
length-says form r value here words label true None some e b h = cc
length-says form r value here words label false None some e b h = cc
length-says form r value here words label twice (Some n) some e b h = length-words form r n value here label some e h

-- a line in which nothing is broken gives as many words as it counts
pub length-said : (here : ℕ) (places : List ℕ → Option ℕ) (twice : Bool) (line : Said) → HasNumber line → broken here places twice line ≡ None
    → IfSome (statement_said here places line) (λ s. holds s.form s.number ≡ true) → length (words_by (statement_said here places line)) ≡ count_said line
unfolding broken statement_said
length-said here places twice Nothing some b h = refl
length-said here places twice Misspelled some b h = refl
length-said here places twice Unknown some b h = refl
length-said here places twice (Unfit form) some b h = cc
length-said here places twice (Says form r value) some b h =
    length-says form r value here (here + count_by_form form (zeros_capped (number_in value))) (places value) twice (number_of form here (places value) value) some refl b h

-- ---- a line of one word

-- the lines before each take as many words as they count
abbrev pub ArePlaced : List (List ℕ) → ℕ → Type 0
ArePlaced lines i = (k : ℕ) → k ≤ i → length (words_up_to lines k) ≡ place_of lines k

-- the word of a line is at its place, among the words of the lines before another
abbrev pub IsThere : List (List ℕ) → (k j w : ℕ) → Type 0
IsThere lines k j w = (place_of lines k < length (words_up_to lines j)) × (get_or (words_up_to lines j) (place_of lines k) 0 ≡ w)

word-next : (lines : List (List ℕ)) (k j w : ℕ) → (k < j → IsThere lines k j w) → ArePlaced lines (suc j) → words_at lines k ≡ w ∷ [] → (k ≡ j) ⊎ (k < j) → IsThere lines k (suc j) w
word-next lines k j w before placed e (inl same) =
    let front = words_up_to lines j in
    let one : words_at lines j ≡ w ∷ [] = ap (words_at lines) (sym same) ∙ e in
    let here : place_of lines k ≡ length front = ap (place_of lines) same ∙ sym (placed j (omega arith)) in
    let longer : length (front ++ words_at lines j) ≡ length front + 1 = length-append front (words_at lines j) ∙ ap (λ ws. length front + length ws) one in (
      omega (arith, here, longer),
      ap (λ i. get_or (front ++ words_at lines j) i 0) here ∙ ap (λ ws. get_or (front ++ ws) (length front) 0) one ∙ get_or-append_seam front w [] 0,
    )
word-next lines k j w before placed e (inr l) =
    let front = words_up_to lines j in
    let there = before l in (
      omega (arith, there.0, length-append front (words_at lines j)),
      get_or_append_left front (words_at lines j) 0 (place_of lines k) there.0 ∙ there.1,
    )

-- the word of a line is at its place among those of all lines before j
pub word-there : (lines : List (List ℕ)) (k j w : ℕ) → k < j → ArePlaced lines j → words_at lines k ≡ w ∷ [] → IsThere lines k j w
word-there lines k zero w l placed e = absurd (omega arith)
word-there lines k (suc j) w l placed e =
    word-next lines k j w (λ m. word-there lines k j w m (λ i n. placed i (omega arith)) e) placed e (eq-or-lt_of_le {n = k} {m = j} (omega arith))
