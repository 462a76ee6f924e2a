use Rattle.std.proofs.Common.{◌≡◌, ◌+◌, ◌%◌, ◌/◌, ◌<◌, ◌≤◌, ◌^◌, ℕ, List, ◌++◌, ◌∷◌, [], decimal, Result, Ok, Err, OnOk, sym, ap, ◌∙◌, arith}
use Rattle.std.proofs.lemmas.Fmt.{decimal_digit, decimal_step_wide}
use Rattle.std.proofs.lemmas.List.{append_assoc}
use Rattle.dl_account.proofs.text.Text.+put_digits.Goals as goal
use Rattle.dl_account.proofs.text.Text.+put_digits.Goals.{then-n-ge10+in_ok-put_digits, else-n-ge10}

only_digit : (old : List ℕ) (n : ℕ) → n < 10 → old ++ (48 + n % 10) ∷ [] ≡ old ++ decimal n
only_digit old n small =
    let same : n % 10 ≡ n = omega arith in
    ap (λ (d : ℕ). old ++ (48 + d) ∷ []) same ∙ ap (λ (ds : List ℕ). old ++ ds) (sym (decimal_digit n small))

last_digit : (old : List ℕ) (n : ℕ) → 10 ≤ n → n < 2 ^ 128 → old ++ decimal (n / 10) ++ (48 + n % 10) ∷ [] ≡ old ++ decimal n
last_digit old n large fits =
    append_assoc old (decimal (n / 10)) ((48 + n % 10) ∷ [])
    ∙ ap (λ (ds : List ℕ). old ++ ds) (sym (decimal_step_wide n large (omega arith)))

on_ok_both : {T E P Q S : Type 0} (r : Result T E) → (P → Q → S) → OnOk r P → OnOk r Q → OnOk r S
on_ok_both (Ok x) f p q = f p q
on_ok_both (Err y) f p q = tt

pub returns-clause-ok : goal.returns-clause-ok
returns-clause-ok t c =
    let whole : c.if-n-ge10.self ++ (48 + c.args.n % 10) ∷ [] ≡ c.args.self.now ++ decimal c.args.n =
    elim c.if-n-ge10.branch [
      | then-n-ge10+in_ok-put_digits w ↦ rw (w.self-is, w.in_ok-put_digits.ensures.ok) (last_digit _ _ w.if-n-ge10.true (omega arith))
      | else-n-ge10 w ↦ rw w.self-is (only_digit _ _ (omega arith))
    ]
    in
    rw c.cut_on_err.ensures.outcome
    (on_ok_both c.put_byte-put.result (λ written kept. kept ∙ written ∙ whole) c.put_byte-put.ensures.ok c.cut_on_err.ensures.ok)
