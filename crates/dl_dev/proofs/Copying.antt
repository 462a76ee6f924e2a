-- A buffer into which two slices are copied in a row holds their first items in front.
use Rattle.std.proofs.Common.{◌≡◌, ℕ, ◌+◌, ◌-◌, ◌<◌, ◌⊎◌, inl, inr, List, ◌++◌, length, take, drop, min, ap, ap₂, sym, ◌∙◌, arith, append_assoc, append-nil, length-take}
use Rattle.std.proofs.Math.Nat.{eq-or-lt_of_le}
use Rattle.std.proofs.Math.Seq.{take-append_seam, drop-append_seam, take-append-add}
use Rattle.std.proofs.lemmas.List.{take-append-le, take_all, drop-drop}

firsts-by : (f b : List ℕ) (k m : ℕ) → (k ≡ length f) ⊎ (k < length f) → (k < length f → m ≡ 0) → take (k + m) (f ++ b) ≡ take k f ++ take m b
firsts-by f b k m (inl e) none =
    ap (λ n. take (n + m) (f ++ b)) e ∙ take-append-add f b m ∙ ap (λ x. x ++ take m b) (sym (take_all k f (omega arith)))
firsts-by f b k m (inr l) none =
    ap (λ n. take n (f ++ b)) (omega (arith, none l)) ∙ take-append-le k f b (omega arith) ∙ sym (append-nil (take k f))
    ∙ ap (λ n. take k f ++ take n b) (sym (none l))

-- a buffer into which two slices were copied in a row holds the first items of both, and then its own
pub copied : (f b into x y : List ℕ) (k m : ℕ) → x ≡ take k f → y ≡ take m b → k ≡ min (length f) (length into) → m ≡ min (length b) (length into - k)
    → take k (x ++ drop k into) ++ (y ++ drop (k + m - k) (drop k (x ++ drop k into))) ≡ take (k + m) (f ++ b) ++ drop (k + m) into
copied f b into x y k m front back first second =
    let len : length x ≡ k = ap length front ∙ length-take k f ∙ omega arith in
    let head : take k (x ++ drop k into) ≡ x = ap (λ n. take n (x ++ drop k into)) (sym len) ∙ take-append_seam x (drop k into) in
    let tail : drop k (x ++ drop k into) ≡ drop k into = ap (λ n. drop n (x ++ drop k into)) (sym len) ∙ drop-append_seam x (drop k into) in
    let rest : drop (k + m - k) (drop k (x ++ drop k into)) ≡ drop (k + m) into = ap₂ drop (omega arith) tail ∙ drop-drop m k into in
    let firsts = firsts-by f b k m (eq-or-lt_of_le (omega arith)) (λ l. omega arith) in
    ap₂ (λ s t. s ++ (y ++ t)) (head ∙ front) rest ∙ ap (λ s. take k f ++ (s ++ drop (k + m) into)) back
    ∙ sym (append_assoc (take k f) (take m b) (drop (k + m) into)) ∙ ap (λ s. s ++ drop (k + m) into) (sym firsts)
