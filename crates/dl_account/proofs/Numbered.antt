-- The text of numbered entries grows by one entry's, with the number after those before it.
use Rattle.std.proofs.Common.{◌≡◌, ℕ, ◌+◌, ◌<◌, List, [], ◌∷◌, ◌++◌, length, take, get_or, sym, ap, ◌∙◌, arith}
use Rattle.std.proofs.lemmas.List.{append_assoc, append-nil, length-take-le}
use Rattle.std.proofs.lemmas.Grind.{take_at_read}
use Rattle.dl_account.specs.Lines.{numbered}

-- one more entry at the end has the number after those before it
pub numbered-push : {X : Type 0} (text : ℕ → X → List ℕ) (n : ℕ) (xs : List X) (x : X) → numbered text n (xs ++ x ∷ []) ≡ numbered text n xs ++ text (n + length xs) x
numbered-push text n [] x = append-nil (text n x) ∙ ap (λ (k : ℕ). text k x) (omega arith)
numbered-push text n (y ∷ ys) x =
    ap (λ (rest : List ℕ). text n y ++ rest) (numbered-push text (n + 1) ys x)
    ∙ ap (λ (k : ℕ). text n y ++ (numbered text (n + 1) ys ++ text k x)) (omega arith)
    ∙ sym (append_assoc (text n y) (numbered text (n + 1) ys) (text (n + length (y ∷ ys)) x))

-- the text of the first i entries from number n on, and the next entry's, are the text of i + 1
pub numbered_on : {X : Type 0} (text : ℕ → X → List ℕ) (n : ℕ) (old : List ℕ) (xs : List X) (i : ℕ) (d : X) → i < length xs → old ++ numbered text n (take i xs) ++ text (n + i) (get_or xs i d) ≡ old ++ numbered text n (take (i + 1) xs)
numbered_on text n old xs i d here =
    let number : n + length (take i xs) ≡ n + i = omega (arith, length-take-le i xs) in
    append_assoc old (numbered text n (take i xs)) (text (n + i) (get_or xs i d))
    ∙ ap (λ (rest : List ℕ). old ++ rest)
    (ap (λ (k : ℕ). numbered text n (take i xs) ++ text k (get_or xs i d)) (sym number)
    ∙ sym (numbered-push text n (take i xs) (get_or xs i d))
    ∙ ap (λ (some : List _). numbered text n some) (sym (take_at_read xs i d here).1))

-- the same if they are numbered from 0
pub numbered_more : {X : Type 0} (text : ℕ → X → List ℕ) (old : List ℕ) (xs : List X) (i : ℕ) (d : X) → i < length xs → old ++ numbered text 0 (take i xs) ++ text i (get_or xs i d) ≡ old ++ numbered text 0 (take (i + 1) xs)
numbered_more text old xs i d here =
    let number : i ≡ 0 + i = omega arith in
    ap (λ (k : ℕ). old ++ numbered text 0 (take i xs) ++ text k (get_or xs i d)) number ∙ numbered_on text 0 old xs i d here

-- the text of the first i entries, and that of the entry that was read at i, are the text of i + 1
pub numbered_read : {X : Type 0} (text : ℕ → X → List ℕ) (old : List ℕ) (xs : List X) (i : ℕ) (x : X) → i < length xs → x ≡ get_or xs i x → old ++ numbered text 0 (take i xs) ++ text i x ≡ old ++ numbered text 0 (take (i + 1) xs)
numbered_read text old xs i x here read =
    ap (λ (y : _). old ++ numbered text 0 (take i xs) ++ text i y) read ∙ numbered_more text old xs i x here

-- the same if the entries are numbered from n on
pub numbered_read_on : {X : Type 0} (text : ℕ → X → List ℕ) (n : ℕ) (old : List ℕ) (xs : List X) (i : ℕ) (x : X) → i < length xs → x ≡ get_or xs i x → old ++ numbered text n (take i xs) ++ text (n + i) x ≡ old ++ numbered text n (take (i + 1) xs)
numbered_read_on text n old xs i x here read =
    ap (λ (y : _). old ++ numbered text n (take i xs) ++ text (n + i) y) read ∙ numbered_on text n old xs i x here

-- the text of entries after others has the numbers after those before it
pub numbered-append : {X : Type 0} (text : ℕ → X → List ℕ) (n : ℕ) (xs ys : List X) → numbered text n (xs ++ ys) ≡ numbered text n xs ++ numbered text (n + length xs) ys
numbered-append text n [] ys = ap (λ (k : ℕ). numbered text k ys) (omega arith)
numbered-append text n (x ∷ xs) ys =
    ap (λ (rest : List ℕ). text n x ++ rest) (numbered-append text (n + 1) xs ys)
    ∙ ap (λ (k : ℕ). text n x ++ (numbered text (n + 1) xs ++ numbered text k ys)) (omega arith)
    ∙ sym (append_assoc (text n x) (numbered text (n + 1) xs) (numbered text (n + length (x ∷ xs)) ys))
