-- What is left after some bytes were given.
use Rattle.std.proofs.Common.{◌≡◌, ℕ, ◌+◌, List, ◌++◌, take, drop, sym, ap, ◌∙◌}
use Rattle.std.proofs.lemmas.List.{take-append-drop, drop-drop}

pub given : (at n : ℕ) (bytes front : List ℕ) → front ≡ take n (drop at bytes) → drop at bytes ≡ front ++ drop (at + n) bytes
given at n bytes front e =
    sym (take-append-drop n (drop at bytes))
    ∙ ap (λ l. l ++ drop n (drop at bytes)) (sym e)
    ∙ ap (λ l. front ++ l) (drop-drop n at bytes)
