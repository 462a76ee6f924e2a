-- A text that is taken in parts is taken as one.
use Rattle.std.proofs.Common.{◌≡◌, ℕ, ◌+◌, List, ◌++◌, take, drop, Option, Some, None, refl, sym, ◌∙◌, ap, append_assoc}
use Rattle.std.proofs.Math.Seq.{take-add}
use Rattle.dl_files.specs.Taken.{with_taken}

-- a sink that has taken a text's first bytes, and takes n more, has taken so many together
pub with_taken_more : (n done : ℕ) (text : List ℕ) (known : Option (List ℕ)) → with_taken n (drop done text) (with_taken done text known) ≡ with_taken (done + n) text known
with_taken_more n done text None = refl
with_taken_more n done text (Some t) =
    ap Some (append_assoc t (take done text) (take n (drop done text)) ∙ ap (λ (x : List ℕ). t ++ x) (sym (take-add done n text)))
