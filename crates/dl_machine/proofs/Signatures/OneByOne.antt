-- Marking the lines of words one after another marks those of all.
use Rattle.std.proofs.Common.{◌≡◌, ℕ, suc, ◌+◌, List, drop, Some, ap, ◌∙◌, arith}
use Rattle.std.specs.Prelude.{slice_get}
use Rattle.std.proofs.Math.Seq.{drop-cons}
use Rattle.std.proofs.lemmas.Option.{slice_get_within, get_or_from_slice_get}
use Rattle.spec_isa.specs.Words.{Stored}
use Rattle.spec_engine.specs.Signatures.{Signature, insert, line, signed}

-- signing words begins with the first one's line
pub sign_next : (i : ℕ) (ws : List Stored) (k : ℕ) (s : Stored) (g : Signature) → slice_get ws k ≡ Some s → signed i (drop k ws) g ≡ signed i (drop (k + 1) ws) (insert (line i s.number) g)
sign_next i ws k s g is =
    let next : suc k ≡ k + 1 = omega arith in
    ap (λ (xs : List Stored). signed i xs g) (drop-cons ws k s (slice_get_within ws k s is))
    ∙ ap (λ (r : Stored). signed i (drop (suc k) ws) (insert (line i r.number) g)) (get_or_from_slice_get ws k s s is)
    ∙ ap (λ (j : ℕ). signed i (drop j ws) (insert (line i s.number) g)) next
