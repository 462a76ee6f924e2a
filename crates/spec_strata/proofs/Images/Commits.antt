-- Strata have commits.
use Rattle.std.proofs.Common.{ℕ, List, [], ◌∷◌, arith}
use Rattle.std.specs.Prelude.{All}
use Rattle.std.proofs.lemmas.List.Elements.{All-head, All-tail}
use Rattle.spec_strata.specs.declared.stratum.Stratum.{Stratum}
use Rattle.spec_strata.specs.declared.stratum.Stratum.TheVariants.{Chunks, Serial, Dma}
use Rattle.spec_strata.specs.Strata.{HaveSome, IsStratumOf}

-- if the strata are valid, each stratum of chunks has at least one
pub have-some : (counted : ℕ) (xs : List Stratum) → All (IsStratumOf counted) xs → HaveSome xs
have-some counted [] each = tt
have-some counted (Chunks counts ∷ xs) each =
    let h = (All-head (IsStratumOf counted) (Chunks counts) xs each).2 in
    (omega (arith, h), have-some counted xs (All-tail (IsStratumOf counted) (Chunks counts) xs each))
have-some counted (Serial k ∷ xs) each = have-some counted xs (All-tail (IsStratumOf counted) (Serial k) xs each)
have-some counted (Dma ∷ xs) each = have-some counted xs (All-tail (IsStratumOf counted) Dma xs each)
