-- The strata that a log is cut into have commits, of threads that are counted, and no more of one thread than a byte counts.
use Rattle.std.proofs.Common.{◌≡◌, ℕ, zero, suc, ◌+◌, ◌<◌, ◌≤◌, inl, inr, List, [], ◌∷◌, length, map, refl, ap, ◌∙◌, arith}
use Rattle.std.specs.Prelude.{All}
use Rattle.std.specs.List.{sum, range_with_len}
use Rattle.std.proofs.lemmas.Bool.{cases_eq}
use Rattle.std.proofs.lemmas.List.{length-map}
use Rattle.std.proofs.lemmas.List.Elements.{All-nil, All-cons, All-head, All-tail}
use Rattle.std.proofs.lemmas.List.Sums.{sum_by-cons}
use Rattle.spec_log.specs.declared.LogParts.{LogParts}
use Rattle.spec_play.specs.Turns.{Turn, TurnOfDma, Ended}
use Rattle.spec_play.specs.Plays.{Played, play_turn}
use Rattle.spec_strata.specs.declared.stratum.Stratum.{Stratum}
use Rattle.spec_strata.specs.declared.stratum.Stratum.TheVariants.{Serial, Dma}
use Rattle.spec_strata.specs.declared.stratum.Stratum.TheVariants.{Chunks as StratumChunks}
use Rattle.spec_strata.specs.Strata.{commits_in, commits_in_all, IsStratumOf}
use Rattle.spec_strata.specs.Shares.{counts_of, bump}
use Rattle.spec_strata.specs.InPlay.{plays_of}
use Rattle.spec_strata.specs.Blocks.{Block, Chunks, Alone}
use Rattle.spec_strata.specs.Making.{most_chunks}
use Rattle.spec_strata.proofs.Shares.Steps.{bump_same, bumps_more}
use Rattle.spec_strata.proofs.Making.Cutting.{AllBelow, GoesBy, CutRight, stratum_for}

length-range : (from n : ℕ) → length (range_with_len from n) ≡ n
length-range from zero = refl
length-range from (suc n) = ap suc (length-range (from + 1) n)

-- a number in a row of numbers is no more than their sum
in-sum : (f : ℕ → ℕ) (from n k : ℕ) → from ≤ k → k < from + n → f k ≤ sum (map f (range_with_len from n))
in-sum f from zero k low high = absurd (omega (arith, low, high))
in-sum f from (suc n) k low high =
    let c = sum_by-cons (λ (x : ℕ). x) (f from) (map f (range_with_len (from + 1) n)) in
    elim (cases_eq from k) [
      | inl e ↦ (let h = ap f e in omega (arith, c, h))
      | inr ne ↦ (let rest = in-sum f (from + 1) n k (omega (arith, low, ne)) (omega (arith, high)) in omega (arith, c, rest))
    ]

-- chunks are not none
some-chunks : (counted : ℕ) (ks : List ℕ) → AllBelow counted ks → 0 < length ks → 1 ≤ sum (map (counts_of ks) (range_with_len 0 counted))
some-chunks counted [] below some = absurd (omega (arith, some))
some-chunks counted (k ∷ ks) below some =
    let l = below.0 in
    let a = in-sum (counts_of (k ∷ ks)) 0 counted k (omega arith) (omega (arith, l)) in
    let b = bumps_more (bump (λ (i : ℕ). 0) k) ks k in
    let c = bump_same (λ (i : ℕ). 0) k in
    omega (arith, a, b, c)

small : (ks : List ℕ) → ((k : ℕ) → counts_of ks k ≤ most_chunks) → (ns : List ℕ) → All (λ count. count < 256) (map (counts_of ks) ns)
small ks few [] = All-nil (λ count. count < 256)
small ks few (n ∷ ns) = All-cons (λ count. count < 256) (counts_of ks n) (map (counts_of ks) ns) (let h = few n in omega (arith, h)) (small ks few ns)

chunks-are : (counted : ℕ) (log : LogParts) (y : Played) (ks js : List ℕ) → CutRight counted log y ks js → IsStratumOf counted (stratum_for counted (Chunks ks js))
chunks-are counted log y ks js c = (
  length-map (range_with_len 0 counted) (counts_of ks) ∙ length-range 0 counted,
  small ks c.few (range_with_len 0 counted),
  some-chunks counted ks c.below c.some,
)

-- the strata of blocks that a play goes through
pub strata-are : (counted : ℕ) (log : LogParts) (y : Played) (bs : List Block) → GoesBy counted log y bs → All (IsStratumOf counted) (map (stratum_for counted) bs)
strata-are counted log y [] go = All-nil (IsStratumOf counted)
strata-are counted log y (Chunks ks js ∷ bs) go =
    All-cons (IsStratumOf counted) (stratum_for counted (Chunks ks js)) (map (stratum_for counted) bs) (chunks-are counted log y ks js go.0)
    (strata-are counted log (plays_of log y ks) bs go.1)
strata-are counted log y (Alone (Turn k) ∷ bs) go =
    All-cons (IsStratumOf counted) (Serial k) (map (stratum_for counted) bs) go.0.below (strata-are counted log (play_turn log y (Turn k)) bs go.1)
strata-are counted log y (Alone TurnOfDma ∷ bs) go =
    All-cons (IsStratumOf counted) Dma (map (stratum_for counted) bs) tt (strata-are counted log (play_turn log y TurnOfDma) bs go.1)
strata-are counted log y (Alone (Ended how) ∷ bs) go = absurd go.0.is

-- each has a commit
pub few-strata : (counted : ℕ) (xs : List Stratum) → All (IsStratumOf counted) xs → length xs ≤ commits_in_all xs
few-strata counted [] each = omega arith
few-strata counted (x ∷ xs) each =
    let a = one counted x (All-head (IsStratumOf counted) x xs each) in
    let b = few-strata counted xs (All-tail (IsStratumOf counted) x xs each) in
    let c = sum_by-cons commits_in x xs in omega (arith, a, b, c)
  where
    one : (counted : ℕ) (x : Stratum) → IsStratumOf counted x → 1 ≤ commits_in x
    one counted (StratumChunks counts) is = is.2
    one counted (Serial thread) is = omega arith
    one counted Dma is = omega arith
