-- Strata of which nothing is done: their head is the first actor of their log.
use Rattle.std.proofs.Common.{◌≡◌, ℕ, ◌++◌, List, [], ◌∷◌, map, slice_get, nat_lt, cond, Option, Some, None, option_map, refl, sym, ap, ◌∙◌}
use Rattle.std.specs.Prelude.{All}
use Rattle.std.specs.List.{flat_map}
use Rattle.std.proofs.lemmas.List.Elements.{All-head}
use Rattle.dl_entry.specs.declared.Actor.{Actor}
use Rattle.spec_isa.specs.declared.thread.Parts.{Parts}
use Rattle.spec_play.specs.declared.used.Used.{Used}
use Rattle.spec_play.specs.Progress.{Progress, position}
use Rattle.spec_play.specs.Turns.{at_end, has_left_over, now_at, turn_of}
use Rattle.spec_sphere.specs.sphere.Commits.{now_by}
use Rattle.spec_strata.specs.declared.stratum.Stratum.{Stratum}
use Rattle.spec_strata.specs.declared.stratum.Stratum.TheVariants.{Chunks, Serial, Dma}
use Rattle.spec_strata.specs.declared.strata.StrataParts.{StrataParts}
use Rattle.spec_strata.specs.Canonical.{canonical, order_of}
use Rattle.spec_strata.specs.Standing.{head_standing, stratum_begun}
use Rattle.spec_strata.specs.Strata.{AreStrata, IsStratumOf}
use Rattle.spec_strata.proofs.Standing.Counts.{begins}

first-of : (n : ℕ) (xs : List Stratum) → All (IsStratumOf n) xs → head_standing (stratum_begun xs 0) ≡ slice_get (flat_map order_of xs) 0
first-of n [] each = refl
first-of n (Chunks counts ∷ xs) each =
    let is = All-head (IsStratumOf n) (Chunks counts) xs each in
    let b = begins 0 counts is.2 in
    ap (option_map Actor.Thread) b.least
    ∙ sym (ap (λ (ks : List ℕ). slice_get (map Actor.Thread ks ++ flat_map order_of xs) 0) b.order)
first-of n (Serial thread ∷ xs) each = refl
first-of n (Dma ∷ xs) each = refl

-- so before the first commit it is the turn of the one whose turn it is in the log
pub now-first : (v : StrataParts) (p : Progress) (u : Used) (ts : List Parts) → AreStrata v → position p ≡ 0
    → now_by (Some (stratum_begun v.strata 0)) (canonical v) p u ts ≡ now_by None (canonical v) p u ts
unfolding now_at
now-first v p u ts good e =
    let log = canonical v in
    let head = first-of v.counted v.strata good.each ∙ ap (slice_get log.order) (sym e) in
    ap (λ (o : Option Actor). cond (nat_lt (position p) log.count) (turn_of (position p) ts o) (at_end (position p) (has_left_over log u ts))) head
