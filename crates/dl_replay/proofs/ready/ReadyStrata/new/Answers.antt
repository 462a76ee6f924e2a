use Rattle.std.proofs.Common.{◌≡◌, List, map, sym, ap, subst, ◌∙◌, arith}
use Rattle.std.specs.List.{flat_map}
use Rattle.spec_strata.specs.declared.stratum.Stratum.{Stratum}
use Rattle.spec_strata.specs.declared.strata.StrataParts.{StrataParts}
use Rattle.spec_strata.specs.Strata.{AreStrata, commits_in_all}
use Rattle.dl_replay.specs.Standings.{counts_of}
use Rattle.dl_replay.specs.Starts.{laid, start_of}
use Rattle.dl_replay.proofs.Standings.{all-count}
use Rattle.dl_replay.proofs.Starts.{laid-again}
use Rattle.dl_replay.proofs.ready.ReadyStrata.new.Goals as goal

pub invariant_of-result : goal.invariant_of-result
invariant_of-result c =
    let v = c.into_parts-parts.result in
    let good : AreStrata v = subst AreStrata (sym c.into_parts-parts.ensures.parts) c.into_parts-parts.ensures.good in
    let starts : c.in_ok-starts.starts.items ≡ map start_of v.strata = grind arith in
    let counts : c.in_ok-counts.counts.items ≡ flat_map (counts_of v.counted) v.strata = grind arith in
    let commits : c.commits_in-commits.result ≡ commits_in_all v.strata = grind arith in
    let same : laid v.counted c.in_ok-starts.starts.items c.in_ok-counts.counts.items ≡ v.strata =
    (λ i. laid v.counted (starts i) (counts i)) ∙ laid-again v.counted v.strata (all-count v.counted v.strata good.each) in (
      subst (λ (xs : List Stratum). AreStrata (record v { strata = xs })) (sym same) good,
      starts ∙ ap (map start_of) (sym same),
      counts ∙ ap (flat_map (counts_of v.counted)) (sym same),
      commits ∙ ap commits_in_all (sym same),
    )

pub returns : goal.returns
returns c =
    let v = c.into_parts-parts.result in
    let good : AreStrata v = subst AreStrata (sym c.into_parts-parts.ensures.parts) c.into_parts-parts.ensures.good in
    let starts : c.in_ok-starts.starts.items ≡ map start_of v.strata = grind arith in
    let counts : c.in_ok-counts.counts.items ≡ flat_map (counts_of v.counted) v.strata = grind arith in
    let same : laid v.counted c.in_ok-starts.starts.items c.in_ok-counts.counts.items ≡ v.strata =
    (λ i. laid v.counted (starts i) (counts i)) ∙ laid-again v.counted v.strata (all-count v.counted v.strata good.each) in
    ap (λ (xs : List Stratum). (let y : StrataParts = record v { strata = xs } in y)) same ∙ c.into_parts-parts.ensures.parts
