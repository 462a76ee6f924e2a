use Rattle.std.proofs.Common.{rules, ◌≡◌, ℕ, List, replicate, inl, refl, arith, sym, ap, subst, ◌∙◌}
use Rattle.std.specs.Prelude.{length, slice_get}
use Rattle.std.specs.List.{sum}
use Rattle.spec_strata.specs.declared.stratum.Stratum.{Stratum}
use Rattle.spec_strata.specs.Standing.{Standing, head_in, nothing_done}
use Rattle.spec_strata.specs.Strata.{AreStrata}
use Rattle.dl_replay.specs.Standings.{Stood, done_in, stood}
use Rattle.dl_replay.specs.Starts.{start_if}
use Rattle.dl_replay.specs.declared.ready.Start.{Start}
use Rattle.dl_replay.proofs.Standings.{all-count, begins, count-of-start, head-of-start, none-done, none-of, nothing_beyond}
use Rattle.dl_replay.proofs.standing.Standing.new.Goals as goal

pub returns : goal.returns
returns c =
    let v = c.args.strata.now.value in
    let strata : c.in_ok-strata.strata.value.strata ≡ v.strata = grind arith in
    let same : c.deref-2.result.now ≡ v = grind arith in
    let good = subst AreStrata same c.parts.ensures.good in
    let none : c.in_ok-done.done.items ≡ replicate v.counted 0 = grind arith in
    ap (λ (xs : List Stratum). stood xs 0 c.in_ok-done.done.items 0) strata
    ∙ ap (λ (ds : List ℕ). stood v.strata 0 ds 0) none
    ∙ ap (λ (ds : List ℕ). (let x : Standing = record { strata = v.strata; done = ds; before = 0 } in let y : Stood = record { all = v.strata; standing = x } in y)) (begins v.counted v.strata (all-count v.counted v.strata good.each))

pub invariant_of-result : goal.invariant_of-result
invariant_of-result c =
    let v = c.args.strata.now.value in
    let strata = c.in_ok-strata.strata.value.strata in
    let here : strata ≡ v.strata = grind arith in
    let same : c.deref-2.result.now ≡ v = grind arith in
    let good = subst AreStrata same c.parts.ensures.good in
    let zeros = c.in_ok-done.done.items in
    let none : zeros ≡ replicate v.counted 0 = grind arith in
    let zeros-done : done_in strata zeros ≡ nothing_done strata =
    (λ i. done_in (here i) (none i)) ∙ begins v.counted v.strata (all-count v.counted v.strata good.each) ∙ ap nothing_done (sym here) in
    let nothing : sum (done_in strata zeros) ≡ 0 =
    (λ i. sum (done_in (here i) (none i))) ∙ ap sum (begins v.counted v.strata (all-count v.counted v.strata good.each)) ∙ none-done v.strata in
    let long : length zeros ≡ c.in_ok-strata.strata.value.counted = grind arith in
    let start : c.start_at-present.result ≡ start_if (slice_get strata 0) = grind arith in
    let count = ap (λ (s : Start). s.count) start ∙ count-of-start strata 0 in
    let head = ap (λ (s : Start). s.head) start ∙ head-of-start strata 0 ∙ ap (head_in strata) (sym zeros-done) in
    (search rules, search rules, search rules, search rules, sym nothing, sym (ap sum none ∙ none-of v.counted), count, head, (nothing_beyond (done_in strata zeros) 1 nothing, inl refl), search rules, long)
