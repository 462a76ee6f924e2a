use Rattle.std.proofs.Common.{◌≡◌, ℕ, ◌+◌, ◌*◌, ◌-◌, ◌<◌, ◌≤◌, length, take, drop, Some, sym, ap, ◌∙◌, subst, arith}
use Rattle.std.specs.Prelude.{option_map, slice_get}
use Rattle.spec_strata.specs.declared.strata.StrataParts.{StrataParts}
use Rattle.dl_replay.specs.Standings.{counts_of}
use Rattle.dl_replay.specs.Starts.{laid_with}
use Rattle.dl_replay.proofs.Standings.{all-count}
use Rattle.dl_replay.proofs.Starts.{counts-at, counts-in-all, ends-within}
use Rattle.dl_replay.proofs.ready.ReadyStrata.counts.Goals as goal

pub slice_bounds-result-end : goal.slice_bounds-result-end
slice_bounds-result-end c =
    let a = c.self.inside in
    let v = laid_with a.parts a.starts.items a.counts.items in
    let all = all-count v.counted v.strata c.self.invariant.0.each in
    let there : c.args.place < length v.strata = subst (λ (x : StrataParts). c.args.place < length x.strata) (sym c.self.view_is) c.requires in
    let n : c.from-threads.result ≡ v.counted = c.from-threads.ensures in
    let many : length c.deref.result.now ≡ v.counted * length v.strata = ap length c.deref.ensures.value ∙ ap length c.self.invariant.2 ∙ counts-in-all v.counted v.strata all in
    let ends : c.from-threads.result * c.args.place + c.from-threads.result ≤ length c.deref.result.now =
    omega (arith, many, ends-within v.counted c.args.place (length v.strata) there, ap (λ (m : ℕ). m * c.args.place + m) n) in
    ends

pub returns-clause-value : goal.returns-clause-value
returns-clause-value c =
    let a = c.self.inside in
    let v = laid_with a.parts a.starts.items a.counts.items in
    let all = all-count v.counted v.strata c.self.invariant.0.each in
    let place = c.args.place in
    let there : place < length v.strata = subst (λ (x : StrataParts). place < length x.strata) (sym c.self.view_is) c.requires in
    let n = c.from-threads.result in
    let many : n * place + n - n * place ≡ n = omega arith in
    let here = c.deref.ensures.value ∙ c.self.invariant.2 in
    ap (λ (k : ℕ). Some (take k (drop (n * place) c.deref.result.now))) many
    ∙ (λ i. Some (take (c.from-threads.ensures i) (drop (c.from-threads.ensures i * place) (here i))))
    ∙ sym (counts-at v.counted v.strata place all there)
    ∙ ap (λ (x : StrataParts). option_map (counts_of x.counted) (slice_get x.strata place)) c.self.view_is
