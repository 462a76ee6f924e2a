use Rattle.std.proofs.Common.{◌≡◌, ℕ, suc, ◌+◌, ◌^◌, ◌<◌, List, length, drop, get_or, set, max, ap, ◌∙◌, sym, subst, arith}
use Rattle.std.specs.Prelude.{All, IsSome, option_map, slice_get}
use Rattle.std.specs.List.{sum}
use Rattle.std.proofs.lemmas.List.{get_or_default, length-set}
use Rattle.dl_entry.specs.declared.Actor.{Actor}
use Rattle.spec_strata.specs.declared.strata.StrataParts.{StrataParts}
use Rattle.spec_strata.specs.Standing.{least_left}
use Rattle.dl_replay.specs.Standings.{CountsThreads, IsGreatest, Stood, count_in, counts_of, done_in}
use Rattle.dl_replay.proofs.Standings.{counts-of-left, done-counted, greatest_counted, head-counted, one-more-counted, one-more-of}
use Rattle.dl_replay.proofs.standing.Standing.add_one.Goals as goal

pub invariant_of-self : goal.invariant_of-self
invariant_of-self c =
    let a = c.self.inside in
    let v = a.strata.value in
    let i = c.from-number.result in
    let m = c.index_mut.result.now + 1 in
    let ds = a.done.items in
    let cs = c.counts-counts.result.now in
    let left = drop a.place v.strata in
    let long = length-set ds i m in
    let same : c.deref.result.now ≡ v = grind arith in
    let chunks = subst (λ (x : Stood). IsSome (count_in x.standing.strata)) (sym c.self.view_is) c.requires.chunks in
    let few = subst (λ (x : Stood). x.standing.before + sum x.standing.done + 1 < 2 ^ 32) (sym c.self.view_is) c.requires.few in
    let within : i < length ds = omega (arith, subst (λ (x : Stood). c.args.thread < length x.standing.done) (sym c.self.view_is) c.requires.thread, ap length (done-counted left ds chunks), c.from-number.ensures) in
    let n : m ≡ suc (get_or ds i 0) = omega (arith, c.index_mut.ensures.value, get_or_default ds i c.index_mut.result.now 0 within) in
    let greatest : c.max-self-inside.result ≡ max a.greatest i = omega (arith, c.max-self-inside.ensures, c.from-number.ensures) in
    let here = counts-of-left v.counted v.strata a.place cs (c.counts-counts.ensures.value ∙ ap (λ (x : StrataParts). option_map (counts_of x.counted) (slice_get x.strata a.place)) same) in
    let e : i ≡ c.args.thread = c.from-number.ensures in
    let next = n ∙ ap (λ (k : ℕ). suc (get_or ds k 0)) e in
    let made : c.deref-2.result.now ≡ set ds i m = c.deref-2.ensures.value in
    let head = c.pass_on.ensures ds (made ∙ (λ j. set ds (e j) (next j))) (c.self.invariant.7 ∙ head-counted v.counted left cs ds chunks here)
    ∙ ap (λ (es : List ℕ). option_map Actor.Thread (least_left 0 cs es)) made
    ∙ sym (head-counted v.counted left cs (set ds i m) chunks here) in
    let more = one-more-counted left ds i m chunks within n in (
      subst (λ (l : ℕ). All (CountsThreads l) v.strata) (sym long) c.self.invariant.0,
      c.self.invariant.1,
      c.self.invariant.2,
      omega (arith, long, c.self.invariant.3),
      omega (arith, more, c.self.invariant.4),
      omega (arith, one-more-of ds i m within n, c.self.invariant.5),
      c.self.invariant.6,
      head,
      subst (λ (g : ℕ). IsGreatest g (done_in left (set ds i m))) (sym greatest) (greatest_counted left ds a.greatest i m chunks within n c.self.invariant.8),
      omega (arith, more, few),
      long ∙ c.self.invariant.10,
    )
