use Rattle.std.proofs.Common.{◌≡◌, ◌≤◌, ◌<◌, length, drop, get_or, nat_lt, sym, ap, ◌∙◌, subst, arith}
use Rattle.std.specs.Prelude.{IsSome, option_map, slice_get}
use Rattle.std.proofs.lemmas.Bool.{le-ltb}
use Rattle.std.proofs.lemmas.List.{get_or_default}
use Rattle.spec_strata.specs.declared.strata.StrataParts.{StrataParts}
use Rattle.spec_strata.specs.Standing.{has_chunks_left}
use Rattle.dl_replay.specs.Standings.{Stood, count_in, counts_of, done_in}
use Rattle.dl_replay.proofs.Standings.{counts-of-left, has-left, none-beyond}
use Rattle.dl_replay.proofs.standing.Standing.has_more.Goals as goal

pub returns-then-thread-counts : goal.returns-then-thread-counts
returns-then-thread-counts c =
    let a = c.self.inside in
    let v = a.strata.value in
    let ds = a.done.items in
    let left = drop a.place v.strata in
    let i = c.from-thread.result in
    let cs = c.counts-counts.result.now in
    let same : c.deref.result.now ≡ v = grind arith in
    let chunks = subst (λ (x : Stood). IsSome (count_in x.standing.strata)) (sym c.self.view_is) c.requires in
    let here = counts-of-left v.counted v.strata a.place cs (c.counts-counts.ensures.value ∙ ap (λ (x : StrataParts). option_map (counts_of x.counted) (slice_get x.strata a.place)) same) in
    let within : i < length ds = omega (arith, c.if-thread-counts.true, c.counts-counts.ensures.threads, ap (λ (x : StrataParts). x.counted) same, c.self.invariant.10) in
    let done : c.index.result.now ≡ get_or ds i 0 = omega (arith, c.index.ensures, get_or_default ds i c.index.result.now 0 within) in
    (λ j. nat_lt (done j) (c.from.ensures j))
    ∙ has-left v.counted left cs ds i chunks here
    ∙ (λ j. has_chunks_left left (done_in left ds) (c.from-thread.ensures j))
    ∙ ap (λ (x : Stood). has_chunks_left x.standing.strata x.standing.done c.args.thread) c.self.view_is

pub returns-else-thread-counts : goal.returns-else-thread-counts
returns-else-thread-counts c =
    let a = c.self.inside in
    let v = a.strata.value in
    let ds = a.done.items in
    let left = drop a.place v.strata in
    let i = c.from-thread.result in
    let cs = c.counts-counts.result.now in
    let same : c.deref.result.now ≡ v = grind arith in
    let chunks = subst (λ (x : Stood). IsSome (count_in x.standing.strata)) (sym c.self.view_is) c.requires in
    let here = counts-of-left v.counted v.strata a.place cs (c.counts-counts.ensures.value ∙ ap (λ (x : StrataParts). option_map (counts_of x.counted) (slice_get x.strata a.place)) same) in
    let past : length cs ≤ i = omega (arith, c.if-thread-counts.false) in
    le-ltb i (length cs) past
    ∙ sym (le-ltb (get_or ds i 0) (get_or cs i 0) (omega (arith, none-beyond cs i past)))
    ∙ has-left v.counted left cs ds i chunks here
    ∙ (λ j. has_chunks_left left (done_in left ds) (c.from-thread.ensures j))
    ∙ ap (λ (x : Stood). has_chunks_left x.standing.strata x.standing.done c.args.thread) c.self.view_is
