use Rattle.std.proofs.Common.{rules, ◌≡◌, ℕ, ◌+◌, ◌<◌, List, length, drop, replicate, inl, refl, sym, ap, subst, ◌∙◌, arith, length-drop}
use Rattle.std.specs.Prelude.{slice_get}
use Rattle.std.specs.List.{sum}
use Rattle.std.proofs.lemmas.List.{length-replicate}
use Rattle.std.proofs.lemmas.List.Elements.{All-drop}
use Rattle.spec_strata.specs.Standing.{Standing, head_in, stratum_begun}
use Rattle.dl_replay.specs.Standings.{CountsThreads, Stood, done_in, standing_from}
use Rattle.dl_replay.specs.Starts.{start_if}
use Rattle.dl_replay.specs.declared.ready.Start.{Start}
use Rattle.dl_replay.proofs.Standings.{begins, count-of-start, goes-on-from, head-of-start, none-done, none-of, nothing_beyond}
use Rattle.dl_replay.proofs.standing.Standing.go_on.Goals as goal

pub returns : goal.returns
returns c =
    let a = c.self.inside in
    let n = c.args.commits in
    let none : c.reset.new.numbers.items ≡ replicate (length a.done.items) 0 = c.reset.ensures in
    let here = ap (λ (ds : List ℕ). standing_from a.strata.value.strata (a.place + 1) ds (a.before + n)) none
    ∙ goes-on-from a.strata.value.strata a.place (length a.done.items) a.before n c.self.invariant.0 in
    ap (λ (x : Standing). (let y : Stood = record { all = a.strata.value.strata; standing = x } in y)) here
    ∙ ap (λ (y : Stood). record y { standing = stratum_begun (drop 1 y.standing.strata) (y.standing.before + n) }) c.self.view_is

pub invariant_of-self : goal.invariant_of-self
invariant_of-self c =
    let a = c.self.inside in
    let zeros = c.reset.new.numbers.items in
    let none : zeros ≡ replicate (length a.done.items) 0 = c.reset.ensures in
    let left = drop (a.place + 1) a.strata.value.strata in
    let nothing : sum (done_in left zeros) ≡ 0 =
    ap (λ (ds : List ℕ). sum (done_in left ds)) none
    ∙ ap sum (begins (length a.done.items) left (All-drop (CountsThreads (length a.done.items)) (a.place + 1) a.strata.value.strata c.self.invariant.0))
    ∙ none-done left in
    let some = subst (λ (x : Stood). 0 < length x.standing.strata) (sym c.self.view_is) c.requires.left in
    let same : length zeros ≡ length a.done.items = ap length none ∙ length-replicate (length a.done.items) 0 in
    let start : c.start_at-self-inside.result ≡ start_if (slice_get a.strata.value.strata (a.place + 1)) = grind arith in
    let count = ap (λ (s : Start). s.count) start ∙ count-of-start a.strata.value.strata (a.place + 1) in
    let head =
    ap (λ (s : Start). s.head) start
    ∙ head-of-start a.strata.value.strata (a.place + 1)
    ∙ ap (head_in left) (sym (ap (done_in left) none ∙ begins (length a.done.items) left (All-drop (CountsThreads (length a.done.items)) (a.place + 1) a.strata.value.strata c.self.invariant.0)))
    in (
      search rules,
      omega (arith, some, length-drop a.place a.strata.value.strata),
      c.self.invariant.2,
      search rules,
      sym nothing,
      sym (ap sum none ∙ none-of (length a.done.items)),
      count,
      head,
      (nothing_beyond (done_in left zeros) 1 nothing, inl refl),
      search rules,
      same ∙ c.self.invariant.10,
    )
