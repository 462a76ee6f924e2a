use Rattle.std.proofs.Common.{◌≡◌, ℕ, ◌*◌, ◌<◌, ◌≤◌, length, sym, ap, ◌∙◌, subst, arith}
use Rattle.spec_play.specs.States.{state_after}
use Rattle.spec_play.specs.Resuming.{HasDone}
use Rattle.dl_kernel.specs.States.{state_in}
use Rattle.dl_trail.specs.Trails.{Trail}
use Rattle.dl_trail.proofs.Places.{commits-kept, found-there, place-before, place-within, some-kept, times_most}
use Rattle.dl_trail.proofs.trail.Trail.start.Goals as goal

pub overflow_sub-last : goal.overflow_sub-last
overflow_sub-last c =
    let t = c.self.inside in
    let some = some-kept _ _ _ _ t.kept.items c.self.invariant.1 in
    omega (arith, some, c.len-last.ensures, t.kept.ok.0)

pub index-requires : goal.index-requires
index-requires c =
    let t = c.self.inside in
    let some = some-kept _ _ _ _ t.kept.items c.self.invariant.1 in
    omega (arith, some, c.len-last.ensures, c.min-index.ensures, t.kept.ok.0)

pub returns-clause-before : goal.returns-clause-before
returns-clause-before c =
    let t = c.self.inside in
    let are = c.self.invariant.1 in
    let n = c.min-index.result in
    let some = some-kept _ _ _ _ t.kept.items are in
    let below : n < length t.kept.items = omega (arith, some, c.len-last.ensures, c.min-index.ensures, t.kept.ok.0) in
    let is = commits-kept _ _ _ _ t.kept.items are n c.index.result.now (found-there t.kept.items n c.index.result.now below c.index.ensures) in
    let before = place-before c.args.i n t.every (omega (arith, c.min-index.ensures)) in
    omega (arith, is, before)

pub returns-clause-done : goal.returns-clause-done
returns-clause-done c =
    let t = c.self.inside in
    let are = c.self.invariant.1 in
    let n = c.min-index.result in
    let some = some-kept _ _ _ _ t.kept.items are in
    let below : n < length t.kept.items = omega (arith, some, c.len-last.ensures, c.min-index.ensures, t.kept.ok.0) in
    let is = commits-kept _ _ _ _ t.kept.items are n c.index.result.now (found-there t.kept.items n c.index.result.now below c.index.ensures) in
    subst (λ (v : Trail). HasDone v.log v.memory v.entry c.index.result.now.commits) c.self.view_is
    (subst (HasDone _ _ _) (sym is) (are.done n below))

pub returns-clause-state : goal.returns-clause-state
returns-clause-state c =
    let t = c.self.inside in
    let are = c.self.invariant.1 in
    let n = c.min-index.result in
    let s = c.index.result.now in
    let some = some-kept _ _ _ _ t.kept.items are in
    let below : n < length t.kept.items = omega (arith, some, c.len-last.ensures, c.min-index.ensures, t.kept.ok.0) in
    let there = found-there t.kept.items n s below c.index.ensures in
    let is = commits-kept _ _ _ _ t.kept.items are n s there in
    subst (λ (v : Trail). state_in s ≡ state_after v.log v.memory v.entry s.commits) c.self.view_is
    (are.each n s there ∙ ap (state_after _ _ _) (sym is))

pub returns-clause-nearest : goal.returns-clause-nearest
returns-clause-nearest c n done l =
    let t = c.self.inside in
    let are = c.self.invariant.1 in
    let m = c.min-index.result in
    let some = some-kept _ _ _ _ t.kept.items are in
    let below : m < length t.kept.items = omega (arith, some, c.len-last.ensures, c.min-index.ensures, t.kept.ok.0) in
    let is = commits-kept _ _ _ _ t.kept.items are m c.index.result.now (found-there t.kept.items m c.index.result.now below c.index.ensures) in
    let every : c.args.self.now.every ≡ t.every = sym (ap (λ (v : Trail). v.every) c.self.view_is) in
    let here = subst (λ (v : Trail). HasDone v.log v.memory v.entry (n * v.every)) (sym c.self.view_is) done in
    let kept = are.all n here in
    let most = place-within c.args.i n t.every c.self.invariant.0 (subst (λ (e : ℕ). n * e ≤ c.args.i) every l) in
    let few : n ≤ m = omega (arith, some, kept, most, c.len-last.ensures, c.min-index.ensures, t.kept.ok.0) in
    let before = times_most n m t.every few in
    subst (λ (e : ℕ). n * e ≤ c.index.result.now.commits) (sym every) (omega (arith, is, before))
