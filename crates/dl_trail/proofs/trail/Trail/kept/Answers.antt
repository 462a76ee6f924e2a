use Rattle.std.proofs.Common.{ℕ, List, sym, ◌∙◌, subst}
use Rattle.dl_trail.specs.Trails.{AreNumbers, Trail, entry_of, memory_of}
use Rattle.dl_trail.proofs.Places.{numbers-kept}
use Rattle.dl_trail.proofs.trail.Trail.kept.Goals as goal

pub returns : goal.returns
returns c =
    let t = c.self.inside in
    let numbers = c.deref.ensures.value ∙ c.self.invariant.2 in
    let trail : Trail = record { log = t.log; memory = memory_of t.kept.items; entry = entry_of t.kept.items; every = t.every } in
    subst (λ (v : Trail). AreNumbers v c.deref.result.now) c.self.view_is
    (subst (λ (ns : List ℕ). AreNumbers trail ns) (sym numbers) (numbers-kept t.log trail.memory trail.entry t.every t.kept.items c.self.invariant.1))
