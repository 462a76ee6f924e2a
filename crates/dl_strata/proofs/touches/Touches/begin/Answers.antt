use Rattle.std.proofs.Common.{ℕ, ◌+◌, List, map, ap, ◌∙◌}
use Rattle.spec_strata.specs.declared.touch.Touch.{Touch}
use Rattle.spec_strata.specs.declared.touch.Touch.TheVariants.{Untouched}
use Rattle.dl_strata.specs.Tables.{Table}
use Rattle.dl_strata.proofs.Tables.{all-untouched}
use Rattle.dl_strata.proofs.touches.Touches.begin.Goals as goal

pub returns : goal.returns
returns c =
    let n : ℕ = c.self.inside.stratum in
    ap (λ (ts : List Touch). let t : Table = record { stratum = n + 1; touches = ts } in t) (all-untouched n c.self.inside.marks.items c.self.invariant)
    ∙ ap (λ (t : Table). let u : Table = record { stratum = t.stratum + 1; touches = map (λ (x : Touch). Untouched) t.touches } in u) c.self.view_is
