use Rattle.std.proofs.Common.{ℕ, List, ap, ◌∙◌}
use Rattle.std.specs.Prelude.{slice_set}
use Rattle.spec_strata.specs.declared.touch.Touch.{Touch}
use Rattle.dl_strata.specs.Tables.{Table}
use Rattle.dl_strata.proofs.Tables.{mark-set}
use Rattle.dl_strata.proofs.touches.Touches.set.Goals as goal

pub returns : goal.returns
returns c =
    let n : ℕ = c.self.inside.stratum in
    ap (λ (ts : List Touch). let t : Table = record { stratum = n; touches = ts } in t) (mark-set n c.self.inside.marks.items c.args.number c.args.touch)
    ∙ ap (λ (t : Table). let u : Table = record { stratum = t.stratum; touches = slice_set t.touches c.args.number c.args.touch } in u) c.self.view_is
