use Rattle.std.proofs.Common.{List, map, ap, ◌∙◌}
use Rattle.spec_strata.specs.declared.touch.Touch.{Touch}
use Rattle.dl_strata.specs.declared.touches.Mark.{Mark}
use Rattle.dl_strata.specs.Marks.{fresh}
use Rattle.dl_strata.specs.Tables.{Table}
use Rattle.dl_strata.proofs.Tables.{none-marked}
use Rattle.dl_strata.proofs.touches.Touches.new.Goals as goal

pub returns : goal.returns
returns c =
    let items = c.in_ok-vec.ensures.items_if_clones_equal (λ y h. h) in
    ap (λ (ms : List Mark). let t : Table = record { stratum = 0; touches = map (fresh 0) ms } in t) items
    ∙ ap (λ (ts : List Touch). let t : Table = record { stratum = 0; touches = ts } in t) (none-marked c.args.words)
