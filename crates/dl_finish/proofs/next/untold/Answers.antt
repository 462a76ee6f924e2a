use Rattle.std.proofs.Common.{sym, ◌∙◌}
use Rattle.dl_finish.proofs.Searching.{untold_next, untold_here}
use Rattle.dl_finish.proofs.next.untold.Goals as goal

pub loop-core-preserved : goal.loop-core-preserved
loop-core-preserved c =
    sym (untold_next c.loop-core.core c.args.cores c.args.told c.loop-core-test.true (sym c.was_told.ensures ∙ c.if-not-was_told.false))
    ∙ c.loop-core.invariant

pub returns-then-not-was_told : goal.returns-then-not-was_told
returns-then-not-was_told c =
    sym (untold_here c.loop-core.core c.args.cores c.args.told c.loop-core-test.true (sym c.was_told.ensures ∙ c.if-not-was_told.true))
    ∙ c.loop-core.invariant
