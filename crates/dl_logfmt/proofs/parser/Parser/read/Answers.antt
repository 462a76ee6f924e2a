use Rattle.dl_logfmt.proofs.Parsing.{Came-then, Grew-then}
use Rattle.dl_logfmt.proofs.parser.Parser.read.Goals as goal

pub loop-after-preserved : goal.loop-after-preserved
loop-after-preserved c =
    let step = c.in_ok-step.ensures in (
      Came-then _ _ _ _ _ _ _ c.loop-after.invariant.0 step.steps.0,
      Grew-then _ _ _ c.loop-after.invariant.1 step.grown,
    )
