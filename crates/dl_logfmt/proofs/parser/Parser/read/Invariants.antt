use Rattle.dl_logfmt.specs.Parsing.{Came, Grew, most}
use Rattle.dl_logfmt.proofs.parser.Parser.read.Given as goal

-- what was read so far leads on
abbrev pub invariant-loop-after : goal.invariant-loop-after
invariant-loop-after l =
    Came l.source.bytes.now l.initial.self l.initial.at l.self l.at × Grew l.initial.self.draft l.self.draft

abbrev pub decreases-loop-after : goal.decreases-loop-after
decreases-loop-after l = most l.self
