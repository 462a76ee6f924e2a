use Rattle.std.proofs.Common.{◌≡◌, ◌++◌, List, drop}
use Rattle.spec_protocol.specs.declared.event.Event.{Event}
use Rattle.spec_run.specs.Runs.{executed}
use Rattle.spec_run.specs.Texts.{lines_from, lines_of}
use Rattle.dl_run.specs.Ran.{IsOver}
use Rattle.dl_run.proofs.run.Run.lines.Given as goal

-- with the lines of the spheres to come, all are there
abbrev pub invariant-loop-sphere : goal.invariant-loop-sphere
invariant-loop-sphere l =
    let s = l.fn.self.setup in
    (es : List Event) → IsOver es l.fn.self → l.lines.items ++ lines_from (executed s es) l.sphere (drop l.sphere s.spheres) ≡ lines_of s es
