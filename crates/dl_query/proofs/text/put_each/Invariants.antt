use Rattle.std.proofs.Common.{◌≡◌, ◌++◌, take, flat_map}
use Rattle.spec_query.specs.Texts.{line_text}
use Rattle.dl_query.proofs.text.put_each.Given as goal

abbrev pub invariant-loop-line : goal.invariant-loop-line
invariant-loop-line l = l.text ≡ l.initial.text ++ flat_map line_text (take l.line-index l.lines)
