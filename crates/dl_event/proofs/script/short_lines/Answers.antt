use Rattle.std.proofs.Common.{◌≡◌, ◌≤◌, ◌*◌, ◌-◌, ◌+◌, ◌++◌, ℕ, List, length, take, drop, replicate, subst, sym, ap, ◌∙◌}
use Rattle.std.proofs.lemmas.List.{take_rest}
use Rattle.dl_event.specs.declared.line.Line.TheVariants.{Holds}
use Rattle.dl_event.specs.Script.{lines_of}
use Rattle.dl_event.proofs.Alike.{alike_first, alike_lines, lines_few}
use Rattle.dl_event.proofs.script.short_lines.Goals as goal

pub returns-clause-lines : goal.returns-clause-lines
returns-clause-lines c = λ tail.
    let text : List ℕ = c.args.text.now in
    let size : ℕ = c.in_ok-event.size in
    let more : ℕ = c.min-more.result in
    let behind : take (length text - size) (drop size text) ≡ drop size text = take_rest text size in
    let agree = subst (λ (xs : List ℕ). take c.common.result text ≡ take c.common.result xs) behind c.common.ensures.same in
    let long = subst (λ (xs : List ℕ). c.common.result ≤ length xs) behind c.common.ensures.within_other in
    let few = lines_few c.common.result size (c.args.most - 1) more c.in_ok-event.ensures.some c.min-more.ensures in
    let alike = alike_first text size c.common.result more c.in_ok-event.ensures.some c.in_ok-event.ensures.within few agree long in
    let rest = take_rest (take (length text - size) (drop size text)) (more * size) ∙ ap (drop (more * size)) behind in
    subst (λ (xs : List ℕ). lines_of (text ++ tail) ≡ replicate (1 + more) (Holds c.in_ok-event.event) ++ lines_of (xs ++ tail)) (sym rest)
    (alike_lines text (take size text) (drop (more * size) (drop size text)) tail (1 + more) c.in_ok-event.event c.in_ok-event.ensures.line alike)
