use Rattle.std.proofs.Common.{◌≡◌, ◌∙◌, ℕ, List, length, ap, rules}
use Rattle.std.proofs.lemmas.Result.{IfOk-weaker}
use Rattle.dl_make.specs.Generated.{made}
use Rattle.spec_program.specs.Lines.{made_line}
use Rattle.spec_program.specs.Outcomes.{filed}
use Rattle.dl_commands.proofs.making.make_image.Goals as goal

pub returns : goal.returns
returns c =
    let name = c.args.name.now in
    let image = c.in_ok-image.image.items in
    let size : c.len.result ≡ length image = search rules in
    let is : image ≡ made c.args.number = c.in_ok-image.ensures.bytes in
    let text : c.in_ok-text.text.items ≡ made_line (length image) = c.in_ok-text.ensures ∙ ap made_line size in
    IfOk-weaker c.filed.result _ _
    (λ job so. so ∙ ap (filed name image) text ∙ ap (λ (b : List ℕ). filed name b (made_line (length b))) is)
    c.filed.ensures
