use Rattle.std.proofs.Common.{ℕ, ◌||◌, List, Option, sym, ap, ◌∙◌}
use Rattle.dl_serial.specs.Looks.{has, is_word}
use Rattle.dl_serial.proofs.Looks.{has-push}
use Rattle.dl_serial.proofs.looked.put_if.Goals as goal

pub returns-in_ok-push : goal.returns-in_ok-push
returns-in_ok-push c a =
    let old : List ℕ = c.args.words.now.items in
    ap (λ (xs : List ℕ). has xs a) c.in_ok-push.ensures.items ∙ has-push old c.in-Some.number a
    ∙ ap (λ (o : Option ℕ). has old a || is_word o a) (sym c.in-Some.is)
