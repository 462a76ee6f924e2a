use Rattle.std.proofs.Common.{◌≡◌, codes, rules, refl, arith}
use Rattle.std.proofs.lemmas.Slice.Eq.{text_from_reads}
use Rattle.dl_event.proofs.line.event_of_one.Goals as goal

pub returns-in-retire : goal.returns-in-retire
returns-in-retire c =
    let is : c.args.word.now ≡ codes "retire" = text_from_reads c.args.word.now (codes "retire") (omega arith) (search rules) in
    rw is refl
