use Rattle.std.proofs.Common.{◌≡◌, codes, rules, refl, arith}
use Rattle.std.proofs.lemmas.Slice.Eq.{text_from_reads}
use Rattle.dl_event.proofs.line.event_of_two.Goals as goal

pub returns-in-deliver : goal.returns-in-deliver
returns-in-deliver c =
    let is : c.args.word.now ≡ codes "deliver" = text_from_reads c.args.word.now (codes "deliver") (omega arith) (search rules) in
    rw is refl
