-- The four bytes from the word's place on are those of the word.
use Rattle.std.proofs.Common.{◌≡◌, ◌*◌, ◌/◌, arith, rules}
use Rattle.spec_isa.specs.Words.{read}
use Rattle.dl_query.proofs.image_word.word_of.Goals as goal

pub returns : goal.returns
unfolding read
returns c =
    let place : 4 * (c.args.addr / 4) ≡ c.args.addr / 4 * 4 = omega arith in
    rw place (search rules)
