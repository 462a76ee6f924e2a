-- The four bytes from the place on are those of the word.
use Rattle.std.proofs.Common.{◌≡◌, ◌*◌, ◌/◌, arith, rules}
use Rattle.spec_isa.specs.Words.{read}
use Rattle.dl_mem.proofs.page.word_at.Goals as goal

pub returns : goal.returns
unfolding read
returns c =
    let place : 4 * (c.args.at / 4) ≡ c.args.at = omega (arith, c.requires.aligned) in
    rw place (search rules)
