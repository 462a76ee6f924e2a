use Rattle.std.proofs.Common.{rules, ◌≡◌, ◌∙◌, true}
use Rattle.dl_words.proofs.Numbers.{number_read}
use Rattle.dl_words.specs.Numbers.{is_plain}
use Rattle.dl_words.proofs.number.read_number.Goals as goal

pub returns : goal.returns
returns c =
    let plain : is_plain c.args.word.now ≡ true = search rules in
    c.ok.ensures.value ∙ number_read c.args.word.now c.parse.result plain c.parse.ensures.value.0
