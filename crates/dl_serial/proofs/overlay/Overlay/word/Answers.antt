use Rattle.std.proofs.Common.{◌/◌, ap, ◌∙◌}
use Rattle.spec_isa.specs.Masks.{over}
use Rattle.dl_serial.proofs.Laying.{within, word_shown}
use Rattle.dl_serial.proofs.overlay.Overlay.word.Goals as goal

pub word-requires-clause-inside : goal.word-requires-clause-inside
word-requires-clause-inside c = within c.args.self.now.memory.now c.args.self.now.words.now.words c.args.addr c.requires.inside

pub returns : goal.returns
returns c =
    let m = c.args.self.now.memory.now in
    let ws = c.args.self.now.words.now.words in
    c.over.ensures.value ∙ ap (over ws (c.args.addr / 4)) c.word.ensures.value
    ∙ word_shown m ws c.args.addr c.over.ensures.apart c.word.ensures.memory.bytes c.requires.aligned (within m ws c.args.addr c.requires.inside)
