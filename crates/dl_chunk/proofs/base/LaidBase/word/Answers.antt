use Rattle.dl_chunk.proofs.Showing.{within, word_found}
use Rattle.dl_chunk.proofs.base.LaidBase.word.Goals as goal

pub word-requires-clause-inside : goal.word-requires-clause-inside
word-requires-clause-inside g c =
    within c.args.self.now.memory.now c.args.self.now.older.now.chunk.done.words c.args.addr c.requires.inside

pub returns-clause-value : goal.returns-clause-value
returns-clause-value g c =
    let m = c.args.self.now.memory.now in
    let ws = c.args.self.now.older.now.chunk.done.words in
    let a = c.args.addr in
    word_found m ws a c.word.result c.over.result c.over.ensures.apart c.word.ensures.memory.bytes c.requires.aligned (within m ws a c.requires.inside) c.word.ensures.value c.over.ensures.value

pub returns-clause-bytes : goal.returns-clause-bytes
returns-clause-bytes g c = c.over.ensures.bytes.each c.args.self.now.memory.now c.word.ensures.memory.bytes
