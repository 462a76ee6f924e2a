-- The stored word, or none, by where it is.
use Rattle.std.proofs.Common.{◌/◌, sym}
use Rattle.dl_wbuf.proofs.Places.{IsFound-place, IsMissing-place}
use Rattle.dl_wbuf.proofs.buffer.Buffer.over.Goals as goal

pub returns-in-Some-clause-value : goal.returns-in-Some-clause-value
returns-in-Some-clause-value c =
    let found = IsFound-place c.args.self.now.words (c.args.word / 4) c.in-Some.i (sym c.in-Some.ensures.value) in
    rw (found.seen c.args.below c.index.result.now, ← c.self.view_is, ← c.index.ensures) c.over.ensures

pub returns-in-None-clause-value : goal.returns-in-None-clause-value
returns-in-None-clause-value c =
    sym ((IsMissing-place c.args.self.now.words (c.args.word / 4) (sym c.in-None.ensures.value)).seen c.args.below)
