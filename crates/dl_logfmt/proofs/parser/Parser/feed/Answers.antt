use Rattle.dl_logfmt.proofs.Parsing.{feeds-end, feeds-lasting}
use Rattle.dl_logfmt.proofs.parser.Parser.feed.Goals as goal

pub returns-in-Ok-clause-reads : goal.returns-in-Ok-clause-reads
returns-in-Ok-clause-reads c = feeds-end _ _ _ _ _ _ c.in-Ok.ensures.reads c.judge.ensures.value

pub returns-in-Err-Malformed-clause-reads : goal.returns-in-Err-Malformed-clause-reads
returns-in-Err-Malformed-clause-reads c =
    let reads = rw c.in-Err-Malformed.field-0-is at c.in-Err-Malformed.ensures.reads in
    feeds-lasting c.args.source.now.bytes.now c.args.self.now c.args.at.now c.read.new.self c.read.new.at _ _ reads c.lasting.ensures
