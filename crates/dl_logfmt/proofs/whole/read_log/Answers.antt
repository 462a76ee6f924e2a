use Rattle.std.proofs.Common.{[]}
use Rattle.std.proofs.lemmas.Result.{err_from_is_err_and}
use Rattle.spec_log.specs.Reading.{read_of}
use Rattle.dl_logfmt.proofs.AtOnce.{unfed}
use Rattle.dl_logfmt.proofs.whole.read_log.Goals as goal

pub returns-in_err-feed : goal.returns-in_err-feed
returns-in_err-feed c =
    let p = err_from_is_err_and c.from_residual.result c.from_residual.ensures.1 in
    rw (p.1, p.2) (unfed (read_of c.args.bytes.now) _ (c.in_err-feed.ensures.answer [] c.new-reader.ensures))

pub returns : goal.returns
returns c = c.end.ensures.log c.args.bytes.now (c.in_ok-feed.ensures.fed [] c.new-reader.ensures (λ e. absurd cc))
