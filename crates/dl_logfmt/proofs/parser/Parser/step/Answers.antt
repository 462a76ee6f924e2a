use Rattle.std.proofs.Common.{◌∙◌, Some, rules, ap, sym, arith}
use Rattle.std.proofs.lemmas.Result.{err_from_is_err_and}
use Rattle.dl_logfmt.proofs.Parsing.{once-read, once-unread, stage-passed, times-read, times-unread}
use Rattle.dl_logfmt.proofs.parser.Parser.step.Goals as goal

pub returns-in_err-times-in-None-clause-steps : goal.returns-in_err-times-in-None-clause-steps
returns-in_err-times-in-None-clause-steps c =
    let p = err_from_is_err_and c.from_residual.result c.from_residual.ensures.1 in
    let self = c.args.self.now in
    rw (p.1, p.2) (times-unread self.stage self.left self.draft c.args.source.now.bytes.now c.args.at.now c.requires.more c.requires.within
    c.read_times.new.at _ c.in-None.is c.in_err-times-in-None.ensures.value)

pub returns-in_ok-times-in-None-clause-steps : goal.returns-in_ok-times-in-None-clause-steps
returns-in_ok-times-in-None-clause-steps c =
    let self = c.args.self.now in
    times-read self.stage self.left self.draft c.args.source.now.bytes.now c.args.at.now c.requires.more c.requires.within
    c.in_ok-times-in-None.times c.read_times.new.at c.in-None.is (omega arith) c.in_ok-times-in-None.ensures.value

pub returns-in-Some-eq0-clause-steps : goal.returns-in-Some-eq0-clause-steps
returns-in-Some-eq0-clause-steps c =
    let self = c.args.self.now in
    rw c.next-self.ensures (stage-passed self.stage self.left self.draft c.args.source.now.bytes.now c.args.at.now c.requires.more c.requires.within
    (c.in-Some-eq0.is ∙ ap (λ n. Some n) (sym c.in-Some-eq0.field-0-is ∙ c.in-Some-eq0.field-0-test)))

pub returns-in_err-read_once-in-Some-clause-steps : goal.returns-in_err-read_once-in-Some-clause-steps
returns-in_err-read_once-in-Some-clause-steps c =
    let p = err_from_is_err_and c.from_residual-in_err-read_once-in-Some.result c.from_residual-in_err-read_once-in-Some.ensures.1 in
    let self = c.args.self.now in
    rw (p.1, p.2) (once-unread self.stage self.left self.draft c.args.source.now.bytes.now c.args.at.now c.requires.more c.requires.within
    c.in-Some.left c.read_once.new.draft c.read_once.new.at _ c.in-Some.is (first_of (omega (arith, c.in-Some.left-test), grind (arith, c.in-Some.left-test), search (rules, c.in-Some.left-test))) c.in_err-read_once-in-Some.ensures.made)

pub returns-in_ok-read_once-in-Some-clause-steps : goal.returns-in_ok-read_once-in-Some-clause-steps
returns-in_ok-read_once-in-Some-clause-steps c =
    let self = c.args.self.now in
    once-read self.stage self.left self.draft c.args.source.now.bytes.now c.args.at.now c.requires.more c.requires.within
    c.in-Some.left c.read_once.new.draft c.read_once.new.at c.in-Some.is (first_of (omega (arith, c.in-Some.left-test), grind (arith, c.in-Some.left-test), search (rules, c.in-Some.left-test))) c.in_ok-read_once-in-Some.ensures.made
