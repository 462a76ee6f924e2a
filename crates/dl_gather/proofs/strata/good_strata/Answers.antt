use Rattle.std.proofs.Common.{rules, inr}
use Rattle.dl_gather.proofs.strata.good_strata.Goals as goal

pub returns-in_ok-bad_strata_line-in-Err-Malformed-clause-halt :
    goal.returns-in_ok-bad_strata_line-in-Err-Malformed-clause-halt
returns-in_ok-bad_strata_line-in-Err-Malformed-clause-halt c =
    (search rules, search rules, search rules, inr (inr (c.args.sphere, c.in-Err-Malformed.fault.number, c.in-Err-Malformed.fault.offset, c.in_ok-bad_strata_line-in-Err-Malformed.ensures)))
