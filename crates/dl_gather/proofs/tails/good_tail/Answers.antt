use Rattle.std.proofs.Common.{rules, inl}
use Rattle.dl_gather.proofs.tails.good_tail.Goals as goal

pub returns-in_ok-log_line-in-Err-Malformed-clause-halt : goal.returns-in_ok-log_line-in-Err-Malformed-clause-halt
returns-in_ok-log_line-in-Err-Malformed-clause-halt c =
    (search rules, search rules, search rules, inl (0, c.in-Err-Malformed.fault.number, c.in-Err-Malformed.fault.offset, c.in_ok-log_line-in-Err-Malformed.ensures))
