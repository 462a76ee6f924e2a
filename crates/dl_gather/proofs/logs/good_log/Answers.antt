use Rattle.std.proofs.Common.{rules, inl}
use Rattle.dl_gather.proofs.logs.good_log.Goals as goal

pub returns-in_ok-log_line-in-Malformed-clause-halt : goal.returns-in_ok-log_line-in-Malformed-clause-halt
returns-in_ok-log_line-in-Malformed-clause-halt c =
    (search rules, search rules, search rules, inl (c.args.sphere, c.in-Malformed.fault.number, c.in-Malformed.fault.offset, c.in_ok-log_line-in-Malformed.ensures))
