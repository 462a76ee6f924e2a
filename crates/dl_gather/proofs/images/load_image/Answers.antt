use Rattle.std.proofs.Common.{rules}
use Rattle.dl_gather.proofs.images.load_image.Goals as goal

pub returns-in_ok-image_line-in-Err-Refused-clause-halt : goal.returns-in_ok-image_line-in-Err-Refused-clause-halt
returns-in_ok-image_line-in-Err-Refused-clause-halt c =
    (search rules, search rules, search rules, (c.args.number, c.in-Err-Refused.rule, c.in_ok-image_line-in-Err-Refused.ensures))
