use Rattle.std.proofs.Common.{ap, rules}
use Rattle.spec_log.specs.declared.LogParts.{LogParts}
use Rattle.spec_play.specs.Plays.{opened}
use Rattle.spec_play.proofs.Going.{plays-first}
use Rattle.dl_serial.specs.Walked.{walked_in}
use Rattle.dl_commands.proofs.Walks.{whole_walk}
use Rattle.dl_commands.proofs.walking.walk_whole.Goals as goal

pub whole_end-end-requires : goal.whole_end-end-requires
whole_end-end-requires c =
    whole_walk c.args.read.now.log c.args.read.now.image.bytes c.args.read.now.image.entry c.parts.result.now.count (walked_in c.in_ok-walked.walked) c.in_ok-walked.ensures.walked
    (ap (λ (l : LogParts). l.count) c.parts.ensures.parts)

pub returns : goal.returns
returns c =
    let log = c.args.read.now.log in
    let start = opened log c.args.read.now.image.bytes c.args.read.now.image.entry in
    rw (plays-first log start log.count) (search rules)
