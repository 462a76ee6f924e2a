use Rattle.dl_account.specs.Commits.{commit_lines}
use Rattle.dl_account.proofs.Numbered.{numbered_read_on}
use Rattle.dl_account.proofs.commits.put_list.Goals as goal

pub loop-index-preserved : goal.loop-index-preserved
loop-index-preserved c =
    rw (c.in_ok-put_commit.ensures, c.loop-index.invariant) (numbered_read_on commit_lines c.args.number _ c.args.commits.now c.loop-index.index c.index-commits-index.result c.loop-index-test.true c.index-commits-index.is)
