use Rattle.std.proofs.Common.{length}
use Rattle.dl_mem.proofs.pages.+copy_pages.Given as goal

abbrev pub decreases-copy_pages : goal.decreases-copy_pages
decreases-copy_pages l = length l.into.now
