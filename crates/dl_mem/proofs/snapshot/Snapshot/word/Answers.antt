-- The word is one of its page.
use Rattle.std.proofs.Common.{rules}
use Rattle.dl_mem.proofs.Paged.{page_inside, read_paged}
use Rattle.dl_mem.proofs.snapshot.Snapshot.word.Goals as goal

pub index-requires : goal.index-requires
index-requires c =
    let lt = page_inside c.self.inside.pages.items c.args.addr c.self.invariant (rw c.self.view_is c.requires.inside) in search rules

pub returns-clause-value : goal.returns-clause-value
returns-clause-value c =
    rw (c.word_at.ensures, c.bytes.ensures, ← c.self.view_is)
    (read_paged c.self.inside.pages.items c.args.addr c.index.result.now c.self.invariant c.requires.aligned (rw c.self.view_is c.requires.inside) c.index.ensures)
