-- What is written into the page is written into the snapshot.
use Rattle.std.proofs.Common.{rules}
use Rattle.dl_mem.proofs.Paged.{page_inside, lay_paged, IsPaged-lay}
use Rattle.dl_mem.proofs.snapshot.Snapshot.put.Goals as goal

pub index-requires : goal.index-requires
index-requires c =
    let lt = page_inside c.self.inside.pages.items c.args.addr c.self.invariant (rw c.self.view_is c.requires.inside) in search rules

pub index_mut-requires : goal.index_mut-requires
index_mut-requires c =
    let lt = page_inside c.self.inside.pages.items c.args.addr c.self.invariant (rw c.self.view_is c.requires.inside) in search rules

pub invariant_of-self : goal.invariant_of-self
invariant_of-self c =
    rw (c.in_ok-page.ensures)
    (IsPaged-lay c.self.inside.pages.items c.args.addr c.args.mask c.args.value c.index.result.now c.self.invariant c.requires.aligned (rw c.self.view_is c.requires.inside) c.index.ensures)

pub returns-clause-laid : goal.returns-clause-laid
returns-clause-laid c =
    rw (c.in_ok-page.ensures, ← c.self.view_is)
    (lay_paged c.self.inside.pages.items c.args.addr c.args.mask c.args.value c.index.result.now c.self.invariant c.requires.aligned (rw c.self.view_is c.requires.inside) c.index.ensures)

pub returns-clause-after : goal.returns-clause-after
returns-clause-after c =
    let paged =
    IsPaged-lay c.self.inside.pages.items c.args.addr c.args.mask c.args.value c.index.result.now c.self.invariant c.requires.aligned (rw c.self.view_is c.requires.inside) c.index.ensures
    in
    rw (c.in_ok-page.ensures) paged.memory
