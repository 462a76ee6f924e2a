-- What is stored into the page is stored into the memory.
use Rattle.std.proofs.Common.{rules}
use Rattle.dl_mem.proofs.Paged.{page_inside, lay_paged, IsPaged-lay}
use Rattle.dl_mem.proofs.memory.Memory.put.Goals as goal

pub index_mut-requires : goal.index_mut-requires
index_mut-requires c =
    let lt = page_inside c.self.inside.pages.items c.args.addr c.self.invariant (rw c.self.view_is c.requires.inside) in search rules

pub invariant_of-self : goal.invariant_of-self
invariant_of-self c =
    rw c.put.ensures
    (IsPaged-lay c.self.inside.pages.items c.args.addr c.args.mask c.args.value c.index_mut.result.now c.self.invariant c.requires.aligned (rw c.self.view_is c.requires.inside) c.index_mut.ensures.value)

pub returns-clause-laid : goal.returns-clause-laid
returns-clause-laid c =
    rw (c.put.ensures, ← c.self.view_is)
    (lay_paged c.self.inside.pages.items c.args.addr c.args.mask c.args.value c.index_mut.result.now c.self.invariant c.requires.aligned (rw c.self.view_is c.requires.inside) c.index_mut.ensures.value)

pub returns-clause-after : goal.returns-clause-after
returns-clause-after c =
    let paged =
    IsPaged-lay c.self.inside.pages.items c.args.addr c.args.mask c.args.value c.index_mut.result.now c.self.invariant c.requires.aligned (rw c.self.view_is c.requires.inside) c.index_mut.ensures.value
    in
    rw c.put.ensures paged.memory
