-- As many bytes as the pages have.
use Rattle.std.proofs.Common.{arith}
use Rattle.dl_mem.proofs.Paged.{length_paged}
use Rattle.dl_mem.proofs.memory.Memory.size.Goals as goal

pub overflow_mul-result : goal.overflow_mul-result
overflow_mul-result c =
    let long = length_paged c.self.inside.pages.items c.self.invariant in
    let size = c.self.invariant.memory.size in
    grind arith

pub overflow_cast-result : goal.overflow_cast-result
overflow_cast-result c =
    let long = length_paged c.self.inside.pages.items c.self.invariant in
    let size = c.self.invariant.memory.size in
    grind arith

pub returns-clause-value : goal.returns-clause-value
returns-clause-value c =
    let long = length_paged c.self.inside.pages.items c.self.invariant in
    rw (← c.self.view_is) (grind arith)
