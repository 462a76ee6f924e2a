-- The pages of bytes are pages of a memory, and have these bytes.
use Rattle.std.proofs.Common.{rules}
use Rattle.dl_mem.specs.Memories.{IsMemory}
use Rattle.dl_mem.proofs.Paged.{IsPaged-chunks, concat_paged}
use Rattle.dl_mem.proofs.memory.Memory.from_bytes.Goals as goal

bytes_memory : (c : goal.In_ok-new_pages) → IsMemory c.args.bytes.now
bytes_memory c = record { size = c.requires; bytes = record { each = λ i. search rules } }

pub invariant_of-result : goal.invariant_of-result
invariant_of-result c = rw (c.in_ok-new_pages.ensures, c.as_chunks.ensures.front) (IsPaged-chunks c.args.bytes.now (bytes_memory c))

pub returns : goal.returns
returns c = rw (c.in_ok-new_pages.ensures, c.as_chunks.ensures.front) (concat_paged c.args.bytes.now (bytes_memory c))
