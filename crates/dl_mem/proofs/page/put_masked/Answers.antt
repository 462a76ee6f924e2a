-- Each of the four calls is one byte of the store.
use Rattle.std.proofs.Common.{refl}
use Rattle.dl_mem.proofs.Laid.{lay-from}
use Rattle.dl_mem.proofs.page.put_masked.Goals as goal

pub returns : goal.returns
returns c = rw (lay-from _ _ _ _ c.requires.aligned, c.put_if-4.ensures, c.put_if-3.ensures, c.put_if-2.ensures, c.put_if.ensures, c.to_le_bytes.ensures) refl
