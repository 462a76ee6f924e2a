-- The bit of the mask says whether the byte is stored.
use Rattle.std.proofs.Common.{refl}
use Rattle.std.proofs.lemmas.Bool.{ne_eqb}
use Rattle.dl_wbuf.proofs.LaneLaws.{lane-bytes_of}
use Rattle.dl_wbuf.proofs.stored.Stored.byte.Goals as goal

pub returns-then-self-k-eq1 : goal.returns-then-self-k-eq1
returns-then-self-k-eq1 c = rw (← c.self.view_is, lane-bytes_of _ _ _ _ c.requires, c.if-self-k-eq1.true, c.to_le_bytes.ensures) refl

pub returns-else-self-k-eq1 : goal.returns-else-self-k-eq1
returns-else-self-k-eq1 c = rw (← c.self.view_is, lane-bytes_of _ _ _ _ c.requires, ne_eqb _ _ c.if-self-k-eq1.false) refl
