-- The bytes are those of the store, whatever its word.
use Rattle.std.proofs.Common.{◌∙◌}
use Rattle.dl_wbuf.proofs.LaneLaws.{word_over-any}
use Rattle.dl_wbuf.proofs.stored.Stored.over.Goals as goal

pub returns : goal.returns
returns c = rw (← c.self.view_is) (c.laid_over.ensures ∙ word_over-any _ _ _ _ _)
