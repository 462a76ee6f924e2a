-- Each byte is one lane, and all four are the value.
use Rattle.spec_isa.specs.Masks.{bytes_of, word_over}
use Rattle.dl_wbuf.proofs.LaneLaws.{or_some, whole_over}
use Rattle.dl_wbuf.proofs.lanes.laid_over.Goals as goal

pub returns : goal.returns
unfolding bytes_of word_over
returns c =
    rw (c.from_le_bytes.ensures, c.either.ensures, c.either-2.ensures, c.either-3.ensures, c.either-4.ensures, c.to_le_bytes.ensures, c.to_le_bytes-2.ensures)
    (simp or_some)

pub returns-then-mask-eq-WHOLE : goal.returns-then-mask-eq-WHOLE
returns-then-mask-eq-WHOLE c = rw (c.if-mask-eq-WHOLE.true) (whole_over c.args.value c.args.below c.ranges.value.fits)
