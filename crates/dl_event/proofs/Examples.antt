-- Lines and words computed as examples.
use Rattle.std.specs.Prelude.{◌≡◌, codes, refl}
use Rattle.spec_protocol.specs.declared.event.Event.{Event}
use Rattle.dl_event.specs.declared.line.Line.TheVariants.{Empty, Holds, Wrong}
use Rattle.dl_event.specs.Line.{line_of}
use Rattle.dl_event.specs.Seeded.{drawn}

spaces-alone : line_of (codes "   ") ≡ Empty
spaces-alone = refl

comment : line_of (codes "# cut") ≡ Empty
comment = refl

spaced-raise : line_of (codes "  raise 1   2 0000000300 ") ≡ Holds (Event.Raise 1 2 300)
spaced-raise = refl

core-too-large : line_of (codes "step 256") ≡ Wrong
core-too-large = refl

one-number-for-deliver : line_of (codes "deliver 1") ≡ Wrong
one-number-for-deliver = refl

-- 63 + 64 * 0 + 512 * 5
dma-of-sphere-5 : drawn 2623 ≡ Event.Dma 5
dma-of-sphere-5 = refl
