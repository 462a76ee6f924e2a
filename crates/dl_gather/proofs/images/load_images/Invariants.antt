use Rattle.std.proofs.Common.{◌≡◌, length, map, drop}
use Rattle.spec_program.specs.Built.{images_of}
use Rattle.dl_gather.specs.Inputs.{sphere_view}
use Rattle.dl_gather.proofs.Stages.{after}
use Rattle.dl_gather.proofs.images.load_images.Given as goal

-- the images come first in what is made of all
abbrev pub invariant-loop-i : goal.invariant-loop-i
invariant-loop-i l =
    (images_of 0 (map sphere_view l.inputs) ≡ after l.images.items (images_of l.i (map sphere_view (drop l.i l.inputs))))
    × (length l.images.items ≡ l.i)
