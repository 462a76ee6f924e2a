use Rattle.std.proofs.Common.{◌≡◌, ◌++◌, All, length, map}
use Rattle.std.specs.Vec.Iter.{into_iter_items, into_iter_len}
use Rattle.dl_sphere.specs.Setups.{HasBegun}
use Rattle.spec_program.specs.Built.{spheres_of}
use Rattle.dl_gather.specs.Inputs.{sphere_view}
use Rattle.dl_gather.specs.Intervals.{AreAllOrdered}
use Rattle.dl_gather.proofs.SettingUp.{Come}
use Rattle.dl_gather.proofs.setups.setups_of.Given as goal

-- the spheres that are set up come first in what is made of all, and as many images are left as inputs
abbrev pub invariant-loop-input : goal.invariant-loop-input
invariant-loop-input l = record {
  items : l.yielded ++ into_iter_items l.input-iterator ≡ l.fn.inputs.items;
  left : into_iter_len l.input-iterator ≡ length (into_iter_items l.input-iterator);
  images : into_iter_len l.images ≡ length (into_iter_items l.images);
  beside : length (into_iter_items l.images) ≡ length (into_iter_items l.input-iterator);
  number : length l.spheres.items ≡ length l.yielded;
  order : AreAllOrdered (map sphere_view (into_iter_items l.input-iterator));
  begun : All HasBegun l.spheres.items;
  made : Come (spheres_of 0 (map sphere_view l.fn.inputs.items) l.fn.images.items) l.spheres.items (into_iter_items l.input-iterator) (into_iter_items l.images);
}
