-- Of every sphere, except one in strata, the thread that committed last is the last one among its commits, or before them.
use Rattle.std.specs.Prelude.{◌≡◌, ℕ, List, slice_get, Some}
use Rattle.spec_protocol.specs.declared.event.Event.{Event}
use Rattle.spec_sphere.specs.sphere.Spheres.{Sphere}
use Rattle.spec_sphere.specs.sphere.Setups.{SphereSetup}
use Rattle.spec_protocol.specs.machine.Machine.{Setup}
use Rattle.spec_protocol.specs.promises.Promises.{IsSetup, after}
use Rattle.spec_sphere.specs.promises.Lasts.{IsLastSince, last_before, IsInOrder}

-- plain, recorded, or replayed by a log
abbrev pub SpheresKeepLasts : Type 0
SpheresKeepLasts =
    (s : Setup) (es : List Event) (i : ℕ) (image : SphereSetup) (p : Sphere) → IsSetup s
    → slice_get s.spheres i ≡ Some image
    → slice_get (after s es).spheres i ≡ Some p → IsInOrder p.role → IsLastSince (last_before s.numbers.s image) p.progress
