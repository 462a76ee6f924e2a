-- A world that is sound is sound if its recordings in epochs have forgotten what came before.
use Rattle.std.proofs.Common.{◌≡◌, ℕ, ◌<◌, length, map, sym, ◌∙◌, subst}
use Rattle.std.proofs.lemmas.List.{length-map}
use Rattle.spec_protocol.specs.machine.World.{World, sphere_at, moment}
use Rattle.spec_protocol.specs.machine.Machine.{Setup}
use Rattle.spec_sphere.specs.promises.Alike.{forgotten}
use Rattle.spec_protocol.specs.promises.Alike.{all_forgotten, AreAlike}
use Rattle.spec_sphere.specs.promises.Sound.{IsSoundSphere}
use Rattle.spec_protocol.specs.promises.Sound.{IsSound, image_at}
use Rattle.spec_protocol.proofs.Alike.Forgetting.{sphere-forgotten}
use Rattle.spec_sphere.proofs.Alike.Sound.{sphere-sound}

-- and so is a world
pub sound-forgotten : (s : Setup) (w : World) → IsSound s w → IsSound s (all_forgotten w)
sound-forgotten s w h =
    let many : length (map forgotten w.spheres) ≡ length w.spheres = length-map w.spheres forgotten in
    record {
      sizes = record {
        numbers = h.sizes.numbers;
        spheres = many ∙ h.sizes.spheres;
        cores = h.sizes.cores;
        slots = h.sizes.slots;
      };
      devices = h.devices;
      replies = h.replies;
      spheres = λ i inside.
          subst (IsSoundSphere s.numbers.s (image_at s i) (moment w)) (sym (sphere-forgotten w i))
          (sphere-sound s.numbers.s (image_at s i) (moment w) (sphere_at w i) (h.spheres i (subst (λ (n : ℕ). i < n) many inside)));
      flights = h.flights;
      held = h.held;
      younger = h.younger;
    }

-- so it is of a world alike
pub sound-alike : (s : Setup) (w v : World) → AreAlike w v → IsSound s v → IsSound s (all_forgotten w)
sound-alike s w v same h = subst (IsSound s) (sym same) (sound-forgotten s v h)
