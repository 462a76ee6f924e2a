-- A setup that a machine is made of is within the limits, and what it comes to is ready.
use Rattle.std.proofs.Common.{◌≡◌, ℕ, zero, suc, ◌^◌, ◌<◌, All, List, [], ◌∷◌, length, map, Some, arith, subst}
use Rattle.std.specs.Prelude.{slice_get}
use Rattle.std.proofs.lemmas.Grind.{common_steps}
use Rattle.std.proofs.lemmas.Option.{same_Some}
use Rattle.spec_protocol.specs.machine.Machine as protocol
use Rattle.spec_sphere.specs.sphere.Setups as sphere
use Rattle.spec_protocol.specs.machine.Machine.{world_of}
use Rattle.spec_protocol.specs.promises.Promises.{IsSetup}
use Rattle.spec_sphere.specs.promises.Sound.{IsImage}
use Rattle.spec_protocol.specs.promises.Sound.{IsWithinLimits}
use Rattle.dl_sphere.specs.declared.setup.SphereSetup.{SphereSetup}
use Rattle.dl_sphere.specs.Setups.{setup_of}
use Rattle.dl_machine.specs.declared.setup.Setup.{Setup}
use Rattle.dl_machine.specs.Setups.{IsWithin, setup_in}

image_at : (s : ℕ) (xs : List SphereSetup) → All (λ x. IsImage s (setup_of x)) xs → (i : ℕ) (image : sphere.SphereSetup) → slice_get (map setup_of xs) i ≡ Some image → IsImage s image
image_at s [] all zero image e = cc
image_at s [] all (suc i) image e = cc
image_at s (x ∷ xs) all zero image e = subst (IsImage s) (same_Some _ _ e) (all 0 x (omega arith))
image_at s (x ∷ xs) all (suc i) image e = image_at s xs (λ k d l. all (suc k) d (omega arith)) i image e

-- a machine's setup is within the protocol's limits
pub limits_within : (s : Setup) → IsWithin s → All (λ x. IsImage s.s (setup_of x)) s.spheres → All (λ byte. byte < 2 ^ 8) s.input → IsWithinLimits (setup_in s)
limits_within s within images input =
    record {
      cores = within.cores;
      window = within.window;
      few = let n : length (map setup_of s.spheres) ≡ length s.spheres = grind (arith, common_steps) in let f = within.few in (omega arith, omega arith);
      chunk = within.chunk;
      depth = within.depth;
      most_depth = within.most_depth;
      buffer = within.least;
      most_buffer = within.most;
      signature = within.signature;
      input = input;
      images = image_at s.s s.spheres images;
    }

-- a setup within the limits is a setup
pub setup_within : (s : protocol.Setup) → IsWithinLimits s → IsSetup s
setup_within s limits = record { chunk = let c = limits.chunk in omega arith; buffer = let b = limits.buffer in omega arith }
