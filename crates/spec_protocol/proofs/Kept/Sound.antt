-- What is sound of a world that keeps the end of its recordings.
use Rattle.std.proofs.Common.{◌≡◌, ℕ, zero, suc, ◌+◌, ◌*◌, ◌<◌, ◌≤◌, Bool, true, false, List, [], ◌∷◌, length, map, Option, Some, None, refl, sym, ap, ◌∙◌, subst, arith}
use Rattle.std.specs.Prelude.{slice_get}
use Rattle.std.proofs.lemmas.List.{length-map}
use Rattle.std.proofs.lemmas.Option.{slice_get_within}
use Rattle.spec_isa.specs.declared.thread.Parts.{Parts}
use Rattle.spec_log.specs.declared.LogParts.{LogParts}
use Rattle.spec_play.specs.Progress.{Progress, position}
use Rattle.spec_play.specs.Epochs.{Epochs}
use Rattle.spec_protocol.specs.declared.event.Event.{Event}
use Rattle.spec_sphere.specs.sphere.Spheres.{Recording, Role, Plain, Record, Replay, Sphere}
use Rattle.spec_protocol.specs.machine.World.{World, moment, sphere_at}
use Rattle.spec_sphere.specs.sphere.Setups.{SphereSetup}
use Rattle.spec_protocol.specs.machine.Machine.{Setup}
use Rattle.spec_sphere.specs.promises.Sound.{IsSoundSphere}
use Rattle.spec_protocol.specs.promises.Sound.{IsSound, image_at}
use Rattle.spec_sphere.specs.promises.Alike.{forgotten}
use Rattle.spec_protocol.specs.promises.Alike.{all_forgotten}
use Rattle.spec_sphere.proofs.Logs.Fresh.{fresh-none}
use Rattle.spec_protocol.proofs.Alike.Forgetting.{sphere-forgotten}

-- ---- what has forgotten

recorded_sound : (s : ℕ) (image : SphereSetup) (events : ℕ) (m : List ℕ) (ts : List Parts) (g : Progress) (log : LogParts) (o : Option Epochs) → let p : Sphere = record { memory = m; threads = ts; progress = g; role = Record (record { log = log; epochs = o }) } in IsSoundSphere s image events p → IsSoundSphere s image events (forgotten p)
recorded_sound s image events m ts g log None k = k
recorded_sound s image events m ts g log (Some x) k =
    let e : position g + 0 ≡ position g = omega arith in
    record {
      size = k.size;
      bytes = k.bytes;
      request = k.request;
      some = k.some;
      few = k.few;
      threads = λ j t is. let c = k.threads j t is in record { thread = c.thread; few = (let l = c.few in omega arith) };
      commits = omega arith;
      role = record { version = k.role.version; size = k.role.size; count = sym e; interrupts = fresh-none ts };
    }

sound_in : (s : ℕ) (image : SphereSetup) (events : ℕ) (m : List ℕ) (ts : List Parts) (g : Progress) (r : Role) → let p : Sphere = record { memory = m; threads = ts; progress = g; role = r } in IsSoundSphere s image events p → IsSoundSphere s image events (forgotten p)
sound_in s image events m ts g Plain k = k
sound_in s image events m ts g (Record r) k = recorded_sound s image events m ts g r.log r.epochs k
sound_in s image events m ts g (Replay b) k = k

-- a sound world is sound once it has forgotten
pub sound-forgotten : (s : Setup) (w : World) → IsSound s w → IsSound s (all_forgotten w)
sound-forgotten s w k =
    record {
      sizes = record { numbers = k.sizes.numbers; spheres = length-map w.spheres forgotten ∙ k.sizes.spheres; cores = k.sizes.cores; slots = k.sizes.slots };
      devices = k.devices;
      replies = k.replies;
      spheres = λ i l.
          let p = sphere_at w i in
          subst (IsSoundSphere s.numbers.s (image_at s i) (moment w)) (sym (sphere-forgotten w i))
          (sound_in s.numbers.s (image_at s i) (moment w) p.memory p.threads p.progress p.role (k.spheres i (let e = length-map w.spheres forgotten in omega (arith, l, e))));
      flights = k.flights;
      held = k.held;
      younger = k.younger;
    }
