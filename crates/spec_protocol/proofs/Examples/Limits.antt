-- The limits can be met: by a setup with a sphere of each role.
use Rattle.std.proofs.Common.{◌≡◌, ℕ, zero, suc, inl, inr, [], ◌∷◌, length, replicate, None, Some, refl, sym, ap, subst, arith}
use Rattle.std.specs.Prelude.{slice_get, slice_index}
use Rattle.std.proofs.lemmas.Option.{none-some}
use Rattle.std.proofs.lemmas.List.{length-replicate}
use Rattle.spec_log.specs.declared.ModeName.{ModeName}
use Rattle.spec_log.specs.Log.{IsSection, IsLog}
use Rattle.spec_play.specs.Recording.{new_log}
use Rattle.spec_sphere.specs.sphere.Setups.{ReplaySetup, all_of, RoleSetup, IsPlain, IsRecorded, IsReplayed, SphereSetup}
use Rattle.spec_protocol.specs.machine.Machine.{Setup}
use Rattle.spec_sphere.specs.promises.Sound.{AreReplayableIf, IsRole, IsImage}
use Rattle.spec_protocol.specs.promises.Sound.{IsWithinLimits}

abbrev with_role : RoleSetup → SphereSetup
with_role role = record { memory = replicate 4096 0; entry = 0; role = role }

abbrev least : Setup
least =
    record {
      cores = 1;
      window = 1;
      numbers = record { s = 16; capacity = 1; bits = 64; depth = 1 };
      seed = 0;
      input = [];
      spheres = with_role IsPlain ∷ with_role (IsRecorded (record { version = 2; mode = ModeName.Picolog; epochs = None })) ∷ with_role (IsReplayed (all_of (new_log 1 ModeName.OrderSize 16))) ∷ [];
    }

zeros : (n i : ℕ) → slice_index (replicate n 0) i ≡ 0
zeros zero i = refl
zeros (suc n) zero = refl
zeros (suc n) (suc i) = zeros n i

none : {X : Type 0} (good : X → Type 0) (before : X → X → Type 0) → IsSection good before []
none good before = record { few = omega arith; each = λ k d l. absurd (omega (arith, l)); rising = λ k d l. absurd (omega (arith, l)) }

empty_log : IsLog (new_log 1 ModeName.OrderSize 16)
empty_log =
    record {
      version = inl (refl, refl);
      s = (omega arith, omega arith);
      count = omega arith;
      order = (refl, λ k d l. absurd (omega (arith, l)));
      sizes = (refl, λ k d l. absurd (omega (arith, l)));
      interrupts = none _ _;
      inputs = none _ _;
      dmas = none _ _;
    }

image : (role : RoleSetup) → IsRole 16 role → ((asked : ReplaySetup) → role ≡ IsReplayed asked → asked.strata ≡ None) → IsImage 16 (with_role role)
image role is order =
    let z : ℕ = 0 in
    let n : length (replicate 4096 z) ≡ 4096 = length-replicate 4096 z in
    record {
      least = omega (arith, n);
      most = omega (arith, n);
      pages = omega (arith, n);
      bytes = record { each = λ i. let e = zeros 4096 i in omega (arith, e) };
      aligned = refl;
      inside = omega (arith, n);
      role = is;
      strata = λ asked e. subst (AreReplayableIf (with_role role).memory (with_role role).entry asked) (sym (order asked e)) tt;
    }

image_is : (i : ℕ) (x : SphereSetup) → slice_get least.spheres i ≡ Some x → IsImage 16 x
image_is zero x e = subst (IsImage 16) (let q : with_role IsPlain ≡ x = cc in q) (image IsPlain tt (λ asked e. cc))
image_is (suc zero) x e =
    subst (IsImage 16) (let q : with_role (IsRecorded (record { version = 2; mode = ModeName.Picolog; epochs = None })) ≡ x = cc in q) (image (IsRecorded (record { version = 2; mode = ModeName.Picolog; epochs = None })) (inr (refl, inr refl), (omega arith, omega arith), tt) (λ asked e. cc))
image_is (suc (suc zero)) x e =
    let r = IsReplayed (all_of (new_log 1 ModeName.OrderSize 16)) in
    subst (IsImage 16) (let q : with_role r ≡ x = cc in q) (image r (empty_log, tt) (λ asked e. (let q : all_of (new_log 1 ModeName.OrderSize 16) ≡ asked = cc in ap (λ (x : ReplaySetup). x.strata) (sym q))))
image_is (suc (suc (suc i))) x e = absurd (none-some x e)

within_limits : IsWithinLimits least
within_limits =
    record {
      cores = (omega arith, omega arith);
      window = (omega arith, omega arith);
      few = (omega arith, omega arith);
      chunk = (omega arith, omega arith);
      depth = omega arith;
      most_depth = omega arith;
      buffer = omega arith;
      most_buffer = omega arith;
      signature = refl;
      input = λ k d l. absurd (omega (arith, l));
      images = image_is;
    }
