use Rattle.std.proofs.Common.{List, All, inl, sym, subst, refl, rules, arith}
use Rattle.spec_sphere.specs.sphere.Setups.{SphereSetup}
use Rattle.dl_sphere.specs.Setups.{IsRecordableIf}
use Rattle.dl_drill.proofs.Recording.{one_recordable}
use Rattle.dl_drill.proofs.setup.recording_setup.Goals as goal

pub returns-clause-value : goal.returns-clause-value
returns-clause-value c = λ i. record { cores = 4; window = 2; numbers = record { s = 64; capacity = 8; bits = 128; depth = 1 }; seed = c.from.ensures i; input = c.new.ensures i; spheres = c.in_ok-spheres.ensures.value i }

pub returns-clause-within : goal.returns-clause-within
returns-clause-within c =
    record {
      cores = (omega arith, omega arith);
      window = (omega arith, omega arith);
      few = (omega (arith, c.in_ok-spheres.ensures.count), omega (arith, c.in_ok-spheres.ensures.count));
      chunk = search rules;
      least = omega arith;
      most = omega arith;
      signature = refl;
      depth = omega arith;
      most_depth = omega arith;
      recorded =
          subst (λ (xs : List SphereSetup). All (λ image. IsRecordableIf 64 image.role) xs) (sym c.in_ok-spheres.ensures.value)
          (one_recordable 64 _ (inl (refl, refl), (omega arith, omega arith), tt));
      begun = c.in_ok-spheres.ensures.begun;
    }
