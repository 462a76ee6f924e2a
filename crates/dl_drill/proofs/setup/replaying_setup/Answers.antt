use Rattle.std.proofs.Common.{◌∙◌, List, [], ◌∷◌, All, sym, subst, ap, refl, rules, arith}
use Rattle.spec_log.specs.declared.LogParts.{LogParts}
use Rattle.spec_sphere.specs.sphere.Setups.{IsReplayed, SphereSetup, all_of}
use Rattle.spec_program.specs.Drills.{drill_sphere}
use Rattle.dl_sphere.specs.Setups.{IsRecordableIf}
use Rattle.dl_drill.proofs.Recording.{one_recordable}
use Rattle.dl_drill.proofs.setup.replaying_setup.Goals as goal

pub returns-clause-value : goal.returns-clause-value
returns-clause-value c = λ i. record { cores = 1; window = 1; numbers = record { s = 64; capacity = 1; bits = 64; depth = 1 }; seed = 0; input = c.new.ensures i; spheres = (c.in_ok-spheres.ensures.value ∙ ap (λ (log : LogParts). drill_sphere c.args.number (IsReplayed (all_of log)) ∷ []) c.requires) i }

pub returns-clause-within : goal.returns-clause-within
returns-clause-within c =
    record {
      cores = (omega arith, omega arith);
      window = (omega arith, omega arith);
      few = (omega (arith, c.in_ok-spheres.ensures.count), omega (arith, c.in_ok-spheres.ensures.count));
      chunk = search rules;
      least = omega arith;
      most = omega arith;
      signature = refl;
      depth = omega arith;
      most_depth = omega arith;
      recorded = subst (λ (xs : List SphereSetup). All (λ image. IsRecordableIf 64 image.role) xs) (sym c.in_ok-spheres.ensures.value) (one_recordable 64 _ tt);
      begun = c.in_ok-spheres.ensures.begun;
    }
