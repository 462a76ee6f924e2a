use Rattle.std.proofs.Common.{◌≡◌, List, [], ◌∷◌, ◌++◌, All, map, inl, refl, sym, subst, arith}
use Rattle.std.proofs.lemmas.List.{map-append}
use Rattle.std.proofs.lemmas.List.Elements.{All-push}
use Rattle.spec_sphere.specs.sphere.Setups as protocol
use Rattle.dl_sphere.specs.declared.setup.SphereSetup.{SphereSetup}
use Rattle.dl_sphere.specs.Setups.{HasBegun, IsRecordableIf, role_setup, setup_of}
use Rattle.bench_machine.proofs.machines.machine_of.Goals as goal

abbrev is_recordable : protocol.SphereSetup → Type 0
is_recordable image = IsRecordableIf 101 image.role

pushed : (xs ys : List SphereSetup) (x : SphereSetup) → ys ≡ xs ++ x ∷ [] → IsRecordableIf 101 (role_setup x.role) →
    All is_recordable (map setup_of xs) → All is_recordable (map setup_of ys)
pushed xs ys x more is all =
    subst (λ (zs : List SphereSetup). All is_recordable (map setup_of zs)) (sym more)
    (subst (λ (zs : List protocol.SphereSetup). All is_recordable zs) (sym (map-append setup_of xs (x ∷ [])))
    (All-push is_recordable (map setup_of xs) (setup_of x) all is))

begun-more : (xs ys : List SphereSetup) (x : SphereSetup) → ys ≡ xs ++ x ∷ [] → HasBegun x → All HasBegun xs → All HasBegun ys
begun-more xs ys x more is all = subst (All HasBegun) (sym more) (All-push HasBegun xs x all is)

pub loop-preserved : goal.loop-preserved
loop-preserved c =
    record {
      recorded = pushed c.loop.spheres _ _ c.in_ok-push.ensures.ok (inl (refl, refl), (omega arith, omega arith), tt) c.loop.invariant.recorded;
      begun = begun-more c.loop.spheres _ _ c.in_ok-push.ensures.ok tt c.loop.invariant.begun;
    }
