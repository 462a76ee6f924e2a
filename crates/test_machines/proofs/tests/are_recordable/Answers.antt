use Rattle.std.proofs.Common.{◌≡◌, subst, sym, take, arith}
use Rattle.std.proofs.lemmas.Grind.{common_steps}
use Rattle.std.proofs.lemmas.List.Elements.{All-map, All-more, All-same}
use Rattle.dl_sphere.specs.declared.setup.SphereSetup.{SphereSetup}
use Rattle.dl_sphere.specs.Setups.{IsRecordableIf, role_setup, setup_of}
use Rattle.test_machines.proofs.tests.are_recordable.Goals as goal

pub loop-sphere-preserved : goal.loop-sphere-preserved
loop-sphere-preserved c =
    let is : SphereSetup → Type 0 = λ sphere. IsRecordableIf c.args.s (role_setup sphere.role) in
    All-more is c.args.spheres.now c.loop-sphere.sphere-index c.sphere-item.result c.loop-sphere-test.true c.loop-sphere.invariant
    (subst is c.sphere-item.is (c.is_recordable.ensures c.if-not-is_recordable.false))

pub returns : goal.returns
returns c =
    let is : SphereSetup → Type 0 = λ sphere. IsRecordableIf c.args.s (role_setup sphere.role) in
    let whole : take c.loop-sphere.sphere-index c.args.spheres.now ≡ c.args.spheres.now = grind (arith, common_steps) in
    λ _. All-map (λ image. IsRecordableIf c.args.s image.role) setup_of c.args.spheres.now
    (All-same is c.args.spheres.now _ (sym whole) c.loop-sphere.invariant)
