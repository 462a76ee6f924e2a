use Rattle.std.proofs.Common.{◌∙◌, List, [], ◌∷◌, ◌++◌, All, length, map, ap, subst, sym}
use Rattle.dl_elf.specs.Images.{Image}
use Rattle.dl_sphere.specs.declared.setup.SphereSetup.{SphereSetup}
use Rattle.dl_sphere.specs.Setups.{HasBegun, role_setup, setup_of}
use Rattle.dl_sphere.proofs.Standing.Start.{unless_begun}
use Rattle.dl_drill.proofs.Recording.{one_begun}
use Rattle.spec_sphere.specs.sphere.Setups as protocol
use Rattle.dl_drill.proofs.setup.one_sphere.Goals as goal

pub returns-clause-value : goal.returns-clause-value
returns-clause-value c =
    let made : SphereSetup = record { image = c.in_ok-image.image; role = c.args.role } in
    ap (map setup_of) (c.in_ok-push.ensures.ok ∙ ap (λ (xs : List SphereSetup). xs ++ made ∷ []) c.new-spheres.ensures)
    ∙ ap (λ (i : Image). let s : protocol.SphereSetup = record { memory = i.bytes; entry = i.entry; role = role_setup c.args.role } in s ∷ []) c.in_ok-image.ensures

pub returns-clause-count : goal.returns-clause-count
returns-clause-count c =
    let made : SphereSetup = record { image = c.in_ok-image.image; role = c.args.role } in
    ap length (c.in_ok-push.ensures.ok ∙ ap (λ (xs : List SphereSetup). xs ++ made ∷ []) c.new-spheres.ensures)

pub returns-clause-begun : goal.returns-clause-begun
returns-clause-begun c =
    let made : SphereSetup = record { image = c.in_ok-image.image; role = c.args.role } in
    subst (All HasBegun) (sym (c.in_ok-push.ensures.ok ∙ ap (λ (xs : List SphereSetup). xs ++ made ∷ []) c.new-spheres.ensures))
    (one_begun made (unless_begun (setup_of made) c.args.role c.requires.begun c.requires.strata))
