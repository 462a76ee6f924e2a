-- An epoch that begins, and one that is given up, leave a world that is alike.
use Rattle.std.proofs.Common.{◌≡◌, ℕ, suc, ◌-◌, List, [], ◌∷◌, map, Option, refl}
use Rattle.std.specs.Prelude.{All}
use Rattle.std.proofs.lemmas.List.Elements.{All-head, All-tail}
use Rattle.spec_isa.specs.Words.{lays}
use Rattle.spec_engine.specs.Flights.{Flight}
use Rattle.spec_sphere.specs.sphere.Spheres.{Sphere}
use Rattle.spec_protocol.specs.machine.World.{World}
use Rattle.spec_engine.specs.Flying.{flying}
use Rattle.spec_protocol.specs.machine.Epochs.{begun_from, epochs_begun}
use Rattle.spec_sphere.specs.promises.Alike.{forgotten}
use Rattle.spec_protocol.specs.promises.Alike.{AreAlike, HaveAllBegun}
use Rattle.spec_sphere.proofs.Alike.Beginning.{epoch-alike, HasBegun}

rows_alike : (slots : List (Option Flight)) (i : ℕ) (ps : List Sphere) → All HasBegun ps → map forgotten (begun_from slots i ps) ≡ map forgotten ps
rows_alike slots i [] h = refl
rows_alike slots i (p ∷ ps) h =
    let a = epoch-alike (lays p.memory (flying i slots)) p (All-head HasBegun p ps h) in
    let b = rows_alike slots (suc i) ps (All-tail HasBegun p ps h) in
    (λ j. a j ∷ b j)

-- epochs that begin leave a world that is alike
pub begun-alike : (w : World) → HaveAllBegun w → AreAlike (epochs_begun w) w
unfolding epochs_begun
begun-alike w h = (λ j. record w { spheres = rows_alike w.slots 0 w.spheres h j })
