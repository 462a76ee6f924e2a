-- The products of a run.
use Rattle.std.specs.Prelude.{◌<◌, ℕ, ⊤, List}
use Rattle.std.specs.List.{AllByRecursion}
use Rattle.dl_plan.specs.declared.Product.{Product}
use Rattle.dl_plan.specs.Files.{OutputValues}
use Rattle.spec_protocol.specs.declared.event.Event.{Event}
use Rattle.spec_protocol.specs.machine.Machine.{Setup}
use Rattle.spec_program.specs.Accepted.{IsReadAgain}

-- a product is that of one of so many spheres, or of all
abbrev pub IsProduct : (spheres : ℕ) → Product → Type 0
IsProduct n (Product.Log sphere) = sphere < n
IsProduct n (Product.Account sphere) = sphere < n
IsProduct n Product.Console = ⊤
IsProduct n Product.Report = ⊤

abbrev pub AreProducts : (spheres : ℕ) → List OutputValues → Type 0
AreProducts n outputs = AllByRecursion (λ (o : OutputValues). IsProduct n o.product) outputs

-- the tails among these are read again
abbrev pub AreReadOf : Setup → (schedule : List Event) → List OutputValues → Type 0
AreReadOf s es outputs = AllByRecursion (λ (o : OutputValues). IsReadAgain s es o.product) outputs
