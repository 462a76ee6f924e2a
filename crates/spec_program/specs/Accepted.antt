-- The tails that a run writes: each is read again as what was recorded, and `tail` says of it what the run said of its sphere.
use Rattle.std.specs.Prelude.{◌≡◌, ℕ, false, List, Some, Ok}
use Rattle.std.specs.FinMap.{get}
use Rattle.std.specs.List.{AllByRecursion}
use Rattle.dl_files.specs.Contents.{Contents}
use Rattle.dl_plan.specs.declared.Product.{Product}
use Rattle.dl_plan.specs.Files.{OutputValues, outputs_of}
use Rattle.dl_plan.specs.Values.{PlanValues}
use Rattle.spec_protocol.specs.declared.event.Event.{Event}
use Rattle.spec_sphere.specs.sphere.Setups.{EpochSetup, RecordSetup, IsRecorded}
use Rattle.spec_protocol.specs.machine.Machine.{Setup}
use Rattle.spec_protocol.specs.promises.Sound.{image_at}
use Rattle.spec_run.specs.Tails.{tail_of_points}
use Rattle.spec_tail.specs.Reading.{read_of}
use Rattle.spec_program.specs.Outcomes.{said}
use Rattle.spec_program.specs.Runs.{product_for}
use Rattle.spec_program.specs.Tasks.{Task, setup_in}
use Rattle.spec_program.specs.commands.Tail as tail

-- what a run makes for a file is read as a tail, if it is the log of a sphere that is recorded in epochs: as the state after the
-- base and the log from there on
abbrev pub IsReadAgain : Setup → (schedule : List Event) → Product → Type 0
IsReadAgain s es (Product.Log i) =
    (asked : RecordSetup) (x : EpochSetup)
    → (image_at s i).role ≡ IsRecorded asked
    → asked.epochs ≡ Some x
    → read_of (product_for s es (Product.Log i)) ≡ Ok (tail_of_points s es i asked x)
IsReadAgain s es (Product.Account i) = Unit {0}
IsReadAgain s es Product.Console = Unit {0}
IsReadAgain s es Product.Report = Unit {0}

-- each file that the plan has written
abbrev pub AreReadAgain : PlanValues → Setup → (schedule : List Event) → Type 0
AreReadAgain p s es = AllByRecursion (λ (o : OutputValues). IsReadAgain s es o.product) (outputs_of p)

-- wherever the bytes of such a tail are, `tail` says the account that the run made for its sphere, and that it is complete
abbrev pub IsAccepted : Task → Product → Type 0
IsAccepted t (Product.Log i) =
    (asked : RecordSetup) (x : EpochSetup) (m : Contents) (name : List ℕ)
    → (image_at (setup_in t) i).role ≡ IsRecorded asked
    → asked.epochs ≡ Some x
    → get m name ≡ Some (product_for (setup_in t) t.events (Product.Log i))
    → tail.outcome m name ≡ Ok (said (product_for (setup_in t) t.events (Product.Account i)) false)
IsAccepted t (Product.Account i) = Unit {0}
IsAccepted t Product.Console = Unit {0}
IsAccepted t Product.Report = Unit {0}

abbrev pub AreAccepted : Task → Type 0
AreAccepted t = AllByRecursion (λ (o : OutputValues). IsAccepted t o.product) (outputs_of t.plan)
