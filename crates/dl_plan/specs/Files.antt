-- The files that a plan has read and written, in the order of the work.
use Rattle.std.specs.Prelude.{ℕ, suc, List, [], ◌∷◌, ◌++◌, map, Option, Some, None}
use Rattle.dl_plan.specs.declared.inputs.Source.{Source}
use Rattle.dl_plan.specs.declared.outputs.Product.{Product}
use Rattle.dl_plan.specs.Values.{ScheduleValues, Script, Seeded, RoleValues, Plain, Record, Replay, InStrata, SphereValues, PlanValues}

-- ---- those that are read

-- a name, and what the file of that name is read for
pub record InputValues : Type 0 where
  pub name : List ℕ
  pub source : Source

-- the file of that name is the source, where one is named
abbrev pub from : Source → Option (List ℕ) → List InputValues
from source None = []
from source (Some name) = record { name = name; source = source } ∷ []

-- the script, where the events come from one
abbrev pub script_read : ScheduleValues → List InputValues
script_read (Script name) = record { name = name; source = Source.Script } ∷ []
script_read (Seeded events) = []

-- the log or the strata, where the sphere of that number replays one
abbrev pub log_read : (sphere : ℕ) → RoleValues → List InputValues
log_read i Plain = []
log_read i (Record values) = []
log_read i (Replay values) = record { name = values.log; source = Source.Log i } ∷ []
log_read i (InStrata strata) = record { name = strata; source = Source.Strata i } ∷ []

-- of the sphere of that number, its image and then its log or its strata
abbrev pub read_by : (sphere : ℕ) → SphereValues → List InputValues
read_by i s = record { name = s.image; source = Source.Image i } ∷ log_read i s.role

-- of the spheres from that number on
abbrev pub read_from : (sphere : ℕ) → List SphereValues → List InputValues
read_from i [] = []
read_from i (s ∷ ss) = read_by i s ++ read_from (suc i) ss

-- the files that a plan has read: the script, the input, and those of each sphere
abbrev pub inputs_of : PlanValues → List InputValues
inputs_of p = script_read p.schedule ++ (from Source.Input p.input ++ read_from 0 p.spheres)

-- their names
abbrev pub input_names : PlanValues → List (List ℕ)
input_names p = map (λ i. i.name) (inputs_of p)

-- all names that are read, the plan's own first
abbrev pub read_names : (name : List ℕ) → PlanValues → List (List ℕ)
read_names name p = name ∷ input_names p

-- ---- those that are written

-- a name, and what the file of that name takes
pub record OutputValues : Type 0 where
  pub name : List ℕ
  pub product : Product

-- the product goes into the file of that name, where one is named
abbrev pub into : Product → Option (List ℕ) → List OutputValues
into product None = []
into product (Some name) = record { name = name; product = product } ∷ []

-- the log, where the sphere of that number is recorded
abbrev pub log_written : (sphere : ℕ) → RoleValues → List OutputValues
log_written i Plain = []
log_written i (Record values) = record { name = values.log; product = Product.Log i } ∷ []
log_written i (Replay values) = []
log_written i (InStrata strata) = []

-- of the sphere of that number, its log and then its account
abbrev pub written_by : (sphere : ℕ) → SphereValues → List OutputValues
written_by i s = log_written i s.role ++ into (Product.Account i) s.account

-- of the spheres from that number on
abbrev pub written_from : (sphere : ℕ) → List SphereValues → List OutputValues
written_from i [] = []
written_from i (s ∷ ss) = written_by i s ++ written_from (suc i) ss

-- the files that a plan has written: those of each sphere, the console and the report
abbrev pub outputs_of : PlanValues → List OutputValues
outputs_of p = written_from 0 p.spheres ++ (into Product.Console p.console ++ into Product.Report p.report)

-- their names
abbrev pub written_names : PlanValues → List (List ℕ)
written_names p = map (λ o. o.name) (outputs_of p)
