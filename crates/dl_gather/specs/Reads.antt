-- The names that are read for each part of a plan, in the order of the work.
use Rattle.std.specs.Prelude.{ℕ, List, [], ◌∷◌}
use Rattle.dl_plan.specs.Values.{ScheduleValues, Script, Seeded, RoleValues, Plain, Record, Replay, InStrata, SphereValues}

-- the script, where the events come from one
abbrev pub read_for_schedule : ScheduleValues → List (List ℕ)
read_for_schedule (Script name) = name ∷ []
read_for_schedule (Seeded events) = []

-- the log or the strata, where they are replayed
abbrev pub read_for_role : RoleValues → List (List ℕ)
read_for_role Plain = []
read_for_role (Record values) = []
read_for_role (Replay values) = values.log ∷ []
read_for_role (InStrata strata) = strata ∷ []

-- of a sphere, its image and then its log or strata
abbrev pub read_for_sphere : SphereValues → List (List ℕ)
read_for_sphere s = s.image ∷ read_for_role s.role
