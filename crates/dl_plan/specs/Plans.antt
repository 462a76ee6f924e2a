-- Which bytes are a plan, and what it asks for; and of any others, the first rule that the whole of them breaks.
use Rattle.std.specs.Prelude.{ℕ, nat_le, Bool, true, ◌&&◌, List, Option, Some, None, if◌then◌else◌, Result, Ok, Err, ok_or}
use Rattle.std.specs.List.{list_all}
use Rattle.std.specs.Str.{is_utf8}
use Rattle.toml.specs.Data.{Members}
use Rattle.toml.specs.Parse.{parse_document}
use Rattle.dl_plan.specs.declared.plan.Sizes.{Sizes}
use Rattle.dl_plan.specs.Entries.{has_known_keys, TopEntries, SphereEntries, Entries, entries_of}
use Rattle.dl_plan.specs.Files.{written_names, read_names}
use Rattle.dl_plan.specs.Limits.{memory_of, longest_chunk}
use Rattle.dl_plan.specs.Names.{none_is_empty, all_differ, none_is_one_of}
use Rattle.dl_plan.specs.Optional.{◌>>=◌, ◌>>◌, each_of}
use Rattle.dl_plan.specs.Roles.{role_of, has_good_interval, has_good_epochs}
use Rattle.dl_plan.specs.Sizes.{sizes_in, events_in}
use Rattle.dl_plan.specs.Values.{ScheduleValues, Script, Seeded, RoleValues, Plain, Record, Replay, InStrata, SphereValues, PlanValues}

-- ---- rule 1: a TOML document

abbrev pub document : List ℕ → Option Members
document bytes = if is_utf8 bytes then parse_document bytes else None

-- ---- rule 5: a number of events or a script, and not both

abbrev pub schedule_of : (events : Option ℕ) → (script : Option (List ℕ)) → Option ScheduleValues
schedule_of (Some events) None = Some (Seeded events)
schedule_of None (Some script) = Some (Script script)
schedule_of _ _ = None

-- ---- rules 4 and 6, of one sphere

abbrev pub sphere_asked : SphereEntries → Option SphereValues
sphere_asked s =
    role_of s >>= λ role.
    memory_of s.memory >>= λ memory.
    Some (record { image = s.image; memory = memory; role = role; account = s.account })

-- ---- rule 7: no name is empty, no two written names are equal, and none of them is read

abbrev pub has_good_names : (name : List ℕ) → PlanValues → Bool
has_good_names name p =
    let written = written_names p in
    let read = read_names name p in
    none_is_empty written && none_is_empty read && all_differ written && none_is_one_of read written

-- ---- rule 8: no chunk is longer than the log of a recorded sphere can have it

abbrev pub can_have : (chunk : ℕ) → RoleValues → Bool
can_have chunk Plain = true
can_have chunk (Record values) = nat_le chunk (longest_chunk values.version)
can_have chunk (Replay values) = true
can_have chunk (InStrata strata) = true

abbrev pub has_good_chunk : PlanValues → Bool
has_good_chunk p = list_all (λ (s : SphereValues). can_have p.sizes.chunk s.role) p.spheres

-- ---- the rules in their order

-- rules 2 and 3
abbrev pub entries_in : Members → Result Entries ℕ
entries_in ms = if has_known_keys ms then ok_or (entries_of ms) 3 else Err 2

abbrev pub values_of : TopEntries → Sizes → ScheduleValues → List SphereValues → PlanValues
values_of top sizes schedule spheres = record {
  sizes = sizes;
  schedule = schedule;
  input = top.input;
  console = top.console;
  report = top.report;
  spheres = spheres;
}

-- rules 4, 5 and 6
abbrev pub values_in : Entries → Result PlanValues ℕ
values_in e =
    ok_or (sizes_in e) 4 >> λ sizes.
    ok_or (events_in e.top) 4 >> λ events.
    ok_or (schedule_of events e.top.script) 5 >> λ schedule.
    ok_or (each_of sphere_asked e.spheres) 6 >> λ spheres.
    Ok (values_of e.top sizes schedule spheres)

-- rule 7
abbrev pub named_well : (name : List ℕ) → PlanValues → Result PlanValues ℕ
named_well name p = if has_good_names name p then Ok p else Err 7

-- rule 8
abbrev pub cut_well : PlanValues → Result PlanValues ℕ
cut_well p = if has_good_chunk p then Ok p else Err 8

-- rule 9
abbrev pub bounded_well : List SphereEntries → PlanValues → Result PlanValues ℕ
bounded_well spheres p = if list_all has_good_interval spheres then Ok p else Err 9

-- rule 10
abbrev pub parted_well : List SphereEntries → PlanValues → Result PlanValues ℕ
parted_well spheres p = if list_all has_good_epochs spheres then Ok p else Err 10

-- rules 4 to 10, all of the same entries
abbrev pub plan_in : (name : List ℕ) → Entries → Result PlanValues ℕ
plan_in name e = values_in e >> named_well name >> cut_well >> bounded_well e.spheres >> parted_well e.spheres

-- the plan in the bytes of the file `name`, or the first rule that they break
unfoldable pub plan_of : (name bytes : List ℕ) → Result PlanValues ℕ
plan_of name bytes = ok_or (document bytes) 1 >> entries_in >> plan_in name
