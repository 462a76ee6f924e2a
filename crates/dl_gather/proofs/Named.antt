-- The names of a plan's inputs are those that are read for its parts.
use Rattle.std.proofs.Common.{◌≡◌, ℕ, suc, List, [], ◌∷◌, ◌++◌, map, flat_map, Option, Some, None, option_to_list, Result, refl, ap, sym, subst, ◌∙◌}
use Rattle.std.proofs.lemmas.List.{map-append}
use Rattle.dl_files.specs.Contents.{Contents}
use Rattle.dl_files.specs.Seen.{Seen}
use Rattle.dl_plan.specs.declared.Source.{Source}
use Rattle.dl_plan.specs.Files.{InputValues, from, script_read, log_read, read_by, read_from, input_names}
use Rattle.dl_plan.specs.Values.{ScheduleValues, Script, Seeded, RoleValues, Plain, Record, Replay, InStrata, SphereValues, PlanValues}
use Rattle.dl_gather.specs.declared.halt.Halt.{Halt}
use Rattle.dl_gather.specs.Halts.{Unread}
use Rattle.dl_gather.specs.Reads.{read_for_schedule, read_for_role, read_for_sphere}

abbrev names : List InputValues → List (List ℕ)
names inputs = map (λ (i : InputValues). i.name) inputs

both : (first second : List InputValues) → {a b : List (List ℕ)} → names first ≡ a → names second ≡ b → names (first ++ second) ≡ a ++ b
both first second {a} {b} e f =
    map-append (λ (i : InputValues). i.name) first second ∙ (ap (λ (ns : List (List ℕ)). ns ++ names second) e ∙ ap (λ (ns : List (List ℕ)). a ++ ns) f)

of_schedule : (s : ScheduleValues) → names (script_read s) ≡ read_for_schedule s
of_schedule (Script name) = refl
of_schedule (Seeded events) = refl

of_optional : (source : Source) (name : Option (List ℕ)) → names (from source name) ≡ option_to_list name
of_optional source None = refl
of_optional source (Some name) = refl

of_role : (i : ℕ) (role : RoleValues) → names (log_read i role) ≡ read_for_role role
of_role i Plain = refl
of_role i (Record values) = refl
of_role i (Replay values) = refl
of_role i (InStrata strata) = refl

of_sphere : (i : ℕ) (s : SphereValues) → names (read_by i s) ≡ read_for_sphere s
of_sphere i s = ap (λ (ns : List (List ℕ)). s.image ∷ ns) (of_role i s.role)

of_spheres : (i : ℕ) (ss : List SphereValues) → names (read_from i ss) ≡ flat_map read_for_sphere ss
of_spheres i [] = refl
of_spheres i (s ∷ ss) = both (read_by i s) (read_from (suc i) ss) (of_sphere i s) (of_spheres (suc i) ss)

-- the names of all inputs of a plan
abbrev pub named_by_parts : PlanValues → List (List ℕ)
named_by_parts p = read_for_schedule p.schedule ++ (option_to_list p.input ++ flat_map read_for_sphere p.spheres)

names_of : (p : PlanValues) → input_names p ≡ named_by_parts p
names_of p =
    both (script_read p.schedule) (from Source.Input p.input ++ read_from 0 p.spheres) (of_schedule p.schedule)
    (both (from Source.Input p.input) (read_from 0 p.spheres) (of_optional Source.Input p.input) (of_spheres 0 p.spheres))

-- what is unread of the parts is unread of the plan
pub unread_by_parts : {A : Type 0} (p : PlanValues) (read : Contents → Result A (List ℕ)) (old new : Seen) (h : Halt) → Unread (named_by_parts p) read old new h → Unread (input_names p) read old new h
unread_by_parts p read old new h = subst (λ (ns : List (List ℕ)). Unread ns read old new h) (sym (names_of p))
