-- What a command may come to writes its own names alone.
use Rattle.std.proofs.Common.{◌≡◌, ℕ, Bool, true, false, if◌then◌else◌, List, [], ◌∷◌, map, Contains, Option, Some, None, Result, Ok, Err, refl, sym, ap, subst, ◌∙◌, arith}
use Rattle.dl_files.specs.Contents.{Contents}
use Rattle.dl_plan.specs.declared.Product.{Product}
use Rattle.dl_plan.specs.Files.{OutputValues, outputs_of, written_names}
use Rattle.dl_plan.specs.Values.{PlanValues}
use Rattle.dl_words.specs.Commands.{CommandValues, Run, Inspect, Walk, Query, Interval, Tail, Make, Drill, Asm, Migrate, Strata}
use Rattle.spec_run.specs.Runs.{has_diverged}
use Rattle.spec_query.specs.Texts.{end_text}
use Rattle.spec_program.specs.commands.Asm as asm
use Rattle.spec_program.specs.commands.Strata as strata
use Rattle.spec_program.specs.commands.Walk as walk
use Rattle.spec_program.specs.Outcomes.{Finish, Outcome, filed, said}
use Rattle.spec_program.specs.Sources.{assembled}
use Rattle.spec_program.specs.Stages.{Refused, ◌>>◌}
use Rattle.spec_program.specs.Tasks.{plan_at}
use Rattle.spec_program.specs.Writes.{Write, filled}
use Rattle.dl_gather.specs.Names.{MayHold, IsNamed}
use Rattle.dl_gather.proofs.Names.{holds_always, may_hold}
use Rattle.dl_commands.specs.Untold.{IsSomeRun, MayFinish, MayFinishIf, names_in, outputs_for, outputs_in, outputs_of_command}

-- ---- runs

filled_names : (made : Product → List ℕ) (in_pieces : Product → Bool) (os : List OutputValues) → map (λ (w : Write). w.name) (map (filled made in_pieces) os) ≡ map (λ (o : OutputValues). o.name) os
filled_names made in_pieces [] = refl
filled_names made in_pieces (o ∷ os) = ap (λ (ns : List (List ℕ)). o.name ∷ ns) (filled_names made in_pieces os)

abbrev names_if : Outcome → List (List ℕ)
names_if (Err refused) = []
names_if (Ok f) = names_in f

run_names : (p : PlanValues) (f : Finish) → IsSomeRun p f → names_in f ≡ written_names p
run_names p f run = sym (ap names_if run.does) ∙ filled_names _ _ (outputs_of p)

run_own : (known : Option Contents) (plan : List ℕ) (p : PlanValues) (name : List ℕ) → MayHold known (λ m. plan_at m plan ≡ Ok p) → Contains (written_names p) name → IsNamed known (λ m. outputs_in (plan_at m plan)) name
run_own known plan p name planned is =
    may_hold known (λ m. plan_at m plan ≡ Ok p) (λ m. Contains (outputs_in (plan_at m plan)) name)
    (λ m at. subst (λ (r : Result PlanValues Refused). Contains (outputs_in r) name) (sym at) is) planned

-- ---- the others

none : {A : Type 0} (f : Finish) (name : List ℕ) → names_in f ≡ [] → Contains (names_in f) name → A
none f name e is = let at = subst (λ (ns : List (List ℕ)). Contains ns name) e is in absurd (omega (arith, at.1))

one : (known : Option Contents) (f : Finish) (name only : List ℕ) → names_in f ≡ only ∷ [] → Contains (names_in f) name → IsNamed known (λ _. only ∷ []) name
one known f name only e is = holds_always known (λ _. Contains (only ∷ []) name) (λ _. subst (λ (ns : List (List ℕ)). Contains ns name) e is)

assembled_names : (name : List ℕ) (file : Result (List ℕ) Refused) (f : Finish) → (file >> λ bytes. Ok (asm.finish name bytes)) ≡ Ok f → names_in f ≡ name ∷ []
assembled_names name (Err refused) f e = absurd cc
assembled_names name (Ok bytes) f e = sym (ap names_if e)

cut_names : (known : Option Contents) (f : Finish) (name only text other bytes : List ℕ) (diverged : Bool) → f ≡ (if diverged then said text true else filed only bytes other) → Contains (names_in f) name
    → IsNamed known (λ _. only ∷ []) name
cut_names known f name only text other bytes true e is = none f name (ap names_in e) is
cut_names known f name only text other bytes false e is = one known f name only (ap names_in e) is

-- ----

own_names : (known : Option Contents) (command : CommandValues) (f : Finish) → MayFinish known command f → (name : List ℕ) → Contains (names_in f) name → IsNamed known (λ m. outputs_for m command) name
own_names known (Run plan) f (p, planned, run) name is = run_own known plan p name planned (subst (λ (ns : List (List ℕ)). Contains ns name) (run_names p f run) is)
own_names known (Inspect log) f (_, e) name is = none f name (ap names_in e) is
own_names known (Walk playback) f (_, e) name is = none f name (ap names_in e) is
own_names known (Query asked) f (_, e) name is = none f name (ap names_in e) is
own_names known (Interval asked) f (_, e) name is = none f name (ap names_in e) is
own_names known (Tail tail) f (_, e) name is = none f name (ap names_in e) is
own_names known (Make number only) f e name is = one known f name only (ap names_in e) is
own_names known (Drill number) f e name is = none f name (ap names_in e) is
own_names known (Asm source only) f (bytes, e) name is = one known f name only (assembled_names only (assembled bytes) f e) is
own_names known (Migrate log only) f (_, e) name is = one known f name only (ap names_in e) is
own_names known (Strata playback only) f (read, e) name is =
    cut_names known f name only (end_text (walk.end read)) (strata.text read) (strata.bytes read) (has_diverged (walk.end read)) e is

-- of what the words may come to
pub own_if : (known : Option Contents) (command : Option CommandValues) (f : Finish) → MayFinishIf known command f → (name : List ℕ) → Contains (names_in f) name → IsNamed known (λ m. outputs_of_command m command) name
own_if known None f may name is = absurd may
own_if known (Some command) f may name is = own_names known command f may name is
