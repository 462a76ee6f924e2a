-- A tail that is read again is accepted, and its account is that of its sphere.
use Rattle.std.proofs.Common.{◌≡◌, ℕ, zero, suc, false, List, [], ◌∷◌, Option, Some, Result, Ok, ok_or, refl, sym, ap, ◌∙◌}
use Rattle.std.specs.Prelude.{slice_get, slice_index_or}
use Rattle.std.specs.FinMap.{get}
use Rattle.std.specs.List.{AllByRecursion}
use Rattle.dl_plan.specs.declared.Product.{Product}
use Rattle.dl_plan.specs.Files.{OutputValues, outputs_of}
use Rattle.spec_log.specs.declared.fault.Fault.{Fault}
use Rattle.spec_play.specs.Walks.{Walked}
use Rattle.spec_sphere.specs.promises.Sound.{no_image}
use Rattle.spec_sphere.specs.sphere.Setups.{EpochSetup, RecordSetup, RoleSetup, IsRecorded, SphereSetup}
use Rattle.spec_protocol.specs.machine.Logged.{sphere_in}
use Rattle.spec_protocol.specs.promises.Sound.{IsWithinLimits, image_at}
use Rattle.spec_run.specs.Runs.{executed, has_diverged}
use Rattle.spec_run.specs.Tails.{tail_of_points}
use Rattle.spec_run.specs.Texts.{account_as, account_text, recorded_account}
use Rattle.spec_run.proofs.Tails.{tails_are_played}
use Rattle.spec_tail.specs.Tails.{Tail}
use Rattle.spec_program.specs.Accepted.{IsAccepted, IsReadAgain, AreAccepted, AreReadAgain}
use Rattle.spec_program.specs.Built.{bad_log}
use Rattle.spec_program.specs.commands.Tail.{account_from, end_of, finish, outcome, tail_in}
use Rattle.spec_program.specs.Outcomes.{Finish, Outcome, said}
use Rattle.spec_program.specs.Stages.{Refused, refusing, ◌>>◌}
use Rattle.spec_program.specs.Tasks.{Task, absent, setup_in}

abbrev finished : Finish → Outcome
finished f = Ok f

-- a sphere that is recorded is there
recorded_there : (xs : List SphereSetup) (i : ℕ) (asked : RecordSetup) → (slice_index_or xs i no_image).role ≡ IsRecorded asked → slice_get xs i ≡ Some (slice_index_or xs i no_image)
recorded_there [] i asked is = absurd cc
recorded_there (x ∷ xs) zero asked is = refl
recorded_there (x ∷ xs) (suc i) asked is = recorded_there xs i asked is

one_accepted : (t : Task) (product : Product) → IsWithinLimits (setup_in t) → IsReadAgain (setup_in t) t.events product → IsAccepted t product
unfolding account_text
one_accepted t (Product.Account i) limits again = tt
one_accepted t Product.Console limits again = tt
one_accepted t Product.Report limits again = tt
one_accepted t (Product.Log i) limits again = λ asked x m name is some there.
    let s = setup_in t in
    let image : SphereSetup = image_at s i in
    let kept : Tail = tail_of_points s t.events i asked x in
    let p = sphere_in (executed s t.events) i in
    let played = tails_are_played s t.events i image asked x limits (record { there = recorded_there s.spheres i asked is; role = is; epochs = some }) in
    let account : account_text s t.events i ≡ recorded_account p (Some x) =
    ap (account_as image p) is ∙ ap (recorded_account p) some in
    ap (λ (o : Option (List ℕ)). (refusing absent (ok_or o name) >> tail_in) >> λ y. Ok (finish y)) there
    ∙ ap (λ (r : Result Tail Fault). refusing (bad_log 0) r >> λ y. Ok (finish y)) (again asked x is some)
    ∙ ap (λ (v : Walked). finished (said (account_from kept.base v) (has_diverged (end_of v.end)))) played.walked
    ∙ ap (λ (bytes : List ℕ). finished (said bytes false)) (sym account)

all_accepted : (t : Task) (outputs : List OutputValues) → IsWithinLimits (setup_in t) → AllByRecursion (λ (o : OutputValues). IsReadAgain (setup_in t) t.events o.product) outputs → AllByRecursion (λ (o : OutputValues). IsAccepted t o.product) outputs
all_accepted t [] limits again = tt
all_accepted t (o ∷ os) limits again = (one_accepted t o.product limits again.0, all_accepted t os limits again.1)

-- so are all that a task writes
pub tails_accepted : (t : Task) → IsWithinLimits (setup_in t) → AreReadAgain t.plan (setup_in t) t.events → AreAccepted t
tails_accepted t limits again = all_accepted t (outputs_of t.plan) limits again
