-- The machine of a task can be finished, whatever the files hold: each plan, and each log that was read, has its numbers, and
-- strata are parallel on their image.
use Rattle.std.proofs.Common.{◌≡◌, ℕ, zero, suc, ◌<◌, List, [], ◌∷◌, Some, Ok, Result, refl, ap, ◌∙◌, subst}
use Rattle.std.specs.Prelude.{slice_get}
use Rattle.std.proofs.lemmas.Option.{none-some, same_Some}
use Rattle.dl_elf.specs.Images.{Image}
use Rattle.dl_files.specs.Contents.{Contents}
use Rattle.dl_plan.specs.Values.{RoleValues, Plain, Record, Replay, InStrata, SphereValues, PlanValues}
use Rattle.spec_log.specs.Reading.{read_of}
use Rattle.spec_sphere.specs.sphere.Setups.{ReplaySetup, RoleSetup, IsReplayed, SphereSetup, in_strata}
use Rattle.spec_sphere.specs.promises.Sound.{AreReplayableIf}
use Rattle.spec_strata.specs.Checking.{StrataAnswer, Parallel, Unfit, Conflict, IsAnswer, answer_of}
use Rattle.spec_strata.specs.OnImages.{IsParallelOn}
use Rattle.spec_strata.specs.Reading as strata
use Rattle.spec_strata.specs.declared.strata.StrataParts.{StrataParts}
use Rattle.spec_strata.proofs.Images.Found.{answers_are_found}
use Rattle.spec_strata.proofs.Sized.{strata-sized, strata-some}
use Rattle.spec_finishing.specs.Ending.{CanFinish}
use Rattle.spec_program.specs.Built.{bad_log, bad_strata, replay_setup, role_in_strata, role_of, sphere_of, spheres_of}
use Rattle.spec_program.specs.Files.{RoleRead, PlainRead, RecordRead, ReplayRead, StrataRead, SphereRead, PlanRead, read_at, log_at, strata_at, schedule_read, input_read, role_read, sphere_read, spheres_read, plan_read}
use Rattle.spec_program.specs.Stages.{Refused, refusing}
use Rattle.spec_program.specs.Tasks.{Task, IsTask, setup_in}
use Rattle.spec_log.proofs.Sized.{log_sized}
use Rattle.spec_program.proofs.Made.{then_ok, not_refused, task_built}
use Rattle.spec_program.proofs.Sizing.{plan_sized}

same_role : (a b : RoleSetup) → ◌≡◌ {A = Result RoleSetup Refused} (Ok a) (Ok b) → a ≡ b
same_role a b e = cc

same_log : (a b : ReplaySetup) → IsReplayed a ≡ IsReplayed b → a ≡ b
same_log a b e = cc

same_Ok : {A E : Type 0} (a b : A) → ◌≡◌ {A = Result A E} (Ok a) (Ok b) → a ≡ b
same_Ok a b e = cc

-- ---- a log that is replayed is what a file's bytes say, and so are strata

abbrev IsOfBytes : RoleRead → Type 0
IsOfBytes PlainRead = Unit {0}
IsOfBytes (RecordRead inputs) = Unit {0}
IsOfBytes (ReplayRead inputs) = (bytes : List ℕ) × (read_of bytes ≡ inputs.log)
IsOfBytes (StrataRead read) = (bytes : List ℕ) × (strata.read_of bytes ≡ read)

abbrev AreOfBytes : List SphereRead → Type 0
AreOfBytes [] = Unit {0}
AreOfBytes (s ∷ ss) = IsOfBytes s.role × AreOfBytes ss

role_of_bytes : (m : Contents) (role : RoleValues) (r : RoleRead) → role_read m role ≡ Ok r → IsOfBytes r
role_of_bytes m Plain r e = subst IsOfBytes (same_Ok PlainRead r e) tt
role_of_bytes m (Record values) r e = subst IsOfBytes (same_Ok (RecordRead (record { version = values.version; mode = values.mode; epochs = values.epochs })) r e) tt
role_of_bytes m (Replay values) r e =
    let read = then_ok (log_at m values.log) _ r e in
    let file = then_ok (read_at m values.log) _ read.0 read.1 in
    subst IsOfBytes (same_Ok (ReplayRead (record { log = read.0; from = values.from; to = values.to })) r read.2) (file.0, same_Ok (read_of file.0) read.0 file.2)
role_of_bytes m (InStrata name) r e =
    let read = then_ok (strata_at m name) _ r e in
    let file = then_ok (read_at m name) _ read.0 read.1 in
    subst IsOfBytes (same_Ok (StrataRead read.0) r read.2) (file.0, same_Ok (strata.read_of file.0) read.0 file.2)

spheres_of_bytes : (m : Contents) (ss : List SphereValues) (rs : List SphereRead) → spheres_read m ss ≡ Ok rs → AreOfBytes rs
spheres_of_bytes m [] rs e = subst AreOfBytes (same_Ok [] rs e) tt
spheres_of_bytes m (s ∷ ss) rs e =
    let first = then_ok (sphere_read m s) _ rs e in
    let rest = then_ok (spheres_read m ss) _ rs first.2 in
    let image = then_ok (read_at m s.image) _ first.0 first.1 in
    let role = then_ok (role_read m s.role) _ first.0 image.2 in
    let made : SphereRead = record { image = image.0; memory = s.memory; role = role.0 } in
    let here = subst (λ (r : SphereRead). IsOfBytes r.role) (same_Ok made first.0 role.2) (role_of_bytes m s.role role.0 role.1) in
    subst AreOfBytes (same_Ok (first.0 ∷ rest.0) rs rest.2) (here, spheres_of_bytes m ss rest.0 rest.1)

plan_of_bytes : (m : Contents) (p : PlanValues) (r : PlanRead) → plan_read m p ≡ Ok r → AreOfBytes r.spheres
plan_of_bytes m p r e =
    let schedule = then_ok (schedule_read m p.schedule) _ r e in
    let input = then_ok (input_read m p.input) _ r schedule.2 in
    let spheres = then_ok (spheres_read m p.spheres) _ r input.2 in
    let made : PlanRead = record { schedule = schedule.0; input = input.0; spheres = spheres.0 } in
    subst (λ (x : PlanRead). AreOfBytes x.spheres) (same_Ok made r spheres.2) (spheres_of_bytes m p.spheres spheres.0 spheres.1)

-- ---- so it can be replayed

-- the standard size is over 0, and strata are parallel on the image
record CanBeReplayed (memory : List ℕ) (entry : ℕ) (asked : ReplaySetup) : Type 0 where
  standard : 0 < asked.log.s
  strata : AreReplayableIf memory entry asked asked.strata

parallel_is : (i : ℕ) (v : StrataParts) (memory : List ℕ) (entry : ℕ) (answer : StrataAnswer) (asked : ReplaySetup) → IsAnswer v memory entry answer → role_in_strata i v answer ≡ Ok (IsReplayed asked) → IsParallelOn v memory entry × (in_strata v ≡ asked)
parallel_is i v memory entry Parallel asked is e = (is, same_log (in_strata v) asked (same_role (IsReplayed (in_strata v)) (IsReplayed asked) e))
parallel_is i v memory entry (Conflict commit) asked is e = absurd cc
parallel_is i v memory entry (Unfit commit) asked is e = absurd cc

role_replayed : (i : ℕ) (image : Image) (role : RoleRead) (asked : ReplaySetup) → IsOfBytes role → role_of i image role ≡ Ok (IsReplayed asked) → CanBeReplayed image.bytes image.entry asked
role_replayed i image PlainRead asked is e = absurd cc
role_replayed i image (RecordRead inputs) asked is e = absurd cc
role_replayed i image (ReplayRead inputs) asked is e =
    let p = then_ok (refusing (bad_log i) inputs.log) _ (IsReplayed asked) e in
    let made = replay_setup inputs p.0 in
    let same = same_log made asked (same_role (IsReplayed made) (IsReplayed asked) p.2) in
    subst (CanBeReplayed image.bytes image.entry) same (record { standard = log_sized is.0 p.0 (is.1 ∙ not_refused (bad_log i) inputs.log p.0 p.1); strata = tt })
role_replayed i image (StrataRead read) asked is e =
    let p = then_ok (refusing (bad_strata i) read) _ (IsReplayed asked) e in
    let v : StrataParts = p.0 in
    let reads : strata.read_of is.0 ≡ Ok v = is.1 ∙ not_refused (bad_strata i) read v p.1 in
    let found = parallel_is i v image.bytes image.entry (answer_of v image.bytes image.entry) asked (answers_are_found v image.bytes image.entry) p.2 in
    subst (CanBeReplayed image.bytes image.entry) found.1 (record {
      standard = strata-sized is.0 v reads;
      strata = record { strata = v; asks = refl; some = strata-some is.0 v reads; parallel = found.0 };
    })

same_spheres : (ys xs : List SphereSetup) → ◌≡◌ {A = Result (List SphereSetup) Refused} (Ok ys) (Ok xs) → ys ≡ xs
same_spheres ys xs e = cc

spheres_replayed : (k i : ℕ) (ss : List SphereRead) (images : List Image) (xs : List SphereSetup) (x : SphereSetup) (asked : ReplaySetup) → AreOfBytes ss → spheres_of k ss images ≡ Ok xs → slice_get xs i ≡ Some x → x.role ≡ IsReplayed asked → CanBeReplayed x.memory x.entry asked
spheres_replayed k i [] images xs x asked are made at is =
    absurd (none-some x (ap (λ (ys : List SphereSetup). slice_get ys i) (same_spheres [] xs made) ∙ at))
spheres_replayed k i (s ∷ ss) [] xs x asked are made at is =
    absurd (none-some x (ap (λ (ys : List SphereSetup). slice_get ys i) (same_spheres [] xs made) ∙ at))
spheres_replayed k zero (s ∷ ss) (image ∷ images) xs x asked are made at is =
    let here = then_ok (sphere_of k s image) _ xs made in
    let rest = then_ok (spheres_of (suc k) ss images) _ xs here.2 in
    let role = then_ok (role_of k image s.role) _ here.0 here.1 in
    let first : SphereSetup = record { memory = image.bytes; entry = image.entry; role = role.0 } in
    let all = same_spheres (here.0 ∷ rest.0) xs rest.2 in
    let same = same_Ok first here.0 role.2 ∙ same_Some here.0 x (ap (λ (ys : List SphereSetup). slice_get ys 0) all ∙ at) in
    subst (λ (y : SphereSetup). CanBeReplayed y.memory y.entry asked) same (role_replayed k image s.role asked are.0 (role.1 ∙ ap Ok (ap (λ (y : SphereSetup). y.role) same ∙ is)))
spheres_replayed k (suc i) (s ∷ ss) (image ∷ images) xs x asked are made at is =
    let here = then_ok (sphere_of k s image) _ xs made in
    let rest = then_ok (spheres_of (suc k) ss images) _ xs here.2 in
    let all = same_spheres (here.0 ∷ rest.0) xs rest.2 in
    spheres_replayed (suc k) i ss images rest.0 x asked are.1 rest.1 (ap (λ (ys : List SphereSetup). slice_get ys (suc i)) all ∙ at) is

-- the machine of a task can be finished
pub task_can_finish : (plan : List ℕ) (m : Contents) (t : Task) → IsTask plan m t → CanFinish (setup_in t)
task_can_finish plan m t is =
    let built = task_built plan m t is in
    let sized = plan_sized built.name built.bytes t.plan built.planned in
    let are = plan_of_bytes m t.plan t.read built.read in
    record {
      setup = record { chunk = sized.chunk; buffer = sized.buffer };
      cores = sized.cores;
      window = sized.window;
      standard = λ i x asked at role. (spheres_replayed 0 i t.read.spheres built.images t.spheres x asked are built.spheres at role).standard;
      strata = λ i x asked at role. (spheres_replayed 0 i t.read.spheres built.images t.spheres x asked are built.spheres at role).strata;
    }
