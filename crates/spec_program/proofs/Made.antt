-- A sphere of a task's machine is made of what the sphere of that number has read, and of nothing else.
use Rattle.std.proofs.Common.{◌≡◌, ℕ, zero, suc, List, [], ◌∷◌, Some, Result, Ok, Err, refl, sym, ap, ◌∙◌, subst}
use Rattle.std.specs.Prelude.{slice_get, slice_index_or}
use Rattle.std.proofs.lemmas.Option.{none-some, same_Some}
use Rattle.dl_elf.specs.Images.{Image}
use Rattle.dl_elf.specs.Loading.{image_of}
use Rattle.dl_files.specs.Contents.{Contents}
use Rattle.dl_plan.specs.Plans.{plan_of}
use Rattle.spec_log.specs.declared.LogParts.{LogParts}
use Rattle.spec_log.specs.declared.fault.Fault.{Fault}
use Rattle.spec_sphere.specs.sphere.Setups.{RoleSetup, IsReplayed, SphereSetup}
use Rattle.spec_sphere.specs.promises.Sound.{no_image}
use Rattle.spec_protocol.specs.promises.Sound.{image_at}
use Rattle.spec_strata.specs.declared.strata.StrataParts.{StrataParts}
use Rattle.spec_strata.specs.Checking.{StrataAnswer, Parallel, Unfit, Conflict, answer_of}
use Rattle.spec_program.specs.Built.{bad_image, bad_log, images_of, replay_setup, role_in_strata, role_of, sphere_of, spheres_of, events_of}
use Rattle.spec_program.specs.Files.{ReplayInputs, RoleRead, PlainRead, RecordRead, ReplayRead, StrataRead, SphereRead, read_at, plan_read}
use Rattle.spec_program.specs.Stages.{Refused, refusing, ◌>>◌}
use Rattle.spec_program.specs.Tasks.{Task, IsTask, setup_in, absent, bad_plan, plan_at, task_read, task_planned}

-- where two stages answer, the first one did, and the second one did of its answer
pub then_ok : {A B E : Type 0} (o : Result A E) (f : A → Result B E) (b : B) → (o >> f) ≡ Ok b → (a : A) × (o ≡ Ok a) × (f a ≡ Ok b)
then_ok (Err x) f b e = absurd cc
then_ok (Ok a) f b e = (a, refl, e)

-- what is not refused is what was answered
pub not_refused : {A E : Type 0} (as_refused : E → Refused) (o : Result A E) (a : A) → refusing as_refused o ≡ Ok a → o ≡ Ok a
not_refused as_refused (Err x) a e = absurd cc
not_refused as_refused (Ok b) a e = cc

-- ---- a sphere

-- the image is that of the file, and so is the role
pub record IsMade (s : SphereRead) (x : SphereSetup) : Type 0 where
  pub image : Image
  pub loaded : image_of s.image s.memory ≡ Ok image
  pub memory : x.memory ≡ image.bytes
  pub entry : x.entry ≡ image.entry
  pub role : role_of 0 image s.role ≡ Ok x.role

log_any : (i j : ℕ) (inputs : ReplayInputs) (o : Result LogParts Fault) (r : RoleSetup) → (refusing (bad_log i) o >> λ log. Ok (IsReplayed (replay_setup inputs log))) ≡ Ok r → (refusing (bad_log j) o >> λ log. Ok (IsReplayed (replay_setup inputs log))) ≡ Ok r
log_any i j inputs (Err fault) r e = absurd cc
log_any i j inputs (Ok log) r e = e

answer_any : (i j : ℕ) (v : StrataParts) (answer : StrataAnswer) (r : RoleSetup) → role_in_strata i v answer ≡ Ok r → role_in_strata j v answer ≡ Ok r
answer_any i j v Parallel r e = e
answer_any i j v (Conflict commit) r e = absurd cc
answer_any i j v (Unfit commit) r e = absurd cc

strata_any : (i j : ℕ) (image : Image) (o : Result StrataParts Fault) (r : RoleSetup) → role_of i image (StrataRead o) ≡ Ok r → role_of j image (StrataRead o) ≡ Ok r
strata_any i j image (Err fault) r e = absurd cc
strata_any i j image (Ok v) r e = answer_any i j v (answer_of v image.bytes image.entry) r e

-- a role that is not refused is one by any number
role_any : (i j : ℕ) (image : Image) (role : RoleRead) (r : RoleSetup) → role_of i image role ≡ Ok r → role_of j image role ≡ Ok r
role_any i j image PlainRead r e = e
role_any i j image (RecordRead inputs) r e = e
role_any i j image (ReplayRead inputs) r e = log_any i j inputs inputs.log r e
role_any i j image (StrataRead read) r e = strata_any i j image read r e

same_setup : (x y : SphereSetup) → ◌≡◌ {A = Result SphereSetup Refused} (Ok x) (Ok y) → x ≡ y
same_setup x y e = cc

-- each sphere that was read has a setup, made of its own image and role
pub sphere_made : (k i : ℕ) (ss : List SphereRead) (images : List Image) (xs : List SphereSetup) (s : SphereRead) → images_of k ss ≡ Ok images → spheres_of k ss images ≡ Ok xs → slice_get ss i ≡ Some s
    → (x : SphereSetup) × (slice_get xs i ≡ Some x) × IsMade s x
sphere_made k i [] images xs s are made at = absurd (none-some s at)
sphere_made k zero (r ∷ ss) images xs s are made at =
    let first = then_ok (refusing (bad_image k) (image_of r.image r.memory)) _ images are in
    let rest = then_ok (images_of (suc k) ss) _ images first.2 in
    let all : first.0 ∷ rest.0 ≡ images = cc in
    let here = then_ok (sphere_of k r first.0) _ xs (ap (spheres_of k (r ∷ ss)) all ∙ made) in
    let after = then_ok (spheres_of (suc k) ss rest.0) _ xs here.2 in
    let role = then_ok (role_of k first.0 r.role) _ here.0 here.1 in
    let x : SphereSetup = record { memory = first.0.bytes; entry = first.0.entry; role = role.0 } in
    let is : here.0 ∷ after.0 ≡ xs = cc in
    let made_so : x ≡ here.0 = same_setup x here.0 role.2 in
    let same : r ≡ s = same_Some r s at in (
      x,
      ap (λ (ys : List SphereSetup). slice_get ys 0) (sym is) ∙ ap Some (sym made_so),
      subst (λ (q : SphereRead). IsMade q x) same (record {
        image = first.0;
        loaded = not_refused (bad_image k) (image_of r.image r.memory) first.0 first.1;
        memory = refl;
        entry = refl;
        role = role_any k 0 first.0 r.role role.0 role.1;
      }),
    )
sphere_made k (suc i) (r ∷ ss) images xs s are made at =
    let first = then_ok (refusing (bad_image k) (image_of r.image r.memory)) _ images are in
    let rest = then_ok (images_of (suc k) ss) _ images first.2 in
    let all : first.0 ∷ rest.0 ≡ images = cc in
    let here = then_ok (sphere_of k r first.0) _ xs (ap (spheres_of k (r ∷ ss)) all ∙ made) in
    let after = then_ok (spheres_of (suc k) ss rest.0) _ xs here.2 in
    let is : here.0 ∷ after.0 ≡ xs = cc in
    let later = sphere_made (suc k) i ss rest.0 after.0 s rest.1 after.1 at in
    (later.0, ap (λ (ys : List SphereSetup). slice_get ys (suc i)) (sym is) ∙ later.1, later.2)

-- ---- a task

-- its plan is in a file, and its spheres are made of what was read
pub record IsBuilt (m : Contents) (t : Task) : Type 0 where
  pub name : List ℕ
  pub bytes : List ℕ
  pub planned : plan_of name bytes ≡ Ok t.plan
  pub read : plan_read m t.plan ≡ Ok t.read
  pub images : List Image
  pub are : images_of 0 t.read.spheres ≡ Ok images
  pub spheres : spheres_of 0 t.read.spheres images ≡ Ok t.spheres

-- a task's plan is in its file, and its spheres are made of the images and logs that the plan names
pub task_built : (name : List ℕ) (m : Contents) (t : Task) → IsTask name m t → IsBuilt m t
task_built name m t is =
    let plan = then_ok (plan_at m name) (task_planned m) t is in
    let file = then_ok (refusing absent (read_at m name)) _ plan.0 plan.1 in
    let read = then_ok (refusing absent (plan_read m plan.0)) (task_read plan.0) t plan.2 in
    let images = then_ok (images_of 0 read.0.spheres) _ t read.2 in
    let spheres = then_ok (spheres_of 0 read.0.spheres images.0) _ t images.2 in
    let events = then_ok (events_of plan.0.sizes.seed read.0.schedule) _ t spheres.2 in
    let made : Task = record { plan = plan.0; read = read.0; spheres = spheres.0; events = events.0 } in
    let same : made ≡ t = cc in
    subst (IsBuilt m) same (record {
      name = name;
      bytes = file.0;
      planned = not_refused bad_plan (plan_of name file.0) plan.0 file.2;
      read = not_refused absent (plan_read m plan.0) read.0 read.1;
      images = images.0;
      are = images.1;
      spheres = spheres.1;
    })

index_is : (xs : List SphereSetup) (i : ℕ) (x : SphereSetup) → slice_get xs i ≡ Some x → slice_index_or xs i no_image ≡ x
index_is [] i x e = absurd (none-some x e)
index_is (y ∷ xs) zero x e = same_Some y x e
index_is (y ∷ xs) (suc i) x e = index_is xs i x e

-- what sphere i of the machine is
pub record IsSphereOf (t : Task) (i : ℕ) (s : SphereRead) : Type 0 where
  pub setup : SphereSetup
  pub there : slice_get t.spheres i ≡ Some setup
  pub at : image_at (setup_in t) i ≡ setup
  pub made : IsMade s setup

-- sphere i of a task's machine is made of what sphere i has read
pub sphere_of_task : (name : List ℕ) (m : Contents) (t : Task) (i : ℕ) (s : SphereRead) → IsTask name m t → slice_get t.read.spheres i ≡ Some s → IsSphereOf t i s
sphere_of_task name m t i s is at =
    let built = task_built name m t is in
    let x = sphere_made 0 i t.read.spheres built.images t.spheres s built.are built.spheres at in
    record { setup = x.0; there = x.1; at = index_is t.spheres i x.0 x.1; made = x.2 }
