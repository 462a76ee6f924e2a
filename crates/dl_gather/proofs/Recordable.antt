-- The logs of recorded spheres can have the plan's chunks, and what is replayed is in order: as planned, as read, and as set up.
use Rattle.std.proofs.Common.{◌≡◌, ℕ, zero, suc, ◌<◌, ◌≤◌, ◌⊎◌, inl, inr, List, [], ◌∷◌, ◌++◌, length, map, get_or, Option, Some, None, Result, Ok, All, refl, sym, subst, arith}
use Rattle.std.specs.Prelude.{IfSome, option_map}
use Rattle.std.proofs.lemmas.List.Elements.{All-nil, All-cons}
use Rattle.dl_elf.specs.Images.{Image}
use Rattle.dl_plan.specs.declared.Sphere.{Sphere}
use Rattle.dl_plan.specs.Limits.{longest_chunk}
use Rattle.dl_plan.specs.Values.{EpochValues, AreEpochs, CanBeInEpochs, CanAllBeInEpochs, RoleValues, Plain, Record, Replay, InStrata, SphereValues, PlanValues, IsPlan, IsRole, AreRoles, CanHave, CanAllHave, AreOrdered as ArePlannedInOrder, IsOrdered as IsPlannedInOrder, AreAllOrdered as AllPlannedInOrder, sphere_view as planned}
use Rattle.dl_sphere.specs.Setups.{IsRecordableIf}
use Rattle.spec_log.specs.declared.ModeName.{ModeName}
use Rattle.spec_play.specs.Intervals.{AreOrdered}
use Rattle.spec_program.specs.Built.{bad_log, bad_strata, epoch_setup, mode_named, record_setup, role_in_strata, role_of, sphere_of, spheres_of}
use Rattle.spec_program.specs.Files.{ReplayInputs, RoleRead, PlainRead, RecordRead, ReplayRead, StrataRead, SphereRead}
use Rattle.spec_strata.specs.declared.strata.StrataParts.{StrataParts}
use Rattle.spec_strata.specs.Checking.{StrataAnswer, Parallel, Unfit, Conflict, answer_of}
use Rattle.spec_log.specs.declared.fault.Fault.{Fault}
use Rattle.spec_program.specs.Stages.{Refused, refusing}
use Rattle.spec_program.proofs.Made.{then_ok}
use Rattle.spec_sphere.specs.sphere.Setups.{EpochSetup, RoleSetup, IsPlain, IsRecorded, SphereSetup}
use Rattle.spec_sphere.specs.promises.Sound.{AreEpochsIf, IsRecordable}
use Rattle.dl_gather.specs.declared.inputs.SphereInputs.{SphereInputs}
use Rattle.dl_gather.specs.Inputs.{IsPlannedRole, IsReadRole, ArePlannedRoles, AreReadRoles, sphere_view}
use Rattle.dl_gather.specs.Intervals.{IsOrdered, AreAllOrdered}
use Rattle.dl_gather.proofs.Memories.{all_at, all_pushed}

-- ---- as planned

one_or_two : (version : ℕ) → 1 ≤ version → version ≤ 2 → (version ≡ 1) ⊎ (version ≡ 2)
one_or_two zero least most = absurd (omega arith)
one_or_two (suc zero) least most = inl refl
one_or_two (suc (suc zero)) least most = inr refl
one_or_two (suc (suc (suc version))) least most = absurd (omega arith)

by_version : (s version : ℕ) (mode : ModeName) (epochs : Option EpochSetup) → (version ≡ 1) ⊎ (version ≡ 2) → 16 ≤ s → s ≤ longest_chunk version → AreEpochsIf version epochs → IsRecordable s (record { version = version; mode = mode; epochs = epochs })
by_version s version mode epochs (inl one) least most are =
    subst (λ (v : ℕ). s ≤ longest_chunk v → AreEpochsIf v epochs → IsRecordable s (record { version = v; mode = mode; epochs = epochs })) (sym one) (λ m a. (inl (refl, refl), (least, m), a)) most are
by_version s version mode epochs (inr two) least most are =
    subst (λ (v : ℕ). s ≤ longest_chunk v → AreEpochsIf v epochs → IsRecordable s (record { version = v; mode = mode; epochs = epochs })) (sym two) (λ m a. (inr (refl, inr refl), (least, m), a)) most are

-- the epochs of a plan are within their limits
epochs_planned : (version : ℕ) (epochs : Option EpochValues) → IfSome epochs AreEpochs → IfSome epochs (λ e. version ≡ 2) → AreEpochsIf version (option_map epoch_setup epochs)
epochs_planned version None are two = tt
epochs_planned version (Some e) are two =
    record { second = two; least = are.size.0; most = are.size.1; some = are.keep.0; few = are.keep.1 }

numbers_ordered : (from to : Option ℕ) → ArePlannedInOrder from to → AreOrdered from to
numbers_ordered None to order = tt
numbers_ordered (Some from) None order = tt
numbers_ordered (Some from) (Some to) order = order

role_planned : (s : ℕ) (role : RoleValues) → 16 ≤ s → IsRole role → CanHave s role → IsPlannedInOrder role → CanBeInEpochs role → IsPlannedRole s role
role_planned s Plain least is can order epochs = tt
role_planned s (Record values) least is can order epochs =
    by_version s values.version (mode_named values.mode) (option_map epoch_setup values.epochs) (one_or_two values.version is.0 is.1) least can (epochs_planned values.version values.epochs is.2 epochs)
role_planned s (Replay values) least is can order epochs = numbers_ordered values.from values.to order
role_planned s (InStrata strata) least is can order epochs = tt

roles_planned : (s : ℕ) (spheres : List SphereValues) → 16 ≤ s → AreRoles spheres → CanAllHave s spheres → AllPlannedInOrder spheres → CanAllBeInEpochs spheres → ArePlannedRoles s spheres
roles_planned s [] least are can order epochs = tt
roles_planned s (x ∷ xs) least are can order epochs =
    (role_planned s x.role least are.0 can.0 order.0 epochs.0, roles_planned s xs least are.1 can.1 order.1 epochs.1)

-- so it is of each sphere of a plan
pub plan_recordable : (p : PlanValues) → IsPlan p → ArePlannedRoles p.sizes.chunk p.spheres
plan_recordable p is = roles_planned p.sizes.chunk p.spheres is.numbers.sizes.chunk.0 is.numbers.roles is.chunk is.order is.epochs

-- ---- as read

-- where so it is of all planned spheres, it is so of sphere i
pub planned_recordable : (s : ℕ) (spheres : List Sphere) (i : ℕ) (d : Sphere) → ArePlannedRoles s (map planned spheres) → i < length spheres → IsPlannedRole s (planned (get_or spheres i d)).role
planned_recordable s spheres i d are h = all_at (λ (x : SphereValues). IsPlannedRole s x.role) planned spheres i d are h

-- with one sphere more of which it is so, it is so of all
pub more_recordable : (s : ℕ) (inputs : List SphereInputs) (x : SphereInputs) → AreReadRoles s (map sphere_view inputs) → IsReadRole s (sphere_view x).role → AreReadRoles s (map sphere_view (inputs ++ x ∷ []))
more_recordable s inputs x are is = all_pushed (λ (y : SphereRead). IsReadRole s y.role) sphere_view inputs x are is

role_in_order : (s : ℕ) (role : RoleRead) → IsReadRole s role → IsOrdered role
role_in_order s PlainRead is = tt
role_in_order s (RecordRead inputs) is = tt
role_in_order s (ReplayRead inputs) is = is
role_in_order s (StrataRead read) is = tt

-- what is replayed is in order
pub all_in_order : (s : ℕ) (spheres : List SphereRead) → AreReadRoles s spheres → AreAllOrdered spheres
all_in_order s [] are = tt
all_in_order s (x ∷ xs) are = (role_in_order s x.role are.0, all_in_order s xs are.1)

-- ---- as set up

same_role : (x y : RoleSetup) → ◌≡◌ {A = Result RoleSetup Refused} (Ok x) (Ok y) → x ≡ y
same_role x y e = cc

same_sphere : (x y : SphereSetup) → ◌≡◌ {A = Result SphereSetup Refused} (Ok x) (Ok y) → x ≡ y
same_sphere x y e = cc

same_spheres : (xs ys : List SphereSetup) → ◌≡◌ {A = Result (List SphereSetup) Refused} (Ok xs) (Ok ys) → xs ≡ ys
same_spheres xs ys e = cc

log_set_up : (s i : ℕ) (image : Image) (inputs : ReplayInputs) (role : RoleSetup) → role_of i image (ReplayRead inputs) ≡ Ok role → IsRecordableIf s role
log_set_up s i image inputs role e =
    let log = then_ok (refusing (bad_log i) inputs.log) _ role e in
    subst (IsRecordableIf s) (same_role _ role log.2) tt

answer_set_up : (s i : ℕ) (v : StrataParts) (answer : StrataAnswer) (role : RoleSetup) → role_in_strata i v answer ≡ Ok role → IsRecordableIf s role
answer_set_up s i v Parallel role e = subst (IsRecordableIf s) (same_role _ role e) tt
answer_set_up s i v (Conflict commit) role e = absurd cc
answer_set_up s i v (Unfit commit) role e = absurd cc

strata_set_up : (s i : ℕ) (image : Image) (read : Result StrataParts Fault) (role : RoleSetup) → role_of i image (StrataRead read) ≡ Ok role → IsRecordableIf s role
strata_set_up s i image read role e =
    let v = then_ok (refusing (bad_strata i) read) _ role e in
    answer_set_up s i v.0 (answer_of v.0 image.bytes image.entry) role v.2

role_set_up : (s i : ℕ) (image : Image) (read : RoleRead) (role : RoleSetup) → IsReadRole s read → role_of i image read ≡ Ok role → IsRecordableIf s role
role_set_up s i image PlainRead role is e = subst (IsRecordableIf s) (same_role IsPlain role e) tt
role_set_up s i image (RecordRead inputs) role is e = subst (IsRecordableIf s) (same_role (IsRecorded (record_setup inputs)) role e) is
role_set_up s i image (ReplayRead inputs) role is e = log_set_up s i image inputs role e
role_set_up s i image (StrataRead read) role is e = strata_set_up s i image read role e

-- so it is of the spheres that are set up
pub set_up_recordable : (s i : ℕ) (read : List SphereRead) (images : List Image) (spheres : List SphereSetup) → AreReadRoles s read → spheres_of i read images ≡ Ok spheres → All (λ (x : SphereSetup). IsRecordableIf s x.role) spheres
set_up_recordable s i [] images spheres are e =
    subst (All (λ (x : SphereSetup). IsRecordableIf s x.role)) (same_spheres [] spheres e) (All-nil (λ (x : SphereSetup). IsRecordableIf s x.role))
set_up_recordable s i (x ∷ read) [] spheres are e =
    subst (All (λ (x : SphereSetup). IsRecordableIf s x.role)) (same_spheres [] spheres e) (All-nil (λ (x : SphereSetup). IsRecordableIf s x.role))
set_up_recordable s i (x ∷ read) (image ∷ images) spheres are e =
    let here = then_ok (sphere_of i x image) _ spheres e in
    let rest = then_ok (spheres_of (suc i) read images) _ spheres here.2 in
    let role = then_ok (role_of i image x.role) _ here.0 here.1 in
    let made : SphereSetup = record { memory = image.bytes; entry = image.entry; role = role.0 } in
    let first = subst (λ (y : SphereSetup). IsRecordableIf s y.role) (same_sphere made here.0 role.2) (role_set_up s i image x.role role.0 are.0 role.1) in
    subst (All (λ (y : SphereSetup). IsRecordableIf s y.role)) (same_spheres (here.0 ∷ rest.0) spheres rest.2)
    (All-cons (λ (y : SphereSetup). IsRecordableIf s y.role) here.0 rest.0 first (set_up_recordable s (suc i) read images rest.0 are.1 rest.1))
