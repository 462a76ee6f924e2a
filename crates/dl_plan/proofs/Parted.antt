-- If the epochs of each sphere pass their test, what is recorded in epochs has a log of version 2.
use Rattle.std.proofs.Common.{◌≡◌, ℕ, nat_eq, ℤ, true, false, List, [], ◌∷◌, Option, Some, None, IfSome, option_map, refl, subst, arith}
use Rattle.std.proofs.lemmas.Bool.{and_parts}
use Rattle.std.proofs.lemmas.Bool.Decides.{nat_tests}
use Rattle.std.specs.List.{list_all}
use Rattle.dl_plan.specs.declared.sphere.RoleName.{RoleName}
use Rattle.dl_plan.specs.Entries.{SphereEntries}
use Rattle.dl_plan.specs.Limits.{count_of, epoch_of, keep_of, memory_of, version_of}
use Rattle.dl_plan.specs.Optional.{each_of}
use Rattle.dl_plan.specs.Plans.{sphere_asked}
use Rattle.dl_plan.specs.Roles.{epochs_made, made_of, replay_made, role_made, role_of, has_role_keys, is_second, are_epochs, epochs_stand, has_good_epochs}
use Rattle.dl_plan.specs.Values.{EpochValues, RoleValues, Plain, Record, Replay, InStrata, RecordValues, ReplayValues, SphereValues, CanBeInEpochs, CanAllBeInEpochs}
use Rattle.dl_plan.proofs.Ordered.{then_some, passed, same}

-- ---- the numbers

-- a version that is 2 is read as 2
second : (o : Option ℤ) (v : ℕ) → version_of o ≡ Some v → is_second o ≡ true → v ≡ 2
second o v e good =
    let is : nat_eq v 2 ≡ true = subst (λ (x : Option ℕ). (elim x [ None ↦ false | Some w ↦ nat_eq w 2 ]) ≡ true) e good in
    grind (arith, nat_tests, is)

made_none : (x : Option ℕ) → epochs_made x None ≡ None
made_none None = refl
made_none (Some n) = refl

-- where both numbers are asked for, the version is
both : (version epoch keep : Option ℤ) (e : EpochValues) → made_of epoch keep ≡ Some (Some e) → are_epochs version epoch keep ≡ true → is_second version ≡ true
both version (Some x) (Some y) e made good = good
both version None keep e made good =
    let kept = then_some (keep_of keep) _ (Some e) made in absurd (cc)
both version (Some x) None e made good =
    let epoch = then_some (epoch_of (Some x)) _ (Some e) made in
    let none : Some None ≡ Some (Some e) = subst (λ (o : Option EpochValues). Some o ≡ Some (Some e)) (made_none epoch.0) epoch.2 in
    absurd (cc)

-- ---- a sphere

in_epochs : (version epoch keep : Option ℤ) (v : ℕ) (o : Option EpochValues) → version_of version ≡ Some v → made_of epoch keep ≡ Some o
    → are_epochs version epoch keep ≡ true → IfSome o (λ e. v ≡ 2)
in_epochs version epoch keep v None e made good = tt
in_epochs version epoch keep v (Some x) e made good = second version v e (both version epoch keep x made good)

recorded : (r u : RecordValues) → Some (Record r) ≡ Some (Record u) → CanBeInEpochs (Record r) → CanBeInEpochs (Record u)
recorded r u e h = let is : r ≡ u = cc in subst (λ (x : RecordValues). CanBeInEpochs (Record x)) is h

replayed : (r : ReplayValues) (u : RecordValues) → Some (Replay r) ≡ Some (Record u) → CanBeInEpochs (Record u)
replayed r u e = absurd (cc)

in_strata : (name : List ℕ) (u : RecordValues) → Some (InStrata name) ≡ Some (Record u) → CanBeInEpochs (Record u)
in_strata name u e = absurd (cc)

replay_parted : (strata : Option (List ℕ)) (s : SphereEntries) (values : RecordValues) → replay_made strata s ≡ Some (Record values) → CanBeInEpochs (Record values)
replay_parted None s values e =
    let log = then_some s.log _ (Record values) e in
    let from = then_some (count_of s.from) _ (Record values) log.2 in
    let to = then_some (count_of s.to) _ (Record values) from.2 in
    replayed _ values to.2
replay_parted (Some strata) s values e = in_strata strata values e

role_parted : (role : RoleName) (s : SphereEntries) (made : RoleValues) → role_made role s ≡ Some made → epochs_stand role s ≡ true → CanBeInEpochs made
role_parted role s Plain e good = tt
role_parted role s (Replay values) e good = tt
role_parted role s (InStrata strata) e good = tt
role_parted RoleName.Plain s (Record values) e good = absurd (cc)
role_parted RoleName.Record s (Record values) e good =
    let mode = then_some s.mode _ (Record values) e in
    let version = then_some (version_of s.version) _ (Record values) mode.2 in
    let log = then_some s.log _ (Record values) version.2 in
    let epochs = then_some (made_of s.epoch s.keep) _ (Record values) log.2 in
    recorded _ values epochs.2 (in_epochs s.version s.epoch s.keep version.0 epochs.0 version.1 epochs.1 good)
role_parted RoleName.Replay s (Record values) e good = replay_parted s.strata s values e

sphere_parted : (s : SphereEntries) (v : SphereValues) → sphere_asked s ≡ Some v → has_good_epochs s ≡ true → CanBeInEpochs v.role
sphere_parted s v e good =
    let role = then_some (role_of s) _ v e in
    let memory = then_some (memory_of s.memory) _ v role.2 in
    let made : role_made s.role s ≡ Some role.0 = passed (has_role_keys s) (role_made s.role s) role.0 role.1 in
    subst (λ (x : SphereValues). CanBeInEpochs x.role) (same _ v memory.2) (role_parted s.role s role.0 made good)

-- ---- all of them

with_more : (v : SphereValues) (rest : Option (List SphereValues)) (vs : List SphereValues) → option_map (λ ws. v ∷ ws) rest ≡ Some vs → CanBeInEpochs v.role
    → ((ws : List SphereValues) → rest ≡ Some ws → CanAllBeInEpochs ws) → CanAllBeInEpochs vs
with_more v None vs e one more = absurd (cc)
with_more v (Some ws) vs e one more = subst CanAllBeInEpochs (same (v ∷ ws) vs e) (one, more ws refl)

-- if each sphere's epochs pass their test, every recording in epochs has a log of version 2
pub all_parted : (ss : List SphereEntries) (vs : List SphereValues) → each_of sphere_asked ss ≡ Some vs → list_all has_good_epochs ss ≡ true → CanAllBeInEpochs vs
all_parted [] vs e good = subst CanAllBeInEpochs (same [] vs e) tt
all_parted (s ∷ ss) vs e good =
    let v = then_some (sphere_asked s) _ vs e in
    with_more v.0 (each_of sphere_asked ss) vs v.2 (sphere_parted s v.0 v.1 (and_parts _ _ good).0) (λ ws is. all_parted ss ws is (and_parts _ _ good).1)
