-- If the interval of each sphere passes its test, each replay ends no earlier than it begins.
use Rattle.std.proofs.Common.{◌≡◌, ℕ, ◌≤◌, ℤ, pos, negsuc, int_le, Bool, true, false, if◌then◌else◌, List, [], ◌∷◌, Option, Some, None, option_map, refl, subst, arith}
use Rattle.std.proofs.lemmas.Bool.{and_parts}
use Rattle.std.proofs.lemmas.Bool.Decides.{nat_tests}
use Rattle.std.specs.List.{list_all}
use Rattle.dl_plan.specs.declared.sphere.RoleName.{RoleName}
use Rattle.dl_plan.specs.Entries.{SphereEntries}
use Rattle.dl_plan.specs.Limits.{limited, count_of, memory_of, version_of}
use Rattle.dl_plan.specs.Optional.{◌>>=◌, each_of}
use Rattle.dl_plan.specs.Plans.{sphere_asked}
use Rattle.dl_plan.specs.Roles.{made_of, replay_made, replay_stands, role_made, role_of, has_role_keys, are_in_order, interval_stands, has_good_interval}
use Rattle.dl_plan.specs.Values.{RoleValues, Plain, Record, Replay, InStrata, RecordValues, ReplayValues, SphereValues, AreOrdered, IsOrdered, AreAllOrdered}

-- ---- what is there

-- if two steps in a row give a value, the first gives what the second makes it of
pub then_some : {A B : Type 0} (o : Option A) (f : A → Option B) (b : B) → (o >>= f) ≡ Some b → (a : A) × (o ≡ Some a) × (f a ≡ Some b)
then_some None f b e = absurd (cc)
then_some (Some a) f b e = (a, refl, e)

-- what a test lets through was there before it
pub passed : {A : Type 0} (test : Bool) (o : Option A) (a : A) → (if test then o else None) ≡ Some a → o ≡ Some a
passed true o a e = e
passed false o a e = absurd (cc)

-- two values are the same if they are the same as optional ones
pub same : {A : Type 0} (a b : A) → Some a ≡ Some b → a ≡ b
same a b e = cc

-- ---- two numbers

limited_ordered : (x y : ℤ) (a b : ℕ) → limited 0 16777216 x ≡ Some a → limited 0 16777216 y ≡ Some b → int_le x y ≡ true → a ≤ b
limited_ordered (pos n) (pos m) a b e f good =
    let first : n ≡ a = same n a (passed _ (Some n) a e) in
    let last : m ≡ b = same m b (passed _ (Some m) b f) in
    grind (arith, nat_tests, first, last, good)
limited_ordered (pos n) (negsuc m) a b e f good = absurd (cc)
limited_ordered (negsuc n) y a b e f good = absurd (cc)

mapped : (o : Option ℕ) (a : ℕ) → option_map Some o ≡ Some (Some a) → o ≡ Some a
mapped None a e = absurd (cc)
mapped (Some n) a e = cc

counts_ordered : (from to : Option ℤ) (n m : Option ℕ) → count_of from ≡ Some n → count_of to ≡ Some m → are_in_order from to ≡ true → AreOrdered n m
counts_ordered from to None m e f good = tt
counts_ordered from to (Some a) None e f good = tt
counts_ordered None to (Some a) (Some b) e f good = absurd (cc)
counts_ordered (Some x) None (Some a) (Some b) e f good = absurd (cc)
counts_ordered (Some x) (Some y) (Some a) (Some b) e f good = limited_ordered x y a b (mapped _ a e) (mapped _ b f) good

-- ---- a sphere

recorded : (r : RecordValues) (v : ReplayValues) → Some (Record r) ≡ Some (Replay v) → AreOrdered v.from v.to
recorded r v e = absurd (cc)

replayed : (u v : ReplayValues) → Some (Replay u) ≡ Some (Replay v) → AreOrdered u.from u.to → AreOrdered v.from v.to
replayed u v e ordered = let is : u ≡ v = cc in subst (λ (r : ReplayValues). AreOrdered r.from r.to) is ordered

in_strata : (name : List ℕ) (v : ReplayValues) → Some (InStrata name) ≡ Some (Replay v) → AreOrdered v.from v.to
in_strata name v e = absurd (cc)

replay_ordered : (strata : Option (List ℕ)) (s : SphereEntries) (values : ReplayValues) → replay_made strata s ≡ Some (Replay values) → replay_stands strata s.from s.to ≡ true
    → AreOrdered values.from values.to
replay_ordered None s values e good =
    let log = then_some s.log _ (Replay values) e in
    let from = then_some (count_of s.from) _ (Replay values) log.2 in
    let to = then_some (count_of s.to) _ (Replay values) from.2 in
    replayed _ values to.2 (counts_ordered s.from s.to from.0 to.0 from.1 to.1 good)
replay_ordered (Some strata) s values e good = in_strata strata values e

role_ordered : (role : RoleName) (s : SphereEntries) (made : RoleValues) → role_made role s ≡ Some made → interval_stands role s ≡ true → IsOrdered made
role_ordered role s Plain e good = tt
role_ordered role s (Record values) e good = tt
role_ordered role s (InStrata strata) e good = tt
role_ordered RoleName.Plain s (Replay values) e good = absurd (cc)
role_ordered RoleName.Record s (Replay values) e good =
    let mode = then_some s.mode _ (Replay values) e in
    let version = then_some (version_of s.version) _ (Replay values) mode.2 in
    let log = then_some s.log _ (Replay values) version.2 in
    let epochs = then_some (made_of s.epoch s.keep) _ (Replay values) log.2 in
    recorded _ values epochs.2
role_ordered RoleName.Replay s (Replay values) e good = replay_ordered s.strata s values e good

sphere_ordered : (s : SphereEntries) (v : SphereValues) → sphere_asked s ≡ Some v → has_good_interval s ≡ true → IsOrdered v.role
sphere_ordered s v e good =
    let role = then_some (role_of s) _ v e in
    let memory = then_some (memory_of s.memory) _ v role.2 in
    let made : role_made s.role s ≡ Some role.0 = passed (has_role_keys s) (role_made s.role s) role.0 role.1 in
    subst (λ (x : SphereValues). IsOrdered x.role) (same _ v memory.2) (role_ordered s.role s role.0 made good)

-- ---- all of them

with_more : (v : SphereValues) (rest : Option (List SphereValues)) (vs : List SphereValues) → option_map (λ ws. v ∷ ws) rest ≡ Some vs → IsOrdered v.role
    → ((ws : List SphereValues) → rest ≡ Some ws → AreAllOrdered ws) → AreAllOrdered vs
with_more v None vs e one more = absurd (cc)
with_more v (Some ws) vs e one more = subst AreAllOrdered (same (v ∷ ws) vs e) (one, more ws refl)

-- if each sphere's interval passes its test, no replay of the plan ends before it begins
pub all_ordered : (ss : List SphereEntries) (vs : List SphereValues) → each_of sphere_asked ss ≡ Some vs → list_all has_good_interval ss ≡ true → AreAllOrdered vs
all_ordered [] vs e good = subst AreAllOrdered (same [] vs e) tt
all_ordered (s ∷ ss) vs e good =
    let v = then_some (sphere_asked s) _ vs e in
    with_more v.0 (each_of sphere_asked ss) vs v.2 (sphere_ordered s v.0 v.1 (and_parts _ _ good).0) (λ ws is. all_ordered ss ws is (and_parts _ _ good).1)
