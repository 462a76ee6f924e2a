-- Rules 6, 9 and 10: which keys of a sphere stand with which role, and the role that they make.
use Rattle.std.specs.Prelude.{ℕ, ℤ, int_le, ◌==◌, Bool, true, false, ◌&&◌, is_some, is_none, ◌||◌, List, Option, Some, None, if◌then◌else◌}
use Rattle.dl_plan.specs.declared.sphere.RoleName.{RoleName}
use Rattle.dl_plan.specs.Entries.{SphereEntries}
use Rattle.dl_plan.specs.Limits.{count_of, epoch_of, keep_of, version_of}
use Rattle.dl_plan.specs.Optional.{◌>>=◌}
use Rattle.dl_plan.specs.Values.{EpochValues, RoleValues, Plain, Record, Replay, InStrata}

-- a key that has to be there, and one that may not be there
abbrev needed : {A : Type 0} → Option A → Bool
needed key = is_some key

abbrev barred : {A : Type 0} → Option A → Bool
barred key = is_none key

-- two keys of which one has to be there, and not both
abbrev either : {A B : Type 0} → Option A → Option B → Bool
either key other = needed key && barred other || barred key && needed other

-- ---- rule 6: the table, a row for each role

abbrev keys_stand : RoleName → SphereEntries → Bool
keys_stand RoleName.Plain s = barred s.mode && barred s.version && barred s.log && barred s.strata
keys_stand RoleName.Record s = needed s.mode && needed s.log && barred s.strata
keys_stand RoleName.Replay s = barred s.mode && barred s.version && either s.log s.strata

abbrev pub has_role_keys : SphereEntries → Bool
has_role_keys s = keys_stand s.role s

-- ---- the role

-- epochs, if both numbers are there
abbrev pub epochs_made : (epoch keep : Option ℕ) → Option EpochValues
epochs_made (Some epoch) (Some keep) = Some (record { size = epoch; keep = keep })
epochs_made epoch keep = None

-- each number in its limits, if it is there
abbrev pub made_of : (epoch keep : Option ℤ) → Option (Option EpochValues)
made_of epoch keep = epoch_of epoch >>= λ epoch. keep_of keep >>= λ keep. Some (epochs_made epoch keep)

-- of what is replayed: in strata, if they are there
abbrev pub replay_made : (strata : Option (List ℕ)) → SphereEntries → Option RoleValues
replay_made None s =
    s.log >>= λ log.
    count_of s.from >>= λ from.
    count_of s.to >>= λ to.
    Some (Replay (record { log = log; from = from; to = to }))
replay_made (Some strata) s = Some (InStrata strata)

abbrev pub role_made : RoleName → SphereEntries → Option RoleValues
role_made RoleName.Plain s = Some Plain
role_made RoleName.Record s =
    s.mode >>= λ mode.
    version_of s.version >>= λ version.
    s.log >>= λ log.
    made_of s.epoch s.keep >>= λ epochs.
    Some (Record (record { mode = mode; version = version; log = log; epochs = epochs }))
role_made RoleName.Replay s = replay_made s.strata s

abbrev pub role_of : SphereEntries → Option RoleValues
role_of s = if has_role_keys s then role_made s.role s else None

-- ---- rule 9: only what replays a log has an interval, which ends no earlier than it begins

abbrev pub are_in_order : (from to : Option ℤ) → Bool
are_in_order (Some from) (Some to) = int_le from to
are_in_order from to = true

-- what is replayed in strata is replayed whole
abbrev pub replay_stands : (strata : Option (List ℕ)) → (from to : Option ℤ) → Bool
replay_stands None from to = are_in_order from to
replay_stands (Some strata) from to = barred from && barred to

abbrev pub interval_stands : RoleName → SphereEntries → Bool
interval_stands RoleName.Plain s = barred s.from && barred s.to
interval_stands RoleName.Record s = barred s.from && barred s.to
interval_stands RoleName.Replay s = replay_stands s.strata s.from s.to

abbrev pub has_good_interval : SphereEntries → Bool
has_good_interval s = interval_stands s.role s

-- ---- rule 10: only what is recorded into a log of version 2 is in epochs, which have both numbers

abbrev pub is_second : (version : Option ℤ) → Bool
is_second version = elim (version_of version) [ None ↦ false | Some v ↦ v == 2 ]

-- both numbers, for such a log, or none of them
abbrev pub are_epochs : (version epoch keep : Option ℤ) → Bool
are_epochs version (Some epoch) (Some keep) = is_second version
are_epochs version None None = true
are_epochs version epoch keep = false

abbrev pub epochs_stand : RoleName → SphereEntries → Bool
epochs_stand RoleName.Plain s = barred s.epoch && barred s.keep
epochs_stand RoleName.Record s = are_epochs s.version s.epoch s.keep
epochs_stand RoleName.Replay s = barred s.epoch && barred s.keep

abbrev pub has_good_epochs : SphereEntries → Bool
has_good_epochs s = epochs_stand s.role s
