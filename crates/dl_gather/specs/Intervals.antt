-- Where the replays of intervals begin.
use Rattle.std.specs.Prelude.{◌≡◌, ℕ, ◌<◌, ◌≤◌, ⊤, List, Option, Some, None}
use Rattle.std.specs.List.{AllByRecursion}
use Rattle.dl_elf.specs.Images.{Image}
use Rattle.dl_entry.specs.declared.End.{End}
use Rattle.dl_entry.specs.declared.Why.{Why}
use Rattle.spec_play.specs.declared.walk_end.WalkEnd.{WalkEnd}
use Rattle.spec_play.specs.Intervals.{AreOrdered}
use Rattle.spec_sphere.specs.sphere.Setups.{RoleSetup, SphereSetup}
use Rattle.spec_program.specs.Files.{RoleRead, PlainRead, RecordRead, ReplayRead, StrataRead, SphereRead}

-- a walk that ended so has diverged before that commit for this reason, or hasn't
abbrev pub HasDivergedBefore : (first : ℕ) → WalkEnd → Option Why → Type 0
HasDivergedBefore first end (Some why) = (n : ℕ) × (n < first) × (end ≡ WalkEnd.Ended (End.Diverged n why))
HasDivergedBefore first end None = (n : ℕ) (why : Why) → end ≡ WalkEnd.Ended (End.Diverged n why) → first ≤ n

-- a sphere with this image, in that role
abbrev pub sphere_on : Image → RoleSetup → SphereSetup
sphere_on image role = record { memory = image.bytes; entry = image.entry; role = role }

-- what is replayed, if it is, begins no later than it ends
abbrev pub IsOrdered : RoleRead → Type 0
IsOrdered PlainRead = ⊤
IsOrdered (RecordRead inputs) = ⊤
IsOrdered (ReplayRead inputs) = AreOrdered inputs.from inputs.to
IsOrdered (StrataRead read) = ⊤

abbrev pub AreAllOrdered : List SphereRead → Type 0
AreAllOrdered spheres = AllByRecursion (λ (s : SphereRead). IsOrdered s.role) spheres
