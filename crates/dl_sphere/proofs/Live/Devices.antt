-- What the kernel's calls take of the devices is what the definitions take.
use Rattle.std.proofs.Common.{◌≡◌, ◌≤◌, ℕ, length, Bor, List, Option, Some, None, refl}
use Rattle.std.specs.Prelude.{IfSome}
use Rattle.std.specs.Option.{option_copied}
use Rattle.dl_entry.specs.declared.Input.{Input}
use Rattle.spec_isa.specs.declared.thread.Parts.{Parts}
use Rattle.spec_isa.specs.Words.{IsBytes}
use Rattle.spec_kernel.specs.Devices.{Devices, HaveByteInput}
use Rattle.spec_kernel.specs.Needs.{Need, need}
use Rattle.spec_kernel.specs.Answers.{taken}
use Rattle.spec_log.specs.Log.{IsInput}
use Rattle.spec_sphere.specs.promises.Notable.{IsInputIf}
use Rattle.spec_sphere.proofs.Sound.Devices.{taken-sound}
use Rattle.dl_kernel.specs.Outside.{record_left, devices_left}

-- the input that is left for the log is the one that was taken
pub record_taken : (moment : ℕ) (d : Devices) (n : Option Need) → record_left moment d n ≡ (taken n d moment).input
record_taken moment d None = refl
record_taken moment d (Some n) = refl

-- the devices that are left are those that the taking leaves
pub devices_taken : (moment : ℕ) (d : Devices) (n : Option Need) → devices_left moment d n ≡ (taken n d moment).devices
devices_taken moment d None = refl
devices_taken moment d (Some n) = refl

input-if : (o : Option Input) → IsInputIf o → IfSome o IsInput
input-if None h = tt
input-if (Some i) h = h

-- the record that a serial step takes is an input of a log
pub input_taken : (t : Parts) (m : List ℕ) (d : Devices) (moment : ℕ) → IsBytes m → HaveByteInput d → IfSome (taken (need t m) d moment).input IsInput
input_taken t m d moment bytes h = input-if (taken (need t m) d moment).input (taken-sound t m d moment bytes h).input

-- what holds of a copied record holds of the one after the reference
pub if_copied : (P : Input → Type 0) (o : Option (Bor Input)) → IfSome (option_copied o) P → IfSome o (λ r. P r.now)
if_copied P None h = tt
if_copied P (Some r) h = h

-- an input of a log has at most 4,096 bytes
pub few_bytes : (o : Option Input) → IfSome o IsInput → IfSome o (λ r. length r.bytes ≤ 4096)
few_bytes None h = tt
few_bytes (Some r) h = h.2.0
