-- What an outside call or a device load leaves, and whether a record fits.
use Rattle.std.specs.Prelude.{◌≡◌, ℕ, nat_eq, Bool, true, false, Option, Some, None, Result, Ok, Err}
use Rattle.dl_entry.specs.declared.Input.{Input}
use Rattle.dl_entry.specs.declared.OutOfMemory.{OutOfMemory}
use Rattle.spec_kernel.specs.Numbers.{channel_console}
use Rattle.spec_kernel.specs.Devices.{Devices}
use Rattle.spec_kernel.specs.Needs.{Need, Write, Read, Random, Clock, MomentWord, InputWord}
use Rattle.spec_kernel.specs.Answers.{Answered, answer}
use Rattle.dl_kernel.specs.declared.record.Injected.{Injected}
use Rattle.dl_kernel.specs.declared.record.Injected.TheVariants.{Fits, Misfit}

-- an answer's record and devices, or the devices as before where no memory was left for the record
abbrev pub Leaves : Result Input OutOfMemory → (old new : Devices) → Answered → Type 0
Leaves (Ok input) old new a = record { input = input; devices = new } ≡ a
Leaves (Err error) old new a = new ≡ old

-- the record, where something is wanted
abbrev pub record_left : (moment : ℕ) → Devices → Option Need → Option Input
record_left moment d None = None
record_left moment d (Some need) = Some (answer d need moment).input

-- the devices then, which are as before where nothing is wanted
abbrev pub devices_left : (moment : ℕ) → Devices → Option Need → Devices
devices_left moment d None = d
devices_left moment d (Some need) = (answer d need moment).devices

-- only a write to the console, and what brings bytes, can want memory
abbrev pub wants_memory : Option Need → Bool
wants_memory None = false
wants_memory (Some (Write channel bytes)) = nat_eq channel channel_console
wants_memory (Some (Read channel buf len)) = true
wants_memory (Some (Random buf len)) = true
wants_memory (Some Clock) = false
wants_memory (Some MomentWord) = false
wants_memory (Some InputWord) = false

-- ---- records

abbrev pub injected : Bool → Injected
injected true = Fits
injected false = Misfit
