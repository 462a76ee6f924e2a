-- One instruction over the memory tells why a thread's next step is serial.
use Rattle.std.proofs.Common.{◌≡◌, ℕ, Bool, true, false, cond, List, length, Option, Some, None, refl, ap, ◌∙◌}
use Rattle.spec_isa.specs.declared.thread.Parts.{Parts}
use Rattle.spec_isa.specs.declared.thread.Load.{Load}
use Rattle.spec_isa.specs.declared.thread.Kind.{Kind}
use Rattle.spec_isa.specs.Words.{Stored, is_inside}
use Rattle.spec_isa.specs.Operations.{refuses}
use Rattle.spec_isa.specs.Instruction.{operation_of, serial_of, loads_of, load_of, store_of}
use Rattle.spec_kernel.specs.Needs.{next_kind, fetched}
use Rattle.dl_thread.specs.Answer.{accessed, did, unless_serial, loaded_word}
use Rattle.dl_thread.specs.declared.answer.Did.{Did}
use Rattle.dl_kernel.specs.Peeks.{sight_of, serial_kind}

-- an instruction that is carried out, or finds no room, is not serial
none-carried : (m : List ℕ) (a : Option ℕ) (load : Option Load) (store : Option Stored) → serial_kind (accessed (sight_of m) a load store) ≡ None
none-carried m None load None = refl
none-carried m None load (Some b) = refl
none-carried m (Some a) load None = refl
none-carried m (Some a) load (Some b) = refl

by-fetch : (inside : Bool) (refused : Option Kind) (d : Did) → serial_kind d ≡ None
    → serial_kind (cond inside (unless_serial (cond inside refused (Some (Kind.Fault 1))) d) (Did.Serial (Kind.Fault 1))) ≡ cond inside refused (Some (Kind.Fault 1))
by-fetch true None d none = none
by-fetch true (Some kind) d none = refl
by-fetch false refused d none = refl

serial_kind-next : (m : List ℕ) (t : Parts) → serial_kind (did (sight_of m) t) ≡ next_kind t m
unfolding next_kind serial_of
serial_kind-next m t =
    let s = sight_of m in
    let f = fetched t m in
    by-fetch (is_inside (length m) t.pc) (refuses (length m) (operation_of t f))
    (accessed s (loads_of t f) (load_of t f (loaded_word s t)) (store_of t f (loaded_word s t)))
    (none-carried m (loads_of t f) (load_of t f (loaded_word s t)) (store_of t f (loaded_word s t)))

-- what an instruction over the memory is found to be is what the thread's next step is
pub kind_found : (m : List ℕ) (t : Parts) (d : Did) → d ≡ did (sight_of m) t → serial_kind d ≡ next_kind t m
kind_found m t d is = ap serial_kind is ∙ serial_kind-next m t

inside-by : (inside : Bool) (refused : Option Kind) → cond inside refused (Some (Kind.Fault 1)) ≡ Some Kind.DeviceLoad → inside ≡ true
inside-by true refused is = refl
inside-by false refused is = cc

-- a device word is loaded by an instruction inside the memory
pub device_inside : (m : List ℕ) (t : Parts) → next_kind t m ≡ Some Kind.DeviceLoad → is_inside (length m) t.pc ≡ true
unfolding next_kind serial_of
device_inside m t is = inside-by (is_inside (length m) t.pc) (refuses (length m) (operation_of t (fetched t m))) is

inside-to-store : (inside : Bool) (refused : Option Kind) → cond inside refused (Some (Kind.Fault 1)) ≡ Some Kind.DeviceStore → inside ≡ true
inside-to-store true refused is = refl
inside-to-store false refused is = cc

-- a device word is stored to by an instruction inside the memory
pub device_stored_inside : (m : List ℕ) (t : Parts) → next_kind t m ≡ Some Kind.DeviceStore → is_inside (length m) t.pc ≡ true
unfolding next_kind serial_of
device_stored_inside m t is = inside-to-store (is_inside (length m) t.pc) (refuses (length m) (operation_of t (fetched t m))) is
