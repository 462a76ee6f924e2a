-- What a serial step does, with what came from outside for it, if it needed something.
use Rattle.std.specs.Prelude.{ℕ, ◌%◌, ◌^◌, Bool, ◌&&◌, nat_le, nat_lt, List, [], ◌∷◌, ◌++◌, length, take, Option, Some, None, if◌then◌else◌}
use Rattle.dl_entry.specs.declared.Input.{Input}
use Rattle.dl_entry.specs.declared.Load.{Load}
use Rattle.dl_entry.specs.declared.Output.{Output}
use Rattle.dl_entry.specs.declared.Request.{Request}
use Rattle.spec_isa.specs.declared.thread.Parts.{Parts}
use Rattle.spec_isa.specs.declared.thread.Kind.{Kind}
use Rattle.spec_isa.specs.declared.thread.ThreadStatus.{ThreadStatus}
use Rattle.spec_isa.specs.declared.operation.Operation.{Operation}
use Rattle.spec_isa.specs.Words.{Stored}
use Rattle.spec_isa.specs.Numbers.{breakpoint}
use Rattle.spec_isa.specs.Operations.{at_pc, following}
use Rattle.spec_kernel.specs.Numbers.{call_spawn, call_handler, channel_console}
use Rattle.spec_kernel.specs.Devices.{Devices, console_put}
use Rattle.spec_kernel.specs.Copies.{copied}
use Rattle.spec_kernel.specs.Needs.{Need, Write, Read, Random, Clock, MomentWord, InputWord, next_kind, next_operation, need, number_of}
use Rattle.spec_kernel.specs.Answers.{bad_buffer}
use Rattle.spec_kernel.specs.Calls.{Called, called, with_result}

-- what a serial step leaves: its thread, the threads that it spawned, the outstanding DMA request, the words that the
-- kernel stored for it, and what the account tells of it. No other thread changes
pub record StepResult : Type 0 where
  pub thread : Parts
  pub spawned : List Parts
  pub request : Option Request
  pub words : List Stored
  pub loads : List Load
  pub outputs : List Output

-- the thread alone
abbrev pub alone : Option Request → Parts → StepResult
alone request t = record { thread = t; spawned = []; request = request; words = []; loads = []; outputs = [] }

-- ---- calls

-- the bytes that came go to the buffer of a read or a random
abbrev pub copy_of : Option Need → Input → List Stored
copy_of (Some (Read channel buf len)) r = copied buf r.bytes
copy_of (Some (Random buf len)) r = copied buf r.bytes
copy_of (Some (Write channel bytes)) r = []
copy_of (Some Clock) r = []
copy_of (Some MomentWord) r = []
copy_of (Some InputWord) r = []
copy_of None r = []

-- a write's output: as many of its bytes as the result says went
abbrev pub output_of : Option Need → Input → List Output
output_of (Some (Write channel bytes)) r =
    record { channel = channel; bytes = if nat_le r.result (length bytes) then take r.result bytes else [] } ∷ []
output_of (Some (Read channel buf len)) r = []
output_of (Some (Random buf len)) r = []
output_of (Some Clock) r = []
output_of (Some MomentWord) r = []
output_of (Some InputWord) r = []
output_of None r = []

-- an outside call: the record's result goes to a0; if there is no record, the buffer was bad
abbrev pub outside_called : Option Need → Option Request → Parts → Option Input → StepResult
outside_called need request t None = alone request (with_result bad_buffer t)
outside_called need request t (Some r) =
    record {
      thread = with_result r.result t;
      spawned = [];
      request = request;
      words = copy_of need r;
      loads = [];
      outputs = output_of need r;
    }

abbrev pub inside_called : Called → StepResult
inside_called c = record { thread = c.thread; spawned = c.spawned; request = c.request; words = []; loads = []; outputs = [] }

-- the calls from write to clock, whose numbers are between those of spawn and handler, go outside
abbrev pub is_outside : Parts → Bool
is_outside t = nat_lt call_spawn (number_of t) && nat_lt (number_of t) call_handler

-- ---- device words

-- a load of a device word: it gives what came, and is told as a load
abbrev pub device_loaded : Option Request → Parts → Operation → Option Input → StepResult
device_loaded request t (Operation.Load op rd a) (Some r) =
    record (alone request (at_pc t rd r.result (following t))) { loads = record { address = a; value = r.result } ∷ [] }
device_loaded request t _ _ = alone request t

-- a store to the console's word: its low byte is an output of the console
abbrev pub device_stored : Option Request → Parts → Operation → StepResult
device_stored request t (Operation.Store op a v) =
    record (alone request (record t { pc = following t })) { outputs = record { channel = channel_console; bytes = v % 2 ^ 8 ∷ [] } ∷ [] }
device_stored request t _ = alone request t

-- ---- the step

-- a thread that faults keeps its pc
abbrev pub faulted : (cause : ℕ) → Parts → Parts
faulted cause t = record t { status = ThreadStatus.Fault cause }

abbrev pub serve_kind : (most : ℕ) → Option Kind → (number : ℕ) → List Parts → Option Request → Parts → List ℕ → Option Input → StepResult
serve_kind most None number threads request t m input = alone request t
serve_kind most (Some Kind.Call) number threads request t m input =
    if is_outside t
    then outside_called (need t m) request t input
    else inside_called (called most (length m) number threads request t)
serve_kind most (Some Kind.Break) number threads request t m input = alone request (faulted breakpoint t)
serve_kind most (Some Kind.DeviceLoad) number threads request t m input = device_loaded request t (next_operation t m) input
serve_kind most (Some Kind.DeviceStore) number threads request t m input = device_stored request t (next_operation t m)
serve_kind most (Some (Kind.Fault cause)) number threads request t m input = alone request (faulted cause t)

-- the next step of a thread, which has that number among these threads, of which there may be at most so many, on a memory
unfoldable pub serve : (most number : ℕ) → List Parts → Option Request → Parts → List ℕ → Option Input → StepResult
serve most number threads request t m input = serve_kind most (next_kind t m) number threads request t m input

-- ---- the console's word

abbrev pub bytes_out : List Output → List ℕ
bytes_out [] = []
bytes_out (o ∷ os) = o.bytes ++ bytes_out os

abbrev pub store_written : Option Kind → List Output → Devices → Devices
store_written (Some Kind.DeviceStore) outputs d = console_put (bytes_out outputs) d
store_written (Some Kind.Call) outputs d = d
store_written (Some Kind.Break) outputs d = d
store_written (Some Kind.DeviceLoad) outputs d = d
store_written (Some (Kind.Fault cause)) outputs d = d
store_written None outputs d = d

-- the devices after a step that left these outputs: a store to the console's word has put its byte on the console
unfoldable pub console_written : Parts → List ℕ → List Output → Devices → Devices
console_written t m outputs d = store_written (next_kind t m) outputs d
