-- The outcome of an operation over a view agrees with the instruction's outcome on the bytes that the view shows.
use Rattle.std.proofs.Common.{◌≡◌, ℕ, ◌/◌, length, Bool, true, false, cond, List, Option, Some, None, refl}
use Rattle.spec_isa.specs.declared.thread.Parts.{Parts}
use Rattle.spec_isa.specs.declared.thread.Load.{Load}
use Rattle.spec_isa.specs.declared.thread.Kind.{Kind}
use Rattle.spec_isa.specs.Words.{Stored, is_inside, read}
use Rattle.spec_isa.specs.Instruction.{InstructionOutcome, unless, one, operation_of, serial_of, loads_of, next_of, load_of, store_of}
use Rattle.spec_isa.specs.Operations.{load_then, refuses}
use Rattle.dl_thread.specs.declared.answer.Did.{Did}
use Rattle.dl_thread.specs.Sight.{Sight}
use Rattle.dl_thread.specs.Performing.{store_for, thread_for, word_for}
use Rattle.dl_thread.specs.Answer.{Agrees, accessed, after, holder, has_room, unless_held, unless_serial, with_store}

-- by the checks in their order
by_checks : (held : Option ℕ) (room : Bool) (old next : Parts) (load : Option Load) (store : Option Stored) (m : List ℕ) →
    let d = unless_held held (cond room (Did.Next load) Did.NoRoom) in
    Agrees d (InstructionOutcome.Next next load store) (after d old next) m (after d m (with_store m store))
by_checks (Some k) room old next load store m = tt
by_checks None false old next load store m = tt
by_checks None true old next load store m = (store, refl, refl)

-- an operation's answer over a view, and what it leaves, agree with the instruction's outcome on the bytes shown
pub agreement : (s : Sight) (serial : Option Kind) (read : Option ℕ) (old next : Parts) (load : Option Load) (store : Option Stored) →
    let d = unless_serial serial (accessed s read load store) in
    Agrees d (unless serial (InstructionOutcome.Next next load store)) (after d old next) s.bytes (after d s.bytes (with_store s.bytes store))
agreement s None read old next load store = by_checks (holder s read) (has_room s store) old next load store s.bytes
agreement s (Some kind) read old next load store = refl

-- the outcome of an instruction, by where its pc lies
pub one_outside : (s : Sight) (t : Parts) → is_inside (length s.bytes) t.pc ≡ false → one t s.bytes ≡ InstructionOutcome.Serial (Kind.Fault 1)
unfolding one serial_of
one_outside s t e = rw e refl

-- with the pc inside memory, the outcome is the operation's: refused, or the next thread with its load and store
pub one_inside : (s : Sight) (t : Parts) → is_inside (length s.bytes) t.pc ≡ true →
    let p = operation_of t (read s.bytes (t.pc / 4)) in
    one t s.bytes ≡ unless (refuses (length s.bytes) p) (InstructionOutcome.Next (thread_for s p t) (load_then p (word_for s p)) (store_for s p t))
unfolding one serial_of loads_of next_of load_of store_of
one_inside s t e = rw e refl
