-- One instruction leaves a thread, and stores a sound word.
use Rattle.std.proofs.Common.{◌≡◌, ℕ, List, Option, Some, None, refl, sym}
use Rattle.std.proofs.lemmas.Option.{none-some}
use Rattle.spec_isa.specs.declared.thread.Parts.{Parts}
use Rattle.spec_isa.specs.declared.thread.Kind.{Kind}
use Rattle.spec_isa.specs.Words.{Stored, is_inside}
use Rattle.spec_isa.specs.Instruction.{operation_of, serial_of, next_of, store_of}
use Rattle.spec_isa.specs.Operations.{refuses}
use Rattle.spec_isa.specs.Runs.{with_store}
use Rattle.spec_isa.specs.Threads.{IsThread}
use Rattle.spec_sphere.specs.promises.Sound.{AreSoundWords}
use Rattle.spec_play.proofs.Threads.{branch}
use Rattle.spec_sphere.proofs.Sound.Words.{IsSoundWord, sound-put, store-sound}
use Rattle.spec_sphere.proofs.Sound.Threads.{then-thread}

-- ---- the next instruction

not-refused : (t : Parts) (f size : ℕ) → serial_of t f size ≡ None → refuses size (operation_of t f) ≡ None
unfolding serial_of
not-refused t f size e =
    branch (λ (o : Option Kind). o ≡ None → refuses size (operation_of t f) ≡ None) (is_inside size t.pc) (refuses size (operation_of t f)) (Some (Kind.Fault 1))
    (λ _ q. q) (λ _ q. absurd (none-some (Kind.Fault 1) (sym q))) e

-- an instruction that is run leaves a thread
pub next-thread : (t : Parts) (f w size : ℕ) → serial_of t f size ≡ None → IsThread t → IsThread (next_of t f w)
unfolding next_of
next-thread t f w size e is = then-thread size (operation_of t f) t w (not-refused t f size e) is

-- and stores a sound word, if it stores one
pub next-store : (t : Parts) (f w size : ℕ) → serial_of t f size ≡ None → (s : Stored) → store_of t f w ≡ Some s → IsSoundWord size s
unfolding store_of
next-store t f w size e s is = store-sound size (operation_of t f) t w (not-refused t f size e) s is

-- sound words stay so with that word put to them
pub with-words : (size : ℕ) (ws : List Stored) (o : Option Stored) → ((s : Stored) → o ≡ Some s → IsSoundWord size s) → AreSoundWords size ws → AreSoundWords size (with_store ws o)
with-words size ws None each all = all
with-words size ws (Some s) each all = sound-put size ws s all (each s refl)
