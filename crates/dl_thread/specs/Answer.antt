-- The outcome of one instruction of a thread over a view.
use Rattle.std.specs.Prelude.{◌≡◌, ℕ, ◌/◌, Bool, true, List, length, Option, Some, None, if◌then◌else◌}
use Rattle.spec_isa.specs.declared.thread.Parts.{Parts}
use Rattle.spec_isa.specs.declared.thread.Load.{Load}
use Rattle.spec_isa.specs.declared.thread.Kind.{Kind}
use Rattle.spec_isa.specs.Words.{Stored, lay, read, is_inside}
use Rattle.spec_isa.specs.Instruction.{InstructionOutcome, value_at, serial_of, loads_of, next_of, load_of, store_of}
use Rattle.dl_thread.specs.declared.answer.Did.{Did}
use Rattle.dl_thread.specs.Sight.{Sight}

-- the word that the thread fetches, and the word that it then loads, 0 if it loads none
abbrev pub fetched_word : Sight → Parts → ℕ
fetched_word s t = read s.bytes (t.pc / 4)

abbrev pub loaded_word : Sight → Parts → ℕ
loaded_word s t = value_at s.bytes (loads_of t (fetched_word s t))

-- what the instruction loads, stores and leaves, if it is run
abbrev pub load_made : Sight → Parts → Option Load
load_made s t = load_of t (fetched_word s t) (loaded_word s t)

abbrev pub store_made : Sight → Parts → Option Stored
store_made s t = store_of t (fetched_word s t) (loaded_word s t)

abbrev pub thread_next : Sight → Parts → Parts
thread_next s t = next_of t (fetched_word s t) (loaded_word s t)

-- ---- the checks, each before those that follow it

abbrev pub unless_held : Option ℕ → Did → Did
unless_held None d = d
unless_held (Some k) d = Did.Bounced k

abbrev pub unless_serial : Option Kind → Did → Did
unless_serial None d = d
unless_serial (Some kind) d = Did.Serial kind

-- the flight that holds up the reading of a word, if a word is read
abbrev pub holder : Sight → Option ℕ → Option ℕ
holder s None = None
holder s (Some a) = s.held a

abbrev pub has_room : Sight → Option Stored → Bool
has_room s None = true
has_room s (Some b) = s.room b.number

-- the load may be held up, and there may be no room for the store
abbrev pub accessed : Sight → (read : Option ℕ) → Option Load → Option Stored → Did
accessed s a load store = unless_held (holder s a) (if has_room s store then Did.Next load else Did.NoRoom)

-- a fetch outside memory faults, and any other may be held up; a serial instruction is not run
abbrev pub did : Sight → Parts → Did
did s t =
    let f = fetched_word s t in
    if is_inside (length s.bytes) t.pc
    then
    unless_held (s.held (t.pc / 4))
    (unless_serial (serial_of t f (length s.bytes)) (accessed s (loads_of t f) (load_made s t) (store_made s t)))
    else Did.Serial (Kind.Fault 1)

-- ---- what is left by it

-- a thread or its memory's bytes move on only if the instruction was run
abbrev pub after : {A : Type 0} → Did → (old next : A) → A
after (Did.Next load) old next = next
after (Did.Serial kind) old next = old
after Did.NoRoom old next = old
after (Did.Bounced k) old next = old

abbrev pub with_store : List ℕ → Option Stored → List ℕ
with_store m None = m
with_store m (Some b) = lay m b

abbrev pub bytes_next : Sight → Parts → List ℕ
bytes_next s t = with_store s.bytes (store_made s t)

-- ---- what the view was asked for, and what it answered

-- a word, if nothing holds up its reading
abbrev pub unheld : Option ℕ → ℕ → Option ℕ
unheld None a = Some a
unheld (Some k) a = None

abbrev pub fetch_read : Sight → Parts → Option ℕ
fetch_read s t = if is_inside (length s.bytes) t.pc then unheld (s.held (t.pc / 4)) (t.pc / 4) else None

-- a load is read even if there is then no room for the store
abbrev pub load_read : Did → Option ℕ → Option ℕ
load_read (Did.Next load) a = a
load_read (Did.Serial kind) a = None
load_read Did.NoRoom a = a
load_read (Did.Bounced k) a = None

abbrev pub store_laid : Did → Option Stored → Option Stored
store_laid (Did.Next load) store = store
store_laid (Did.Serial kind) store = None
store_laid Did.NoRoom store = None
store_laid (Did.Bounced k) store = None

-- a view of type V is as it was, or the word was read, or the store was laid
abbrev pub MayRead : {V : Type 0} → (V → ℕ → V → Type 0) → Option ℕ → V → V → Type 0
MayRead Read None v w = w ≡ v
MayRead Read (Some a) v w = Read v a w

abbrev pub MayWrite : {V : Type 0} → (V → Stored → V → Type 0) → Option Stored → V → V → Type 0
MayWrite Wrote None v w = w ≡ v
MayWrite Wrote (Some b) v w = Wrote v b w

-- how the view changes: by a fetch, a load and a store, each if there is one
pub record Seen {V : Type 0} (Read : V → ℕ → V → Type 0) (Wrote : V → Stored → V → Type 0)
    (fetch load : Option ℕ) (store : Option Stored) (v w : V) : Type 0 where
  pub fetched : V
  pub loaded : V
  pub fetches : MayRead Read fetch v fetched
  pub loads : MayRead Read load fetched loaded
  pub stores : MayWrite Wrote store loaded w

abbrev pub Sees : {V : Type 0} → (V → ℕ → V → Type 0) → (V → Stored → V → Type 0) → Sight → Parts → Did → V → V → Type 0
Sees Read Wrote s t d v w =
    Seen Read Wrote (fetch_read s t) (load_read d (loads_of t (fetched_word s t))) (store_laid d (store_made s t)) v w

-- ---- in short

-- from the bytes m the instruction of that outcome was run, and left the thread t and the bytes n; or it is serial; or it
-- was not run, because there was no room or a flight held it up
abbrev pub Agrees : Did → InstructionOutcome → (t : Parts) (m n : List ℕ) → Type 0
Agrees (Did.Next load) o t m n = (store : Option Stored) × (o ≡ InstructionOutcome.Next t load store) × (n ≡ with_store m store)
Agrees (Did.Serial kind) o t m n = o ≡ InstructionOutcome.Serial kind
Agrees Did.NoRoom o t m n = Unit {0}
Agrees (Did.Bounced k) o t m n = Unit {0}
