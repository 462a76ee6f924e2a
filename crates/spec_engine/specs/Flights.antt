-- Flights: commits whose stores are still being made visible, each in its slot.
use Rattle.std.specs.Prelude.{ℕ, zero, suc, ◌≡◌, ◌/◌, ◌%◌, ◌^◌, Bool, true, false, ◌&&◌, ◌||◌, nat_eq, List, [], ◌∷◌, Option, Some, None, bit_or, if◌then◌else◌, slice_set, slice_index_or}
use Rattle.std.specs.List.{position}
use Rattle.spec_isa.specs.Words.{Stored, lay}
use Rattle.spec_engine.specs.declared.answers.Drain.{Drain}
use Rattle.spec_engine.specs.declared.answers.Deliver.{Deliver}
use Rattle.spec_engine.specs.declared.answers.Retire.{Retire}
use Rattle.spec_engine.specs.Signatures.{Signature, covers, hits}
use Rattle.spec_isa.specs.Inside.{AreInside}

-- the sphere, the words left in the order of their first store, the lines stored to, and the cores told: bit c stands for core c
pub record Flight : Type 0 where
  pub sphere : ℕ
  pub words : List Stored
  pub writes : Signature
  pub told : ℕ

-- the number of cores that each flight is told to, and the slots
pub record Flights : Type 0 where
  pub cores : ℕ
  pub slots : List (Option Flight)

-- what slot k holds
abbrev pub at : {A : Type 0} → List (Option A) → (k : ℕ) → Option A
at xs k = slice_index_or xs k None

-- ---- searches

abbrev pub passes : {A : Type 0} → (A → Bool) → Option A → Bool
passes p None = false
passes p (Some x) = p x

abbrev pub is_none : {A : Type 0} → Option A → Bool
is_none None = true
is_none (Some x) = false

-- the lowest slot that holds something that passes the test
unfoldable pub first_slot : {A : Type 0} → (A → Bool) → List (Option A) → Option ℕ
first_slot p xs = position (passes p) xs

-- the lowest free slot
unfoldable pub free_slot : {A : Type 0} → List (Option A) → Option ℕ
free_slot xs = position is_none xs

-- no slot is free
abbrev pub is_full : {A : Type 0} → List (Option A) → Bool
is_full xs = is_none (free_slot xs)

abbrev pub fill_at : {A : Type 0} → Option ℕ → A → List (Option A) → List (Option A)
fill_at None x xs = xs
fill_at (Some k) x xs = slice_set xs k (Some x)

-- with this in the lowest free slot
abbrev pub fill : {A : Type 0} → A → List (Option A) → List (Option A)
fill x xs = fill_at (free_slot xs) x xs

-- ---- tests of a flight

-- core c was told
abbrev pub told_at : (told core : ℕ) → Bool
told_at t c = nat_eq (t / 2 ^ c % 2) 1

-- each core below n was told
abbrev pub all_told : (n told : ℕ) → Bool
all_told zero t = true
all_told (suc n) t = told_at t n && all_told n t

-- it holds up core c's reading of a line: the core was told, and the line hits the lines stored to
abbrev pub bounces : (core line : ℕ) → Flight → Bool
bounces c l f = told_at f.told c && covers f.writes l

-- it hits what a chunk has read or written
abbrev pub meets_chunk : (reads writes : Signature) → Flight → Bool
meets_chunk reads writes f = hits f.writes reads || hits f.writes writes

abbrev pub is_of_sphere : (sphere : ℕ) → Flight → Bool
is_of_sphere i f = nat_eq f.sphere i

-- ---- what is done to one slot

-- what draining a slot answers, and the slot and the memory of its sphere after it
pub record Drained : Type 0 where
  pub reply : Drain
  pub slot : Option Flight
  pub memory : List ℕ

abbrev pub drain_words : List ℕ → Flight → (words : List Stored) → Drained
drain_words m f [] = record { reply = Drain.Clean; slot = Some f; memory = m }
drain_words m f (s ∷ ss) = record { reply = Drain.Drained; slot = Some (record f { words = ss }); memory = lay m s }

-- the first word left goes to memory
abbrev pub drain : List ℕ → Option Flight → Drained
drain m None = record { reply = Drain.NoCommit; slot = None; memory = m }
drain m (Some f) = drain_words m f f.words

pub record Delivered : Type 0 where
  pub reply : Deliver
  pub slot : Option Flight

abbrev pub tell : Flight → (core : ℕ) → Flight
tell f c = record f { told = bit_or f.told (2 ^ c) }

-- core c, whose chunk has these reads and writes, is told; the chunk is to be squashed if the flight hits it
abbrev pub deliver : (core : ℕ) → (reads writes : Signature) → Option Flight → Delivered
deliver c reads writes None = record { reply = Deliver.NoCommit; slot = None }
deliver c reads writes (Some f) =
    if told_at f.told c
    then record { reply = Deliver.Already; slot = Some f }
    else record {
      reply = (if meets_chunk reads writes f then Deliver.Squashed else Deliver.Delivered);
      slot = Some (tell f c);
    }

pub record Retired : Type 0 where
  pub reply : Retire
  pub slot : Option Flight

abbrev pub has_none : List Stored → Bool
has_none [] = true
has_none (s ∷ ss) = false

-- no word is left, and every core was told
abbrev pub is_done : (cores : ℕ) → Flight → Bool
is_done n f = has_none f.words && all_told n f.told

-- the slot of a flight that is done becomes free
abbrev pub retire : (cores : ℕ) → Option Flight → Retired
retire n None = record { reply = Retire.NoCommit; slot = None }
retire n (Some f) =
    if is_done n f then record { reply = Retire.Retired; slot = None } else record { reply = Retire.NotDone; slot = Some f }

-- ---- what calls on one slot require

-- if there is a flight, its signature has that many bits
abbrev pub IsOfSize : (bits : ℕ) → Option Flight → Type 0
IsOfSize bits None = Unit {0}
IsOfSize bits (Some f) = f.writes.bits ≡ bits

-- the same for every slot
pub record AreOfSize (bits : ℕ) (slots : List (Option Flight)) : Type 0 where
  pub each : (k : ℕ) → IsOfSize bits (at slots k)

-- if there is a flight, each of the words that it has left does
abbrev pub IsInside : (size : ℕ) → Option Flight → Type 0
IsInside size None = Unit {0}
IsInside size (Some f) = AreInside size f.words
