-- What is sound of a world: sizes and ranges that hold of every world which a setup within its limits comes to, beside the invariant.
use Rattle.std.specs.Prelude.{◌≡◌, ℕ, ◌^◌, ◌<◌, ◌≤◌, true, List, length, slice_get, slice_index, slice_index_or, All, Some}
use Rattle.dl_entry.specs.Numbers.{most_chunk}
use Rattle.spec_isa.specs.Threads.{IsThread}
use Rattle.spec_kernel.specs.Devices.{HaveByteInput}
use Rattle.spec_engine.specs.Signatures.{is_size}
use Rattle.spec_engine.specs.Flights.{Flight, at}
use Rattle.spec_engine.specs.Chunks.{Chunk}
use Rattle.spec_protocol.specs.declared.event.Event.{Event}
use Rattle.spec_protocol.specs.machine.World.{Occupant, World, moment, sphere_at}
use Rattle.spec_sphere.specs.sphere.Setups.{SphereSetup}
use Rattle.spec_protocol.specs.machine.Machine.{Setup, happens}
use Rattle.spec_protocol.specs.promises.Promises.{AreSizesKept, after}
use Rattle.spec_protocol.specs.promises.Invariants.{IsGood}
use Rattle.spec_sphere.specs.promises.Sound.{IsChunkSize, IsImage, AreSoundWords, no_image, IsSoundSphere}

-- ---- the limits of a setup

-- cores, slots and spheres are 1 to 8
abbrev pub AreFew : ℕ → Type 0
AreFew n = (1 ≤ n) × (n ≤ 8)

pub record IsWithinLimits (s : Setup) : Type 0 where
  pub cores : AreFew s.cores
  pub window : AreFew s.window
  pub few : AreFew (length s.spheres)
  pub chunk : IsChunkSize s.numbers.s
  pub depth : 1 ≤ s.numbers.depth
  pub most_depth : s.numbers.depth ≤ 2
  pub buffer : 1 ≤ s.numbers.capacity
  pub most_buffer : s.numbers.capacity ≤ 4096
  pub signature : is_size s.numbers.bits ≡ true
  pub input : All (λ byte. byte < 2 ^ 8) s.input
  pub images : (i : ℕ) (image : SphereSetup) → slice_get s.spheres i ≡ Some image → IsImage s.numbers.s image

-- ---- a sphere

-- the image of sphere i, and the length of its memory
abbrev pub image_at : Setup → (i : ℕ) → SphereSetup
image_at s i = slice_index_or s.spheres i no_image

abbrev pub size_of : Setup → (i : ℕ) → ℕ
size_of s i = length (image_at s i).memory

-- ---- a core

-- a running chunk: its words lie in the memory of its sphere and find room in the buffer; its limit is a size that a log
-- can have; squashes are counted to 3; and its thread has the commits and the status that it began with
pub record IsSoundChunk (capacity size : ℕ) (ch : Chunk) : Type 0 where
  pub words : AreSoundWords size ch.done.words
  pub room : length ch.done.words ≤ capacity
  pub limit : ch.limit ≤ most_chunk
  pub squashes : ch.squashes < 4
  pub start : IsThread ch.start
  pub thread : IsThread ch.done.thread
  pub commits : ch.done.thread.commits ≡ ch.start.commits
  pub status : ch.done.thread.status ≡ ch.start.status

-- ---- the world

-- a world that the setup has come to
pub record IsSound (s : Setup) (w : World) : Type 0 where
  pub sizes : AreSizesKept s w
  pub devices : HaveByteInput w.devices
  -- no reply was given more often than there were events
  pub replies : (k : ℕ) → slice_index w.counts.replies k ≤ moment w
  pub spheres : (i : ℕ)
      → i < length w.spheres
      → IsSoundSphere s.numbers.s (image_at s i) (moment w) (sphere_at w i)
  pub flights : (k : ℕ) (f : Flight)
      → at w.slots k ≡ Some f
      → AreSoundWords (size_of s f.sphere) f.words
  pub held : (c : ℕ) (h : Occupant)
      → at w.cores c ≡ Some h
      → IsSoundChunk s.numbers.capacity (size_of s h.chunk.sphere) h.chunk
  pub younger : (c : ℕ) (h : Occupant) (y : Chunk)
      → at w.cores c ≡ Some h
      → h.younger ≡ Some y
      → IsSoundChunk s.numbers.capacity (size_of s h.chunk.sphere) y

-- ---- the promises

-- so is each world that a setup within its limits comes to
abbrev pub WorldsAreSound : Type 0
WorldsAreSound = (s : Setup) (es : List Event) → IsWithinLimits s → IsSound s (after s es)

-- and any event keeps it, where the invariant holds
abbrev pub EventsKeepSound : Type 0
EventsKeepSound =
    (s : Setup) (w : World) (e : Event)
    → IsWithinLimits s
    → IsGood w
    → IsSound s w
    → IsSound s (happens w e).world
