-- The log of a sphere, told by its points and by what came from outside at each: nothing else is in a log.
use Rattle.std.specs.Prelude.{ℕ, suc, ◌+◌, Bool, false, nat_eq, List, [], ◌∷◌, ◌++◌, length, map, Option, Some, None, if◌then◌else◌}
use Rattle.std.specs.List.{flat_map, range_with_len}
use Rattle.dl_entry.specs.declared.Actor.{Actor}
use Rattle.dl_entry.specs.declared.CommitKind.{CommitKind}
use Rattle.dl_entry.specs.declared.Input.{Input}
use Rattle.dl_entry.specs.declared.Point.{Point}
use Rattle.dl_entry.specs.declared.Request.{Request}
use Rattle.dl_entry.specs.Numbers.{most_threads}
use Rattle.spec_isa.specs.declared.thread.Parts.{Parts}
use Rattle.spec_log.specs.declared.ModeName.{ModeName}
use Rattle.spec_log.specs.declared.Interrupt.{Interrupt}
use Rattle.spec_log.specs.declared.DmaRecord.{DmaRecord}
use Rattle.spec_log.specs.declared.ShortSize.{ShortSize}
use Rattle.spec_log.specs.declared.Sizes.{Sizes}
use Rattle.spec_log.specs.declared.LogParts.{LogParts}
use Rattle.spec_log.specs.Versions.{new_threads}
use Rattle.spec_log.specs.Size.{is_thread}
use Rattle.spec_kernel.specs.Devices.{Devices}
use Rattle.spec_kernel.specs.Needs.{need}
use Rattle.spec_kernel.specs.Answers.{taken, dma_bytes}
use Rattle.spec_play.specs.Progress.{position}
use Rattle.spec_sphere.specs.sphere.Spheres.{Sphere}

-- ---- what came from outside

-- a point, with the record that answered its serial step and the bytes of its DMA
pub record Supplied : Type 0 where
  pub point : Point
  pub input : Option Input
  pub bytes : List ℕ

-- what the devices answer to the next step of a thread; none where it wants nothing from outside
abbrev pub answer_to : Devices → (moment : ℕ) → Sphere → Option Parts → Option Input
answer_to devices moment p None = None
answer_to devices moment p (Some t) = (taken (need t p.memory) devices moment).input

-- the bytes of the input that an outstanding request gets
abbrev pub bytes_for : Devices → Option Request → List ℕ
bytes_for devices None = []
bytes_for devices (Some request) = dma_bytes devices request

-- the points of sphere i
abbrev pub is_of : (i : ℕ) → Point → Bool
is_of i (Point.Commit moment j actor kind size short) = nat_eq j i
is_of i (Point.Raise moment j k value) = nat_eq j i

-- ---- of the points of one sphere

-- the actors of its commits
abbrev pub actors_of : List Point → List Actor
actors_of [] = []
actors_of (Point.Commit moment i actor kind size short ∷ ps) = actor ∷ actors_of ps
actors_of (Point.Raise moment i k value ∷ ps) = actors_of ps

-- the sizes of its commits
abbrev pub sizes_of : List Point → List ℕ
sizes_of [] = []
sizes_of (Point.Commit moment i actor kind size short ∷ ps) = size ∷ sizes_of ps
sizes_of (Point.Raise moment i k value ∷ ps) = sizes_of ps

-- serial steps and DMAs are never short
abbrev pub is_short_chunk : CommitKind → (short : Bool) → Bool
is_short_chunk CommitKind.Chunk short = short
is_short_chunk CommitKind.Serial short = false
is_short_chunk CommitKind.Dma short = false
is_short_chunk CommitKind.Piece short = false

-- of thread k, after so many of its commits, the sizes of the short chunks
abbrev pub shorts_of : (thread commits : ℕ) → List Point → List ShortSize
shorts_of k n [] = []
shorts_of k n (Point.Commit moment i actor kind size short ∷ ps) =
    if is_thread k actor
    then if is_short_chunk kind short
    then record { thread = k; index = n; size = size } ∷ shorts_of k (suc n) ps
    else shorts_of k (suc n) ps
    else shorts_of k n ps
shorts_of k n (Point.Raise moment i j value ∷ ps) = shorts_of k n ps

-- of thread k, after so many of its commits, the interrupts
abbrev pub interrupts_of : (thread commits : ℕ) → List Point → List Interrupt
interrupts_of k n [] = []
interrupts_of k n (Point.Commit moment i actor kind size short ∷ ps) =
    if is_thread k actor then interrupts_of k (suc n) ps else interrupts_of k n ps
interrupts_of k n (Point.Raise moment i j value ∷ ps) =
    if nat_eq j k
    then record { thread = k; index = n; value = value } ∷ interrupts_of k n ps
    else interrupts_of k n ps

-- the record of one point, if it has one
abbrev pub listed : Option Input → List Input
listed None = []
listed (Some r) = r ∷ []

-- the records of its steps
abbrev pub inputs_of : List Supplied → List Input
inputs_of cs = flat_map (λ c. listed c.input) cs

-- the data of a DMA, with the place of its commit
abbrev pub data_at : (commits : ℕ) → Point → (bytes : List ℕ) → List DmaRecord
data_at n (Point.Commit moment i Actor.Dma kind size short) bytes = record { position = n; bytes = bytes } ∷ []
data_at n (Point.Commit moment i (Actor.Thread k) kind size short) bytes = []
data_at n (Point.Raise moment i k value) bytes = []

-- the data of its DMAs, after so many commits
abbrev pub dmas_of : (commits : ℕ) → List Supplied → List DmaRecord
dmas_of n [] = []
dmas_of n (c ∷ cs) = data_at n c.point c.bytes ++ dmas_of (n + length (actors_of (c.point ∷ []))) cs

-- the threads that a sphere can have
abbrev pub threads : List ℕ
threads = range_with_len 0 most_threads

-- ---- the log

-- the order, which picolog has none of
abbrev pub order_in : ModeName → List Point → List Actor
order_in ModeName.OrderSize ps = actors_of ps
order_in ModeName.OrderOnly ps = actors_of ps
order_in ModeName.Picolog ps = []

-- of all threads, if thread k has done `done k` commits before
abbrev pub all_shorts : (done : ℕ → ℕ) → List Point → List ShortSize
all_shorts done ps = flat_map (λ k. shorts_of k (done k) ps) threads

-- in order-size each commit has a size, else each short chunk
abbrev pub sizes_in : ModeName → (done : ℕ → ℕ) → List Point → Sizes
sizes_in ModeName.OrderSize done ps = Sizes.Each (sizes_of ps)
sizes_in ModeName.OrderOnly done ps = Sizes.Short (all_shorts done ps)
sizes_in ModeName.Picolog done ps = Sizes.Short (all_shorts done ps)

-- of all threads
abbrev pub all_interrupts : (done : ℕ → ℕ) → List Point → List Interrupt
all_interrupts done ps = flat_map (λ k. interrupts_of k (done k) ps) threads

-- of the points after n commits, of which thread k has done `done k`. Short sizes and interrupts stand thread by thread;
-- orders, records and DMA data in the order of the points
abbrev pub logged_after : (version : ℕ) → ModeName → (s : ℕ) → (done : ℕ → ℕ) → (n : ℕ) → List Supplied → LogParts
logged_after version mode s done n cs =
    let ps = map (λ c. c.point) cs in
    record {
      version = version;
      threads = new_threads version;
      mode = mode;
      s = s;
      count = length (actors_of ps);
      order = order_in mode ps;
      sizes = sizes_in mode done ps;
      interrupts = all_interrupts done ps;
      inputs = inputs_of cs;
      dmas = dmas_of n cs;
    }

-- of the points from the start on
abbrev pub logged : (version : ℕ) → ModeName → (s : ℕ) → List Supplied → LogParts
logged version mode s cs = logged_after version mode s (λ k. 0) 0 cs
