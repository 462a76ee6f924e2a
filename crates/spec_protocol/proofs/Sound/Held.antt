-- What a core holds is sound: its older chunk and the younger one.
use Rattle.std.proofs.Common.{◌≡◌, ℕ, ◌≤◌, ◌&&◌, Option, Some, None, sym, ◌∙◌, subst}
use Rattle.std.specs.Prelude.{option_map, nat_lt}
use Rattle.std.proofs.lemmas.Option.{none-some}
use Rattle.spec_isa.specs.declared.thread.Parts.{Parts}
use Rattle.spec_isa.specs.Threads.{IsThread}
use Rattle.spec_play.specs.Effects.{counted}
use Rattle.spec_play.specs.Progress.{position}
use Rattle.spec_engine.specs.Chunks.{Chunk, squash, may_follow}
use Rattle.dl_entry.specs.Numbers.{most_chunk}
use Rattle.spec_sphere.specs.sphere.Spheres.{Sphere, limit_after, halves, replays}
use Rattle.spec_protocol.specs.machine.World.{Occupant}
use Rattle.spec_protocol.specs.machine.Stepping.{younger_afresh, younger_for}
use Rattle.spec_protocol.specs.machine.Machine.{Setup}
use Rattle.spec_protocol.specs.promises.Sound.{image_at, size_of, IsSoundChunk}
use Rattle.spec_sphere.specs.promises.Sound.{IsSoundSphere}
use Rattle.spec_play.proofs.Threads.{branch}
use Rattle.spec_protocol.proofs.Sound.Chunks.{squash-sound, fresh-sound}
use Rattle.spec_sphere.proofs.Sound.Limits.{after-most}

-- both chunks that a core holds are sound in their sphere's memory
pub record IsSoundHeld (s : Setup) (h : Occupant) : Type 0 where
  pub older : IsSoundChunk s.numbers.capacity (size_of s h.chunk.sphere) h.chunk
  pub younger : (y : Chunk) → h.younger ≡ Some y → IsSoundChunk s.numbers.capacity (size_of s h.chunk.sphere) y

-- an older chunk that none follows
pub older-only : (s : Setup) (h : Occupant) → IsSoundChunk s.numbers.capacity (size_of s h.chunk.sphere) h.chunk → h.younger ≡ None → IsSoundHeld s h
older-only s h older none = record { older = older; younger = λ y e. absurd (none-some y (sym none ∙ e)) }

-- another older chunk that none follows
pub older-alone : (s : Setup) (h : Occupant) (ch : Chunk) → h.younger ≡ None → IsSoundChunk s.numbers.capacity (size_of s ch.sphere) ch → IsSoundHeld s (record h { chunk = ch })
older-alone s h ch none older = older-only s (record h { chunk = ch }) older none

-- another younger chunk that follows the same
pub with-younger : (s : Setup) (h : Occupant) (y : Chunk) → IsSoundHeld s h → IsSoundChunk s.numbers.capacity (size_of s h.chunk.sphere) y → IsSoundHeld s (record h { younger = Some y })
with-younger s h y k younger =
    record { older = k.older; younger = λ x e. subst (IsSoundChunk s.numbers.capacity (size_of s h.chunk.sphere)) (let q : y ≡ x = cc in q) younger }

-- so is a younger one that begins again
pub squashed-sound : (s : Setup) (h : Occupant) (o : Option Chunk) → h.younger ≡ o → IsSoundHeld s h → (x : Chunk) → option_map squash o ≡ Some x → IsSoundChunk s.numbers.capacity (size_of s h.chunk.sphere) x
squashed-sound s h None is k x e = absurd (none-some x e)
squashed-sound s h (Some y) is k x e =
    let size = size_of s h.chunk.sphere in
    subst (IsSoundChunk s.numbers.capacity size) (let q : squash y ≡ x = cc in q) (squash-sound s.numbers.capacity size y (k.younger y is))

-- a commit's end leaves a thread
counted-thread : (t : Parts) → IsThread t → IsThread (counted t)
counted-thread t is = record { pc = is.pc; saved_pc = is.saved_pc; handler = is.handler; zero = is.zero; registers = is.registers }

-- the younger chunk of which a step speaks is sound
pub younger-sound : (s : Setup) (now : ℕ) (p : Sphere) (h : Occupant) (y : Chunk) (o : Option Chunk) → s.numbers.s ≤ most_chunk → IsSoundSphere s.numbers.s (image_at s h.chunk.sphere) now p → IsSoundHeld s h → h.younger ≡ o → younger_for s.numbers p.role h o ≡ Some y
    → IsSoundChunk s.numbers.capacity (size_of s h.chunk.sphere) y
younger-sound s now p h y (Some x) most sphere k is e = k.younger y (is ∙ e)
younger-sound s now p h y None most sphere k is e =
    let t = counted h.chunk.done.thread in
    let size = size_of s h.chunk.sphere in
    branch (λ (o : Option Chunk). o ≡ Some y → IsSoundChunk s.numbers.capacity size y) (nat_lt 1 s.numbers.depth && may_follow (replays p.role) h.chunk.closed) (Some (younger_afresh s.numbers p.role h)) None
    (λ _ q. subst (IsSoundChunk s.numbers.capacity size) (let r : younger_afresh s.numbers p.role h ≡ y = cc in r)
    (fresh-sound s.numbers.capacity size s.numbers.bits h.chunk.sphere t (limit_after s.numbers.s p.role h.thread t) (halves p.role)
    (after-most s.numbers.s (position p.progress) p.threads p.role h.thread t most sphere.role) (counted-thread h.chunk.done.thread k.older.thread)))
    (λ _ q. absurd (none-some y q)) e
