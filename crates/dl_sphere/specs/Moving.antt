-- What requests come to.
use Rattle.std.specs.Prelude.{◌≡◌, ℕ, ◌+◌, ◌<◌, ◌≤◌, ◌⊎◌, true, false, List, [], ◌∷◌, ◌++◌, insert, slice_get, Option, Some, None}
use Rattle.dl_entry.specs.declared.Commit.{Commit}
use Rattle.spec_isa.specs.declared.thread.Parts.{Parts}
use Rattle.spec_engine.specs.declared.answers.How.{How}
use Rattle.spec_engine.specs.Chunks.{Chunk}
use Rattle.spec_kernel.specs.Devices.{Devices}
use Rattle.spec_play.specs.Turns.{Turn, TurnOfDma}
use Rattle.spec_sphere.specs.sphere.Spheres.{Cursor, Role, Plain, Record, Replay, Sphere, is_over, joins_in, limit_in, whole_limit}
use Rattle.spec_sphere.specs.sphere.Spheres.{replays}
use Rattle.spec_engine.specs.Closing.{is_short, is_piece}
use Rattle.spec_sphere.specs.sphere.Commits as commits
use Rattle.dl_sphere.specs.declared.moved.DmaSize.{DmaSize}
use Rattle.dl_sphere.specs.declared.moved.Moved.{Moved}

-- an answer, with the sphere and the devices that it left
abbrev pub came : Moved → Sphere → Devices → commits.MovedSphere
came (Moved.Granted words) p d = record { outcome = commits.Granted; sphere = p; words = words.words; devices = d }
came (Moved.Piece words) p d = record { outcome = commits.Piece; sphere = p; words = words.words; devices = d }
came (Moved.Diverged i why) p d = record { outcome = commits.Diverged i why; sphere = p; words = []; devices = d }

-- what a size says of the outcome of a DMA, where so many commits are done
abbrev pub SaysOutcome : DmaSize → (done : ℕ) → Option commits.MovedSphere → Type 0
SaysOutcome s i None = ⊥
SaysOutcome (DmaSize.Bytes n) i (Some v) = v.outcome ≡ commits.Granted
SaysOutcome (DmaSize.Diverged why) i (Some v) = v.outcome ≡ commits.Diverged i why

-- in strata a thread that goes on joins in
pub record JoinsIn (b : Cursor) (k : ℕ) : Type 0 where
  pub going : is_over b.now ≡ false
  pub joins : joins_in b.strata k b.total ≡ true

-- thread k may commit: it has the turn or joins in
abbrev pub MayCommit : Cursor → (thread : ℕ) → Type 0
MayCommit b k = (b.now ≡ Turn k) ⊎ JoinsIn b k

-- a part of a replayed commit of thread k, which may commit: the commit has room for an instruction more than the pieces
-- before have, the chunk has the limit that its thread has now, below which a piece stays, and the commit isn't empty
pub record IsPart (b : Cursor) (k : ℕ) (how : How) (ch : Chunk) : Type 0 where
  pub may : MayCommit b k
  pub room : b.total < whole_limit b.log k ch.done.thread.commits
  pub limit : ch.limit ≡ limit_in (Replay b) 0 k ch.done.thread.commits
  pub most : ch.done.n ≤ ch.limit
  pub early : is_piece how ≡ true → ch.done.n < ch.limit
  pub some : 1 ≤ b.total + ch.done.n

-- thread k may commit, where the sphere is replayed
abbrev pub IsTurnOf : (thread : ℕ) → Role → Type 0
IsTurnOf k Plain = Unit {0}
IsTurnOf k (Record recording) = Unit {0}
IsTurnOf k (Replay b) = MayCommit b k

-- it is the turn of a DMA, where the sphere is replayed
abbrev pub IsTurnOfDma : Role → Type 0
IsTurnOfDma Plain = Unit {0}
IsTurnOfDma (Record recording) = Unit {0}
IsTurnOfDma (Replay b) = b.now ≡ TurnOfDma

-- in a replay the chunk is a part of a commit of a thread that may commit
abbrev pub IsPartIn : Role → (thread : ℕ) → How → Chunk → Type 0
IsPartIn Plain k how ch = Unit {0}
IsPartIn (Record recording) k how ch = Unit {0}
IsPartIn (Replay b) k how ch = IsPart b k how ch

-- a chunk of thread k, closed so, that can be committed: it began from the thread's own number of commits; in a sphere that
-- isn't replayed it has no more than a standard chunk's instructions; it has some where it is short; and in one that is
-- replayed it is a part of a commit of a thread that may commit
pub record CanCommit (s : ℕ) (p : Sphere) (k : ℕ) (how : How) (ch : Chunk) : Type 0 where
  pub closed : ch.closed ≡ Some how
  pub commits : (t : Parts) → slice_get p.threads k ≡ Some t → ch.done.thread.commits ≡ t.commits
  pub size : replays p.role ≡ false → ch.done.n ≤ s
  pub some : is_short s how ch.limit ≡ true → 1 ≤ ch.done.n
  pub part : IsPartIn p.role k how ch

-- with a commit more: in its place, or if it has none after the others
abbrev pub put_at : (place : Option ℕ) → Commit → List Commit → List Commit
put_at None c cs = cs ++ c ∷ []
put_at (Some i) c cs = insert cs i c
