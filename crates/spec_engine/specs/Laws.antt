-- What is promised of these definitions.
use Rattle.std.specs.Prelude.{◌≡◌, ◌≢◌, ℕ, ◌<◌, Bool, true, false, List, Option, Some, None, ◌/◌, [], ◌∷◌}
use Rattle.spec_isa.specs.declared.thread.Kind.{Kind}
use Rattle.spec_isa.specs.declared.thread.Load.{Load}
use Rattle.spec_isa.specs.declared.thread.Parts.{Parts}
use Rattle.spec_isa.specs.Words.{Stored, lays}
use Rattle.spec_isa.specs.Instruction.{Serial, one}
use Rattle.spec_isa.specs.Runs.{more}
use Rattle.spec_engine.specs.declared.answers.How.{How}
use Rattle.spec_engine.specs.declared.answers.Stepped.{Stepped}
use Rattle.spec_engine.specs.Signatures.{Signature, nothing, line, insert, covers, hits}
use Rattle.spec_engine.specs.Flights.{Flight, at, first_slot, told_at, all_told, tell}
use Rattle.spec_engine.specs.Chunks.{Chunk, Stepping, fresh, squash, step}

-- a signature covers a line that was inserted, and what it covered before
pub record SignaturesCover : Type 0 where
  pub inserted : (l : ℕ) (g : Signature) → covers (insert l g) l ≡ true
  pub earlier : (l k : ℕ) (g : Signature) → covers g k ≡ true → covers (insert l g) k ≡ true

-- two signatures of the same size that cover the same line hit, an insert loses no hit, and a line hits as the signature of
-- that line alone does
pub record SignaturesHit : Type 0 where
  pub shared : (g h : Signature) (l : ℕ)
      → h.bits ≡ g.bits
      → covers g l ≡ true
      → covers h l ≡ true
      → hits g h ≡ true
  pub kept : (l : ℕ) (g h : Signature) → hits g h ≡ true → hits g (insert l h) ≡ true
  pub kept_left : (l : ℕ) (g h : Signature) → hits g h ≡ true → hits (insert l g) h ≡ true
  pub alone : (g : Signature) (l : ℕ) → hits g (insert l (nothing g.bits)) ≡ covers g l

-- telling a core changes nothing for any other core, and all are told exactly if each is
pub record CoresAreTold : Type 0 where
  pub none : (c : ℕ) → told_at 0 c ≡ false
  pub same : (f : Flight) (c : ℕ) → told_at (tell f c).told c ≡ true
  pub other : (f : Flight) (c d : ℕ) → d ≢ c → told_at (tell f c).told d ≡ told_at f.told d
  pub each : (n t c : ℕ) → all_told n t ≡ true → c < n → told_at t c ≡ true
  pub all : (n t : ℕ) → ((c : ℕ) → c < n → told_at t c ≡ true) → all_told n t ≡ true

-- the slot that is found passes the test, and no lower one does
pub record FindsTheLeast : Type 0 where
  pub none : (p : Flight → Bool) (xs : List (Option Flight))
      → first_slot p xs ≡ None
      → (k : ℕ) (f : Flight)
      → at xs k ≡ Some f
      → p f ≡ false
  pub some : (p : Flight → Bool) (xs : List (Option Flight)) (k : ℕ)
      → first_slot p xs ≡ Some k
      → (f : Flight) × (at xs k ≡ Some f) × (p f ≡ true)
  pub least : (p : Flight → Bool) (xs : List (Option Flight)) (k : ℕ)
      → first_slot p xs ≡ Some k
      → (j : ℕ) (f : Flight)
      → j < k
      → at xs j ≡ Some f
      → p f ≡ false

-- a step that ran has done one instruction of the run; a step that closed the chunk for a serial instruction met one on the
-- memory that it sees; any other step leaves the run as it was
abbrev pub StepAgrees : List ℕ → Chunk → Stepping → Stepped → Type 0
StepAgrees m ch s Stepped.Ran = s.chunk.done ≡ more m ch.done
StepAgrees m ch s (Stepped.Closed How.Limit) = s.chunk.done ≡ more m ch.done
StepAgrees m ch s (Stepped.Closed How.Serial) =
    (s.chunk.done ≡ ch.done)
    × ((kind : Kind) × (one ch.done.thread (lays m ch.done.words) ≡ Serial kind))
StepAgrees m ch s (Stepped.Closed How.Overflow) = s.chunk.done ≡ ch.done
StepAgrees m ch s (Stepped.Closed How.Cut) = ⊥
StepAgrees m ch s (Stepped.Bounced k) = s.chunk ≡ record ch { reads = s.chunk.reads }

abbrev pub StepsAreInstructions : Type 0
StepsAreInstructions =
    (capacity : ℕ) (m : List ℕ) (slots : List (Option Flight)) (c : ℕ) (ch : Chunk) →
    let s = step capacity m slots c ch in StepAgrees m ch s s.reply

-- ---- the lines of a chunk

-- the signature covers the lines of these words of a sphere
abbrev pub CoversWords : (sphere : ℕ) → Signature → List Stored → Type 0
CoversWords i g [] = Unit {0}
CoversWords i g (s ∷ ss) = (covers g (line i s.number) ≡ true) × CoversWords i g ss

-- and those of the words that these loads read
abbrev pub CoversLoads : (sphere : ℕ) → Signature → List Load → Type 0
CoversLoads i g [] = Unit {0}
CoversLoads i g (l ∷ ls) = (covers g (line i (l.addr / 4)) ≡ true) × CoversLoads i g ls

-- a chunk's writes cover the lines of its words, and its reads those of its loads
pub record IsCovered (ch : Chunk) : Type 0 where
  pub words : CoversWords ch.sphere ch.writes ch.done.words
  pub loads : CoversLoads ch.sphere ch.reads ch.done.loads

-- this is true of a fresh chunk, and stays true
pub record ChunksAreCovered : Type 0 where
  pub begun : (bits i : ℕ) (t : Parts) (limit : ℕ) (halves : Bool)
      → IsCovered (fresh bits i t limit halves)
  pub squashed : (ch : Chunk) → IsCovered (squash ch)
  pub stepped : (capacity : ℕ) (m : List ℕ) (slots : List (Option Flight)) (c : ℕ) (ch : Chunk)
      → IsCovered ch
      → IsCovered (step capacity m slots c ch).chunk
