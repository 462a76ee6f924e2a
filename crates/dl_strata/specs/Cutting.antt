-- Strata as they are cut, commit by commit.
use Rattle.std.specs.Prelude.{◌≡◌, ℕ, ◌+◌, ◌^◌, ◌<◌, ◌⊎◌, List, [], ◌∷◌, ◌++◌, length, map, Option, Some, None, slice_index, slice_set}
use Rattle.std.specs.List.{range_with_len}
use Rattle.dl_entry.specs.declared.Actor.{Actor}
use Rattle.dl_entry.specs.declared.Commit.{Commit}
use Rattle.dl_entry.specs.declared.CommitKind.{CommitKind}
use Rattle.spec_log.specs.declared.LogParts.{LogParts}
use Rattle.spec_play.specs.Turns.{Turn}
use Rattle.spec_play.specs.Plays.{Played, size_or_standard, play_turn, play_one}
use Rattle.spec_strata.specs.declared.touch.Touch.{Touch}
use Rattle.spec_strata.specs.declared.stratum.Stratum.{Stratum}
use Rattle.spec_strata.specs.declared.stratum.Stratum.TheVariants.{Chunks}
use Rattle.spec_strata.specs.Shares.{counts_of}
use Rattle.spec_strata.specs.InPlay.{ChunkGoes}
use Rattle.spec_strata.specs.Touches.{AreTouches}
use Rattle.spec_strata.specs.Coming.{HasCome}
use Rattle.spec_strata.specs.Making.{Present, Cuts}
use Rattle.dl_serial.specs.declared.footprint.Footprint.{Footprint}
use Rattle.dl_serial.specs.Looks.{IsFootprint}
use Rattle.dl_strata.specs.Tables.{Table, touch_of, IsWithin, Touched}

-- what the code keeps: how many threads are counted, the strata that are done, how many chunks the present one has of each
-- thread, if there is one, and who has touched each word in it
pub record Cutting : Type 0 where
  pub counted : ℕ
  pub strata : List Stratum
  pub present : Option (List ℕ)
  pub table : Table

-- each thread that is counted has a count
abbrev pub HasCounts : (counted : ℕ) → Option (List ℕ) → Type 0
HasCounts counted None = Unit {0}
HasCounts counted (Some counts) = length counts ≡ counted

-- ---- the present chunks

-- where the play is, these are the counts of the present chunks, and who has touched each word
pub record IsPresent (counted : ℕ) (y : Played) (touches : List Touch) (counts : List ℕ) (p : Present) : Type 0 where
  pub counts_are : counts ≡ map (counts_of p.threads) (range_with_len 0 counted)
  pub touches_are : AreTouches p.state.shares (touch_of touches)
  pub come : HasCome y p.state

abbrev pub IsPresentIf : (counted : ℕ) → Played → List Touch → Option (List ℕ) → Option Present → Type 0
IsPresentIf counted y touches None None = Unit {0}
IsPresentIf counted y touches (Some counts) (Some p) = IsPresent counted y touches counts p
IsPresentIf counted y touches None (Some p) = ⊥
IsPresentIf counted y touches (Some counts) None = ⊥

-- ---- all of it

-- the code has come to these cuts, where the play is
pub record HasCut (c : Cutting) (y : Played) (x : Cuts) : Type 0 where
  pub strata : c.strata ≡ x.strata
  pub present : IsPresentIf c.counted y c.table.touches c.present x.present

-- ---- one more commit

-- the strata, with the present chunks as one
abbrev pub closed_strata : List Stratum → Option (List ℕ) → List Stratum
closed_strata strata None = strata
closed_strata strata (Some counts) = strata ++ Chunks counts ∷ []

-- a chunk of thread k can be counted and noted
pub record CanCount (c : Cutting) (k : ℕ) (f : Footprint) : Type 0 where
  pub thread : k < c.counted
  pub words : IsWithin (length c.table.touches) f
  pub few : c.table.stratum + 1 < 2 ^ 32

-- a chunk of thread k comes next and goes as logged, with this footprint
pub record IsNextChunk (log : LogParts) (y : Played) (k : ℕ) (f : Footprint) : Type 0 where
  pub some : 0 < log.s
  pub goes : ChunkGoes log y k
  pub footprint : IsFootprint y.memory goes.thread (size_or_standard log k goes.thread.commits) f

-- the chunk is counted among these, and noted
pub record IsCounted (old : Cutting) (counts : List ℕ) (k : ℕ) (f : Footprint) (new : Cutting) : Type 0 where
  pub counted : new.counted ≡ old.counted
  pub strata : new.strata ≡ old.strata
  pub present : new.present ≡ Some (slice_set counts k (slice_index counts k + 1))
  pub stratum : new.table.stratum ≡ old.table.stratum
  pub words : length new.table.touches ≡ length old.table.touches
  pub touched : Touched old.table.touches k f new.table.touches

-- ---- one more commit of any kind

-- a chunk can be counted and noted; a thread commits nothing but chunks and serial steps
pub record CanAdd (c : Cutting) (commit : Commit) (f : Footprint) : Type 0 where
  pub chunk : (k : ℕ) → commit.actor ≡ Actor.Thread k → commit.kind ≡ CommitKind.Chunk → CanCount c k f
  pub kinds : (k : ℕ) → commit.actor ≡ Actor.Thread k → (commit.kind ≡ CommitKind.Chunk) ⊎ (commit.kind ≡ CommitKind.Serial)

-- the play's next commit is this one; a chunk goes as logged, with this footprint
pub record IsNextCommit (log : LogParts) (y : Played) (commit : Commit) (f : Footprint) : Type 0 where
  pub chunk : (k : ℕ) → commit.actor ≡ Actor.Thread k → commit.kind ≡ CommitKind.Chunk
      → IsNextChunk log y k f × (play_one log y ≡ play_turn log y (Turn k))
