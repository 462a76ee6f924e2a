-- A sphere that is replayed in strata, beside the play of their log: it has done all strata before the present one, and of that
-- some commits of each thread, its first ones; and maybe pieces of one more.
use Rattle.std.specs.Prelude.{◌≡◌, ◌↔◌, ℕ, ◌<◌, ◌≤◌, ◌⊎◌, ◌++◌, List, [], ◌∷◌, length, take, slice_index_or, Option, Some, None}
use Rattle.dl_entry.specs.declared.Commit.{Commit}
use Rattle.dl_entry.specs.declared.End.{End}
use Rattle.spec_isa.specs.declared.thread.Parts.{Parts}
use Rattle.spec_log.specs.declared.LogParts.{LogParts}
use Rattle.spec_play.specs.Turns.{Turn, Ended}
use Rattle.spec_play.specs.Plays.{Played, opened, play, plays}
use Rattle.spec_strata.specs.declared.stratum.Stratum.{Stratum}
use Rattle.spec_strata.specs.declared.stratum.Stratum.TheVariants.{Chunks, Serial, Dma}
use Rattle.spec_strata.specs.declared.strata.StrataParts.{StrataParts}
use Rattle.spec_strata.specs.Strata.{commits_in_all}
use Rattle.spec_strata.specs.Canonical.{canonical}
use Rattle.spec_strata.specs.InPlay.{commits_by, in_stratum}
use Rattle.spec_strata.specs.Standing.{Standing}
use Rattle.spec_sphere.specs.sphere.Spheres.{Cursor, Replay, Sphere}
use Rattle.spec_sphere.specs.sphere.Commits.{now_by}
use Rattle.spec_sphere.specs.sphere.Setups.{SphereSetup}
use Rattle.spec_replay.specs.Following.{IsWhole, IsMovedOn}

-- how many chunks of a thread are done in the present stratum, and how many it has
abbrev pub done_by : Standing → (thread : ℕ) → ℕ
done_by x k = slice_index_or x.done k 0

abbrev pub count_in : List Stratum → (thread : ℕ) → ℕ
count_in [] k = 0
count_in (Chunks counts ∷ xs) k = slice_index_or counts k 0
count_in (Serial thread ∷ xs) k = 0
count_in (Dma ∷ xs) k = 0

-- pieces of thread k's next chunk are done, which has the turn until the chunk is whole
pub record HasPieces (log : LogParts) (at : Played) (x : Standing) (k : ℕ) (p : Sphere) (b : Cursor) : Type 0 where
  pub thread : Parts
  pub moved : IsMovedOn log at k thread p b
  pub some : 0 < b.total
  pub turn : b.now ≡ Turn k
  pub left : done_by x k < count_in x.strata k

-- where the log's play is before the present stratum, and where it would be after what is done of the stratum
abbrev pub stratum_from : StrataParts → SphereSetup → Standing → Played
stratum_from v image x = plays (canonical v) (opened (canonical v) image.memory image.entry) x.before

abbrev pub stratum_at : StrataParts → SphereSetup → Standing → Played
stratum_at v image x = in_stratum (canonical v) (stratum_from v image x) (done_by x)

-- the sphere p, with its current memory, has come as far in the strata as its cursor says
pub record FollowsInStrata (v : StrataParts) (image : SphereSetup) (p : Sphere) : Type 0 where
  pub cursor : Cursor
  pub role : p.role ≡ Replay cursor
  pub same_log : cursor.log ≡ canonical v
  pub whole : cursor.interval ≡ None
  pub standing : Standing
  pub there : cursor.strata ≡ Some standing
  -- the strata that are done, and how many commits they have
  pub past : List Stratum
  pub strata : v.strata ≡ past ++ standing.strata
  pub before : standing.before ≡ commits_in_all past
  pub few : (k : ℕ) → done_by standing k ≤ count_in standing.strata k
  -- the same commits in canonical order, with their loads and outputs, the same request, and the same parts of the log used
  pub progress : p.progress ≡ (stratum_at v image standing).progress
  pub used : cursor.used ≡ (stratum_at v image standing).used
  pub state : let at = stratum_at v image standing in
      IsWhole at p cursor ⊎ ((k : ℕ) × HasPieces (canonical v) at standing k p cursor)
  pub now : let at = stratum_at v image standing in
      cursor.total ≡ 0 → cursor.now ≡ now_by (Some standing) (canonical v) at.progress at.used at.threads

-- ---- it never diverges

-- these commits are the first ones of all
abbrev pub AreFirst : (commits all : List Commit) → Type 0
AreFirst commits all = take (length commits) all ≡ commits

-- the sphere p is complete exactly if no stratum is left, and ends in no other way. Each thread's commits, and those of DMAs,
-- are its first ones of the play of the strata's log, with their loads and outputs
pub record NeverDiverges (v : StrataParts) (image : SphereSetup) (p : Sphere) : Type 0 where
  pub cursor : Cursor
  pub role : p.role ≡ Replay cursor
  pub standing : Standing
  pub there : cursor.strata ≡ Some standing
  pub ends : (how : End) → (cursor.now ≡ Ended how) ↔ ((standing.strata ≡ []) × (how ≡ End.Complete (canonical v).count))
  pub first : (by : Option ℕ) → let all = (play (canonical v) image.memory image.entry).progress.commits in
      AreFirst (commits_by by p.progress.commits) (commits_by by all)
