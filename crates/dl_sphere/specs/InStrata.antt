-- How the commits of a sphere that is replayed in strata are listed.
use Rattle.std.specs.Prelude.{◌≡◌, ℕ, suc, ◌<◌, ◌≤◌, Bool, true, false, IsTrue, List, [], ◌∷◌, ◌++◌, length, insert, Option, Some, None}
use Rattle.std.specs.List.{sum}
use Rattle.dl_entry.specs.declared.Actor.{Actor}
use Rattle.dl_entry.specs.declared.Commit.{Commit}
use Rattle.spec_play.specs.Turns.{TurnOrEnd}
use Rattle.spec_sphere.specs.sphere.Spheres.{actor_of}
use Rattle.spec_strata.specs.declared.stratum.Stratum.{Stratum}
use Rattle.spec_strata.specs.declared.stratum.Stratum.TheVariants.{Chunks, Serial, Dma}
use Rattle.spec_strata.specs.Standing.{Standing, head_standing, place_of}
use Rattle.spec_strata.specs.Strata.{HaveSome}
use Rattle.dl_kernel.specs.InOrder.{Listed, NoneWaits, end_of, has_room, listed}
use Rattle.dl_mode.specs.Strata.{takes_at}

-- the present stratum isn't over: of its chunks fewer are done than are counted; of another one nothing is
abbrev pub IsGoing : List Stratum → (done : List ℕ) → Type 0
IsGoing [] done = done ≡ []
IsGoing (Chunks counts ∷ xs) done = (length done ≡ length counts) × (sum done < sum counts)
IsGoing (Serial thread ∷ xs) done = done ≡ []
IsGoing (Dma ∷ xs) done = done ≡ []

-- the sphere has all commits, and each thread's next one belongs at the end of its list; and the one that has the turn may
-- commit in the present stratum
pub record AreInStrata (x : Standing) (now : TurnOrEnd) (first : ℕ) (commits : Listed) : Type 0 where
  pub all : first ≡ 0
  pub ends : (thread : ℕ) → end_of thread commits ≡ place_of thread x
  pub each : HaveSome x.strata
  pub going : IsGoing x.strata x.done
  pub turn : (a : Actor) → actor_of now ≡ Some a → takes_at (Some x) (head_standing x) a ≡ true

abbrev pub AreInStrataIf : Option Standing → TurnOrEnd → (first : ℕ) → Listed → Type 0
AreInStrataIf None now first commits = Unit {0}
AreInStrataIf (Some x) now first commits = AreInStrata x now first commits

-- ---- a commit more of a thread, told whether the present stratum begins then, if there are strata

-- there is room for it, in strata in the thread's list too
abbrev pub HasRoomIn : (thread : ℕ) → (begins : Option Bool) → Listed → Type 0
HasRoomIn k None commits = IsTrue commits.room
HasRoomIn k (Some begins) commits = IsTrue commits.room × IsTrue (has_room commits.rooms k)

-- it waits at the end of the thread's list
pub record IsWaiting (k : ℕ) (c : Commit) (old new : Listed) : Type 0 where
  pub all : listed new ≡ insert (listed old) (end_of k old) c
  pub before : (j : ℕ) → j < k → end_of j new ≡ end_of j old
  pub after : (j : ℕ) → k ≤ j → end_of j new ≡ suc (end_of j old)

-- it is put there, and then none waits
pub record IsSettled (k : ℕ) (c : Commit) (old new : Listed) : Type 0 where
  pub all : listed new ≡ insert (listed old) (end_of k old) c
  pub none : NoneWaits new

-- it comes after all others, or in strata it waits until its stratum is over
abbrev pub IsPutIn : (thread : ℕ) → (begins : Option Bool) → Commit → (old new : Listed) → Type 0
IsPutIn k None c old new = listed new ≡ listed old ++ c ∷ []
IsPutIn k (Some false) c old new = IsWaiting k c old new
IsPutIn k (Some true) c old new = IsSettled k c old new
