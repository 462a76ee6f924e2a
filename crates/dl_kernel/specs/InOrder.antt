-- Commits in the order of an account, some of which wait in lists by thread.
use Rattle.std.specs.Prelude.{ℕ, suc, ◌+◌, ◌≡◌, nat_lt, Bool, false, List, ◌++◌, flat_map, map, length, take, slice_index_or, Vec, vec_len, vec_capacity}
use Rattle.std.specs.Global.{Global}
use Rattle.dl_entry.specs.declared.Commit.{Commit}

-- the commits that wait for nothing, those after them that wait, by thread, and whether there is room for one more: among all,
-- and in the list of each thread
pub record Listed : Type 0 where
  pub whole : List Commit
  pub by_thread : List (List Commit)
  pub room : Bool
  pub rooms : List Bool

-- all commits of lists, one list after the other
abbrev pub joined : List (List Commit) → List Commit
joined lists = flat_map (λ commits. commits) lists

-- all of them in the order of the account
abbrev pub listed : Listed → List Commit
listed x = x.whole ++ joined x.by_thread

-- which lists have room for one more commit
abbrev pub rooms_of : List (Vec Commit Global) → List Bool
rooms_of lists = map (λ list. nat_lt (vec_len list) (vec_capacity list)) lists

-- a thread has a list with room for one more commit
abbrev pub has_room : List Bool → (thread : ℕ) → Bool
has_room rooms thread = slice_index_or rooms thread false

-- how many commits come before the end of a thread's list
abbrev pub end_of : (thread : ℕ) → Listed → ℕ
end_of k x = length x.whole + length (joined (take (suc k) x.by_thread))

-- nothing is moved, except that there may be more empty lists
pub record AreSame (x y : Listed) : Type 0 where
  pub all : listed x ≡ listed y
  pub ends : (thread : ℕ) → end_of thread x ≡ end_of thread y

-- each list ends after all commits, so none waits
abbrev pub NoneWaits : Listed → Type 0
NoneWaits x = (thread : ℕ) → end_of thread x ≡ length (listed x)
