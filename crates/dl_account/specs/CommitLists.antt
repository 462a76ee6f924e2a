-- The commits of an account, in one list or in several.
use Rattle.std.specs.Prelude.{List, ◌++◌, flat_map}
use Rattle.dl_entry.specs.declared.commit.Commit.{Commit}
use Rattle.dl_account.specs.declared.commit_lists.CommitLists.{CommitLists}

-- those of the first slice, then those of each list
abbrev pub commits_in : CommitLists → List Commit
commits_in lists = lists.whole.now ++ flat_map (λ list. list.items) lists.by_thread.now
