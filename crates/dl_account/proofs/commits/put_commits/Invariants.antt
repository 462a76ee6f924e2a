use Rattle.std.proofs.Common.{◌≡◌, ◌+◌, ◌++◌, length, take, flat_map}
use Rattle.dl_account.specs.Commits.{commit_lines}
use Rattle.dl_account.specs.Lines.{numbered}
use Rattle.dl_account.proofs.commits.put_commits.Given as goal

-- the lists so far are put, and the number goes on
abbrev pub invariant-loop-list : goal.invariant-loop-list
invariant-loop-list l =
    let done = l.commits.whole.now ++ flat_map (λ list. list.items) (take l.list-index l.commits.by_thread.now) in
    (l.text ≡ l.fn.text ++ numbered commit_lines l.first done)
    × (l.number ≡ l.first + length done)
