use Rattle.std.proofs.Common.{◌≡◌, ◌++◌, take, flat_map}
use Rattle.dl_entry.specs.Counts.{count_of}
use Rattle.dl_account.specs.Replies.{reply_line}
use Rattle.dl_account.proofs.replies.put_each.Given as goal

abbrev pub invariant-loop-name : goal.invariant-loop-name
invariant-loop-name l =
    l.text ≡ l.initial.text ++ flat_map (λ name. reply_line name (count_of l.counts name)) (take l.name-index l.names)
