use Rattle.std.proofs.Common.{◌≡◌, ◌++◌, take}
use Rattle.std.specs.List.{flat_map}
use Rattle.spec_tail.specs.Bytes.{thread_bytes}
use Rattle.dl_tail.proofs.writing.put_threads.Given as goal

-- those so far are put
abbrev pub invariant-loop-thread : goal.invariant-loop-thread
invariant-loop-thread l = l.out.items ≡ l.initial.out.items ++ flat_map thread_bytes (take l.thread-index l.threads)
