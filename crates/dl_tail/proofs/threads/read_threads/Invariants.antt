use Rattle.std.proofs.Common.{◌≡◌, ◌-◌}
use Rattle.spec_log.specs.Fields.{repeated}
use Rattle.spec_tail.specs.Reading.{threads}
use Rattle.dl_tail.proofs.threads.read_threads.Given as goal

-- the threads that are left, after those so far, are read as all of them
abbrev pub invariant-loop : goal.invariant-loop
invariant-loop l =
    repeated threads.one l.count l.initial.draft l.bytes l.initial.at ≡ repeated threads.one (l.count - l.counter) l.draft l.bytes l.at
