use Rattle.std.proofs.Common.{arith, ◌≡◌, ℕ, ◌<◌, None, length}
use Rattle.dl_finish.specs.Turns.{on_core}
use Rattle.dl_finish.proofs.Searching.{for_core_is, for_core_none}
use Rattle.dl_finish.proofs.next.for_thread.Goals as goal

pub returns-in-Some : goal.returns-in-Some
returns-in-Some g c =
    let w = c.args.machine.now in
    let n = c.cores-core-end.ensures.value in
    let l = c.loop-core-test.true in
    for_core_is w c.args.sphere c.args.thread c.loop-core.core c.in-Some.event (omega (arith, n, l)) c.loop-core.invariant c.in-Some.ensures

pub returns : goal.returns
returns g c =
    let w = c.args.machine.now in
    let n = c.cores-core-end.ensures.value in
    let l = c.loop-core-test.false in
    let each : (j : ℕ) → j < length w.cores → on_core w j c.args.sphere c.args.thread ≡ None = λ j m. c.loop-core.invariant j (omega (arith, n, l, m)) in
    for_core_none w c.args.sphere c.args.thread each
