use Rattle.std.proofs.Common.{◌≡◌, ◌<◌, length, take, arith}
use Rattle.std.proofs.lemmas.List.{length-drop}
use Rattle.dl_tail.proofs.PutLaws.{left-whole, rows-step, rows-end, filled-one, few-rows}
use Rattle.dl_tail.proofs.writing.count_rows.Goals as goal

pub overflow_add-count : goal.overflow_add-count
overflow_add-count c =
    let few = few-rows c.args.memory.now in
    let all = c.loop-rest.invariant.0 in
    let most = c.requires.few in
    let row = (rw c.first_row.ensures at c.filled_rows-count.ensures) in
    let one = filled-one (take 32 c.loop-rest.rest.now) in
    omega (arith, few, all, most, row, one)

pub loop-rest-preserved : goal.loop-rest-preserved
loop-rest-preserved c =
    let rest = c.loop-rest.rest.now in
    let whole = c.loop-rest.invariant.1 in
    let most = c.loop-rest.invariant.2 in
    let long = c.loop-rest-test.true in
    let some : 0 < length c.loop-rest.rest.now = omega (arith, long) in
    let step = rows-step rest whole some in
    let all = c.loop-rest.invariant.0 in
    let row = (rw c.first_row.ensures at c.filled_rows-count.ensures) in
    rw c.next_rows-rest.ensures (omega (arith, all, step, row), left-whole rest whole some, omega (arith, length-drop 32 rest, most))

pub returns : goal.returns
returns c =
    let whole = c.loop-rest.invariant.1 in
    let short = c.loop-rest-test.false in
    let none : length c.loop-rest.rest.now ≡ 0 = omega (arith, whole, short) in
    let end = rows-end c.loop-rest.rest.now none in
    let all = c.loop-rest.invariant.0 in
    omega (arith, end, all)

pub loop-rest-smaller : goal.loop-rest-smaller
loop-rest-smaller c =
    let long = c.loop-rest-test.true in
    rw c.next_rows-rest.ensures (omega (arith, length-drop 32 c.loop-rest.rest.now, long))
